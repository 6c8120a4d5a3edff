use Rattle.std.proofs.Common.{length}
use Rattle.sharding_gather.proofs.LayingLaws.{filled}
use Rattle.sharding_gather.proofs.laying.blank.Goals as goal

pub returns-then-any_absent : goal.returns-then-any_absent
returns-then-any_absent c = λ k lt none. filled (length c.args.fill.now) c.args.positions c.in_ok-all.all.items c.args.fill.now c.in_ok-all.ensures.len c.in_ok-all.ensures.each
