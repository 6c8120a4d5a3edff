use Rattle.std.proofs.Common.{length}
use Rattle.sharding_gather.proofs.LayingLaws.{filled_piece}
use Rattle.sharding_gather.proofs.laying.room_for.Goals as goal

pub returns-then-filled-clause-filled : goal.returns-then-filled-clause-filled
returns-then-filled-clause-filled c = λ requested i li. filled_piece (length c.args.fill.now) c.args.cells i c.in_ok-all.all.items c.args.fill.now li c.in_ok-all.ensures.each
