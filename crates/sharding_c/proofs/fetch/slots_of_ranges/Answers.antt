use Rattle.std.proofs.Common.{rules}
use Rattle.sharding_c.proofs.FetchLemmas.{bad_range}
use Rattle.sharding_c.proofs.fetch.slots_of_ranges.Goals as goal

pub returns-then-eq-clause-refused : goal.returns-then-eq-clause-refused
returns-then-eq-clause-refused c =
    let l = c.loop-i in
    bad_range c.args.ranges.now l.i l.slots.items l.invariant.slots_are l.invariant.good c.loop-i-test.true (search rules)
