use Rattle.std.proofs.Common.{map}
use Rattle.sharding_gather.proofs.GroupingLemmas.{AreStanding}
use Rattle.sharding_gather.proofs.grouping.grouped.Given as goal

abbrev pub invariant-loop-cell : goal.invariant-loop-cell
invariant-loop-cell l =
    AreStanding l.shape l.sub l.numbers l.used.items l.cell-index (map (λ list. list.items) l.positions.items) l.standings.items
