use Rattle.std.proofs.Common.{[], arith}
use Rattle.parts_row_major.proofs.PieceLaws.{All-pieces}
use Rattle.parts_subsets.proofs.indexer.CoordinatesIndexer.dimensionality.Goals as goal

pub returns-clause-each : goal.returns-clause-each
returns-clause-each c =
    let list = c.self.inside in
    rw (← c.self.view_is)
    (λ i lt. All-pieces list.dimensionality list.count list.flat.items (omega (arith, c.self.invariant)) i [] lt)
