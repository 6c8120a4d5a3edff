use Rattle.std.proofs.Common.{refl, arith}
use Rattle.parts_row_major.proofs.PieceLaws.{length-pieces}
use Rattle.parts_subsets.proofs.indexer.CoordinatesIndexer.len.Goals as goal

pub returns-clause-value : goal.returns-clause-value
returns-clause-value c = rw (← c.self.view_is, length-pieces) (omega (arith, c.self.invariant), refl)
