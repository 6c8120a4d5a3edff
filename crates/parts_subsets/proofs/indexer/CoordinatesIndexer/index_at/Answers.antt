use Rattle.std.proofs.Common.{refl, arith}
use Rattle.std.proofs.lemmas.Nat.{row_fits}
use Rattle.parts_row_major.proofs.PieceLaws.{length-pieces, piece_of-pieces}
use Rattle.parts_subsets.proofs.indexer.CoordinatesIndexer.index_at.Goals as goal

pub number_along_list-requires-clause-whole : goal.number_along_list-requires-clause-whole
number_along_list-requires-clause-whole c =
    let below = rw (← c.self.view_is, length-pieces) at c.requires.position in
    let list = c.self.inside in
    rw c.deref.ensures.value (omega (arith, row_fits c.args.i list.dimensionality list.count list.dimensionality below (omega arith), c.self.invariant))

pub returns : goal.returns
returns c =
    let below = rw (← c.self.view_is, length-pieces) at c.requires.position in
    let list = c.self.inside in
    rw (c.number_along_list.ensures, c.deref.ensures.value, ← c.self.view_is, piece_of-pieces list.dimensionality list.count list.flat.items c.args.i below) refl
