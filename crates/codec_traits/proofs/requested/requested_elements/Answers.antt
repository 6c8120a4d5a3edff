use Rattle.std.proofs.Common.{◌≡◌, ◌∙◌, map, sym, arith}
use Rattle.std.proofs.lemmas.List.{take_all}
use Rattle.parts_row_major.specs.Numbering.{number_of}
use Rattle.parts_arrays.specs.Arrays.{element_of}
use Rattle.parts_row_major.proofs.PieceLaws.{map-map}
use Rattle.parts_subsets.proofs.SelectionLemmas.{numbers_of-points_of, selection_inside, point_inside_at}
use Rattle.codec_traits.proofs.requested.requested_elements.Goals as goal

pub returns-in-Some-clause-requested : goal.returns-in-Some-clause-requested
returns-in-Some-clause-requested g c =
    let extracted = rw c.as_slice.ensures.value at c.extract_array_subset.ensures.extracted in
    rw c.in-Some.ensures.some (rw (numbers_of-points_of c.in-Some.subset.now c.args.shape.now) at extracted)

pub requested_number-number-requires-clause-inside : goal.requested_number-number-requires-clause-inside
requested_number-number-requires-clause-inside g c =
    let selection = g.N.Indexer.selection c.args.indexer.now in
    let inside = selection_inside c.args.shape.now selection (g.met.N.Indexer.matches_subset c.args.indexer.now) c.requires.selection in
    rw c.as_slice-axes.ensures.value (point_inside_at c.args.shape.now selection.points c.loop-i.i inside (omega arith))

pub returns-clause-requested : goal.returns-clause-requested
returns-clause-requested g c =
    let points = (g.N.Indexer.selection c.args.indexer.now).points in
    let shape = c.args.shape.now in
    let array = c.args.array.now in
    let whole = take_all c.loop-i.i points (omega arith) in
    let elements : c.loop-i.requested.elements ≡ map (element_of array) (map (λ point. number_of point shape) points) =
    rw (c.as_slice-axes.ensures.value, whole) at c.loop-i.invariant.so_far ∙ sym (map-map (element_of array) (λ point. number_of point shape) points) in
    rw (← elements, ← c.loop-i.invariant.kind) c.finish.ensures
