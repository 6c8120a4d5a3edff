use Rattle.std.proofs.Common.{◌≡◌, ◌∙◌, ℕ, ◌<◌, List, [], map, length, get_or, sym, ap, zero-add, arith}
use Rattle.std.proofs.lemmas.List.{length-map, get_or-map}
use Rattle.std.proofs.lemmas.List.FromFn.{length-range_with_len, get_or-range_with_len}
use Rattle.std.specs.List.{range_with_len}
use Rattle.parts_row_major.specs.Numbering.{count_of, number_of}
use Rattle.parts_row_major.specs.Subsets.{Subset, number_in, numbers_in, points_of}
use Rattle.parts_subsets.specs.Selections.{Selection}
use Rattle.parts_arrays.specs.Arrays.{Array, element_of}
use Rattle.parts_row_major.proofs.SubsetLaws.{length-points_of}
use Rattle.parts_subsets.proofs.SelectionLemmas.{numbers_of-points_of}
use Rattle.codec_traits.proofs.requested.put_requested.Goals as goal

-- the element at a subset's cell is the requested one
subset_requested : (array : Array) (subset : Subset) (shape : List ℕ) (k : ℕ) → k < count_of subset.shape
    → element_of array (number_in subset shape k) ≡ get_or (map (element_of array) (map (λ point. number_of point shape) (points_of subset))) k []
subset_requested array subset shape k lt =
    let positions = range_with_len 0 (count_of subset.shape) in
    let long : k < length positions = omega (arith, lt, length-range_with_len 0 (count_of subset.shape)) in
    let below : k < length (numbers_in subset shape) = omega (arith, long, length-map positions (number_in subset shape)) in
    let at : get_or (numbers_in subset shape) k 0 ≡ number_in subset shape k =
    get_or-map (number_in subset shape) positions k 0 0 long ∙ ap (number_in subset shape) (get_or-range_with_len 0 (count_of subset.shape) k 0 lt ∙ zero-add k) in
    rw (← numbers_of-points_of subset shape) (ap (element_of array) (sym at) ∙ sym (get_or-map (element_of array) (numbers_in subset shape) k 0 [] below))

pub copy_subset_from-requires-clause-counted : goal.copy_subset_from-requires-clause-counted
copy_subset_from-requires-clause-counted g c =
    sym (c.requires.whole ∙ c.requires.count ∙ ap (λ (selection : Selection). length selection.points) c.in-Some.ensures.some ∙ length-points_of c.in-Some.subset.now)

pub returns-in-Some-clause-written : goal.returns-in-Some-clause-written
returns-in-Some-clause-written g c =
    let subset = c.in-Some.subset.now in
    let shape = c.args.shape.now in
    let counted : count_of subset.shape ≡ count_of c.args.target.now.subset.now.shape =
    sym (c.requires.whole ∙ c.requires.count ∙ ap (λ (selection : Selection). length selection.points) c.in-Some.ensures.some ∙ length-points_of subset) in
    let wrote = rw c.as_slice.ensures.value at c.copy_subset_from.ensures in
    rw c.in-Some.ensures.some (record {
      reference = wrote.reference;
      element_size = wrote.element_size;
      shape = wrote.shape;
      subset = wrote.subset;
      length = wrote.length;
      elements = record {
        inside = λ k lt. wrote.elements.inside k lt ∙ subset_requested c.args.array.now subset shape k (omega (arith, lt, counted));
        outside = wrote.elements.outside;
      };
    })
