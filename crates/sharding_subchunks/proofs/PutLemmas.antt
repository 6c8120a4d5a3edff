-- A shard that is put into a target, slot by slot.
use Rattle.std.proofs.Common.{◌≡◌, ◌≢◌, ℕ, ◌+◌, ◌<◌, List, [], Option, Some, None, length, map, get_or, refl, sym, ap, subst, ◌∙◌, arith}
use Rattle.std.proofs.lemmas.List.{get_or-map}
use Rattle.std.proofs.lemmas.List.FromFn.{get_or-map-range_with_len}
use Rattle.std.specs.List.{range_with_len}
use Rattle.parts_row_major.specs.Numbering.{count_of}
use Rattle.parts_row_major.specs.Subsets.{Subset, IsSubset, LiesIn, number_in}
use Rattle.parts_row_major.specs.Pieces.{piece, pieces, IsUpdated}
use Rattle.parts_arrays.specs.ArraySpec.{ArraySpec}
use Rattle.parts_subsets.specs.Grid.{Divides, grid_of, grid_subset, cell_number}
use Rattle.parts_arrays.specs.declared.target.FixedTarget.{FixedTarget}
use Rattle.parts_arrays.specs.Targets.{target_bytes, target_element_size, target_shape, target_subset, IsPartWritten}
use Rattle.parts_row_major.proofs.PieceLaws.{same_point, piece_of-pieces, length-pieces}
use Rattle.parts_subsets.proofs.GridLaws.{cell_number-below}
use Rattle.codec_traits.specs.CellLaws.{all_there-map_some}
use Rattle.codec_traits.specs.Encodings.{IsPlain}
use Rattle.codec_traits.specs.Meanings.{Meaning}
use Rattle.codec_traits.specs.Reads.{IsDecodedInto}
use Rattle.sharding_format.specs.Index.{slot_at, slice_at}
use Rattle.sharding_format.specs.Cells.{indexed_cell}
use Rattle.sharding_format.specs.declared.slot.Slot.TheVariants.{Absent, InRange}
use Rattle.sharding_gather.specs.steps.Placings.{shifted_subset}
use Rattle.sharding_gather.proofs.PlacingLemmas.{placed_number}
use Rattle.sharding_subchunks.specs.steps.Writes.{IsSlotPut}
use Rattle.sharding_subchunks.proofs.WholeLemmas.{IsPutTo, put_none, put_more, put_all}

-- fill values were put where a subchunk is absent
pub absent_put : (inner_cells : List ℕ → List (Option (List ℕ))) (fill b : List ℕ) (positions : ℕ) (position : Subset) (old new : FixedTarget)
    → IsPartWritten old new position (λ k. fill) → IsSlotPut inner_cells fill b Absent positions position old new
absent_put inner_cells fill b positions position old new wrote = record {
  there = tt;
  element = λ k. fill;
  cells = λ p lt. refl;
  written = wrote;
}

-- a slice of a plain codec was put
pub slice_put : (g : ArraySpec) (m : Meaning) (size offset len : ℕ) (b : List ℕ) (position : Subset) (old new : FixedTarget) → IsPlain g m size → length (slice_at offset len b) ≡ size
    → IsPartWritten old new position (piece (length g.fill) (slice_at offset len b)) → IsSlotPut m.cells g.fill b (InRange offset len) (count_of g.shape) position old new
slice_put g m size offset len b position old new plain long wrote =
    let part : List ℕ = slice_at offset len b in
    let all : List (List ℕ) = pieces (length g.fill) (count_of g.shape) part in
    let is : m.cells part ≡ map Some all = plain.cells part long in
    record {
      there = rw (is, all_there-map_some all) refl;
      element = piece (length g.fill) part;
      cells = λ p lt.
          ap (λ cells. get_or cells p None) is
          ∙ (get_or-map Some all p [] None (omega (arith, lt, length-pieces (length g.fill) (count_of g.shape) part)) ∙ ap Some (piece_of-pieces (length g.fill) (count_of g.shape) part p lt));
      written = wrote;
    }

-- the subchunks below k were put into a target
pub record IsTargetPut (inner_cells : List ℕ → List (Option (List ℕ))) (shape sub fill b index : List ℕ) (k : ℕ) (old new : FixedTarget) : Type 0 where
  pub reference : (target_bytes new).ghost_name ≡ (target_bytes old).ghost_name
  pub element_size : target_element_size new ≡ target_element_size old
  pub axes : target_shape new ≡ target_shape old
  pub subset : target_subset new ≡ target_subset old
  pub whole : length (target_bytes new).now ≡ length (target_bytes old).now
  pub so_far : IsPutTo inner_cells shape sub fill b index k (λ i. piece (length fill) (target_bytes new).now (number_in (target_subset old) (target_shape old) i))
  pub others : (j : ℕ) → ((i : ℕ) → i < count_of shape → number_in (target_subset old) (target_shape old) i ≢ j) → piece (length fill) (target_bytes new).now j ≡ piece (length fill) (target_bytes old).now j

module _ (inner_cells : List ℕ → List (Option (List ℕ))) (shape sub fill b index : List ℕ) (divides : Divides sub shape) (first : FixedTarget)
    (sized : target_element_size first ≡ length fill) (shaped : (target_subset first).shape ≡ shape) where
  -- before the first
  pub target_put_none : IsTargetPut inner_cells shape sub fill b index 0 first first
  target_put_none = record {
    reference = refl;
    element_size = refl;
    axes = refl;
    subset = refl;
    whole = refl;
    so_far = put_none inner_cells shape sub fill b index divides (λ i. piece (length fill) (target_bytes first).now (number_in (target_subset first) (target_shape first) i));
    others = λ j none. refl;
  }

  -- one more
  pub target_put_more : (k : ℕ) (old new : FixedTarget) (position : Subset) → IsSubset (target_subset first).start (target_subset first).shape → LiesIn (target_subset first) (target_shape first)
      → k < count_of (grid_of shape sub) → position ≡ shifted_subset (target_subset first) (grid_subset (grid_of shape sub) sub k)
      → IsTargetPut inner_cells shape sub fill b index k first old → IsSlotPut inner_cells fill b (slot_at (length b) index k) (count_of sub) position old new
      → IsTargetPut inner_cells shape sub fill b index (k + 1) first new
  target_put_more k old new position well lies lk is known put =
      let axes : List ℕ = target_shape first in
      let subset : Subset = target_subset first in
      let counted : count_of position.shape ≡ count_of sub = ap (λ (r : Subset). count_of r.shape) is in
      let all : count_of subset.shape ≡ count_of shape = ap count_of shaped in
      let wrote : IsUpdated (count_of sub) (number_in position axes) (piece (length fill) (target_bytes old).now) put.element (piece (length fill) (target_bytes new).now) =
      rw (known.element_size ∙ sized, known.axes, counted) at put.written.elements in
      let there : (p : ℕ) → p < count_of sub → number_in position axes p ≡ number_in subset axes (cell_number shape sub k p) = λ p lp.
      ap (λ (r : Subset). number_in r axes p) is ∙ placed_number shape sub axes subset k p divides shaped lk lp in
      record {
        reference = put.written.reference ∙ known.reference;
        element_size = put.written.element_size ∙ known.element_size;
        axes = put.written.shape ∙ known.axes;
        subset = put.written.subset ∙ known.subset;
        whole = put.written.length ∙ known.whole;
        so_far = put_more inner_cells shape sub fill b index divides k (λ i. piece (length fill) (target_bytes old).now (number_in subset axes i)) (λ i. piece (length fill) (target_bytes new).now (number_in subset axes i)) lk known.so_far put.there
            (λ p lp. put.cells p lp ∙ ap Some (sym (ap (piece (length fill) (target_bytes new).now) (sym (there p lp)) ∙ wrote.inside p lp)))
            (λ i li none. wrote.outside (number_in subset axes i) (λ p lp e.
            none p lp (same_point subset axes (cell_number shape sub k p) i well lies (omega (arith, cell_number-below shape sub divides k p lk lp, all)) (omega (arith, li, all)) (sym (there p lp) ∙ e))));
        others = λ j none. wrote.outside j (λ p lp e. none (cell_number shape sub k p) (cell_number-below shape sub divides k p lk lp) (sym (there p lp) ∙ e)) ∙ known.others j none;
      }

  -- when all are put, the target's subset has the shard's cells
  pub target_put_all : (n : ℕ) (new : FixedTarget) → n ≡ count_of (grid_of shape sub) → IsTargetPut inner_cells shape sub fill b index n first new
      → IsDecodedInto first new (map (indexed_cell inner_cells shape sub fill b index) (range_with_len 0 (count_of shape)))
  target_put_all n new is known =
      let at : ℕ → List ℕ = λ i. piece (length fill) (target_bytes new).now (number_in (target_subset first) (target_shape first) i) in
      let all : count_of (target_subset first).shape ≡ count_of shape = ap count_of shaped in
      let element : ℕ → List ℕ = λ i. get_or (map at (range_with_len 0 (count_of shape))) i [] in
      let done : IsUpdated (count_of shape) (number_in (target_subset first) (target_shape first)) (piece (length fill) (target_bytes first).now) element (piece (length fill) (target_bytes new).now) = record {
        inside = λ i li. sym (get_or-map-range_with_len at 0 (count_of shape) i i [] li (omega (arith, li)));
        outside = λ j none. known.others j none;
      } in
      record {
        elements = map at (range_with_len 0 (count_of shape));
        there = put_all inner_cells shape sub fill b index divides n at is known.so_far;
        written = record {
          reference = known.reference;
          element_size = known.element_size;
          shape = known.axes;
          subset = known.subset;
          length = known.whole;
          elements = subst (λ n. IsUpdated (count_of (target_subset first).shape) (number_in (target_subset first) (target_shape first)) (piece n (target_bytes first).now) element (piece n (target_bytes new).now)) (sym sized)
              (subst (λ n. IsUpdated n (number_in (target_subset first) (target_shape first)) (piece (length fill) (target_bytes first).now) element (piece (length fill) (target_bytes new).now)) (sym all) done);
        };
      }
