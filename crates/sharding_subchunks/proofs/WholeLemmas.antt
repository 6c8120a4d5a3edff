-- A whole shard that is decoded subchunk by subchunk to where each lies.
use Rattle.std.proofs.Common.{◌≡◌, ◌≢◌, ℕ, ◌+◌, ◌<◌, ◌≤◌, List, [], Option, Some, None, inl, inr, ◌⊎◌, length, map, get_or, refl, sym, ap, ◌∙◌, arith}
use Rattle.std.proofs.lemmas.Bool.{cases_lt}
use Rattle.std.proofs.lemmas.List.{length-map, get_or-map}
use Rattle.std.specs.List.{range_with_len}
use Rattle.parts_errors.specs.Order.{◌or◌then◌, ◌or_as◌then◌, RefusedBy}
use Rattle.parts_errors.specs.declared.error.CodecError.{CodecError}
use Rattle.parts_errors.specs.declared.error.CodecError.TheVariants.{OutOfMemory}
use Rattle.parts_row_major.specs.Numbering.{count_of}
use Rattle.parts_row_major.specs.Pieces.{piece, pieces, IsUpdated}
use Rattle.parts_row_major.specs.Subsets.{Subset, number_in}
use Rattle.parts_arrays.specs.declared.target.FixedTarget.{FixedTarget}
use Rattle.parts_arrays.specs.Targets.{target_bytes, target_element_size, target_shape, target_subset, IsWritten, IsPartWritten}
use Rattle.parts_subsets.specs.Grid.{Divides, grid_of, subchunk_number, position_number, cell_number, subset_of_subchunk}
use Rattle.parts_row_major.proofs.PieceLaws.{map-map, map_range_same, piece_of-pieces, length-pieces}
use Rattle.parts_subsets.proofs.GridLaws.{subchunk_number-below, position_number-below, cell_number-below, cell_number-located, subchunk_number-cell_number, number_in-subset_of_subchunk}
use Rattle.codec_traits.specs.CellLaws.{all_there-map_some}
use Rattle.codec_traits.specs.Encodings.{IsPlain}
use Rattle.codec_traits.specs.Meanings.{Meaning}
use Rattle.codec_traits.specs.Refusals.{RefusesUnserved, MayRefuseDecode}
use Rattle.parts_arrays.specs.ArraySpec.{ArraySpec}
use Rattle.sharding_format.specs.Index.{slot_at, slice_at, numbers_in_index}
use Rattle.sharding_format.specs.Cells.{cell_in, indexed_cell, shard_cells}
use Rattle.sharding_format.specs.Serves.{layout_of}
use Rattle.sharding_format.specs.declared.location.ShardingIndexLocation.{ShardingIndexLocation}
use Rattle.sharding_format.specs.declared.order.SubchunkWriteOrder.{SubchunkWriteOrder}
use Rattle.sharding_format.specs.DecodeRefusals.{stored_refusal, RefusesStored, HasArray}
use Rattle.sharding_format.specs.declared.slot.Slot.TheVariants.{Absent, InRange}
use Rattle.sharding_subchunks.specs.steps.Writes.{IsSlotWritten}

is_memory : (e : CodecError) → (e ≡ OutOfMemory) ⊎ (e ≢ OutOfMemory)
is_memory OutOfMemory = inl refl
is_memory e = inr (λ is. cc)

-- what becomes of the refusal of a codec that serves
pub stored_refused : (m : Meaning) (b : List ℕ) (e r : CodecError) → m.serves → RefusedBy (m.serves or_as RefusesUnserved m then m.decode_refusals b) e → MayRefuseDecode (m.cells b) e → r ≡ stored_refusal e
    → RefusedBy (RefusesStored (m.decode_refusals b) (m.cells b)) r
stored_refused m b e r serves refused lawful is =
    elim (is_memory e) [
      | inl memory ↦ inl (is ∙ ap stored_refusal memory)
      | inr no_memory ↦ elim refused [
        | inl memory ↦ absurd (no_memory memory)
        | inr checked ↦ elim checked [
          | inl unserved ↦ absurd (unserved.0 serves)
          | inr tested ↦ inr (record { inner = e; tested = tested.1; lawful = lawful; no_memory = no_memory; passed_on = is })
        ]
      ]
    ]

-- an absent subchunk needs no write
pub absent_written : (inner_cells : List ℕ → List (Option (List ℕ))) (fill b : List ℕ) (positions : ℕ) (position : ℕ → ℕ) (old : ℕ → List ℕ)
    → IsSlotWritten inner_cells fill b Absent positions position old old
absent_written inner_cells fill b positions position old = record {
  there = tt;
  inside = λ p lt blank. ap Some (sym (blank refl));
  outside = λ i none. refl;
}

-- a slice's cells, written to where they lie
pub slice_written : (inner_cells : List ℕ → List (Option (List ℕ))) (fill b : List ℕ) (offset size positions : ℕ) (position : ℕ → ℕ) (old new : ℕ → List ℕ) (elements : List (List ℕ))
    → length (inner_cells (slice_at offset size b)) ≡ positions → inner_cells (slice_at offset size b) ≡ map Some elements
    → IsUpdated positions position old (λ k. get_or elements k []) new → IsSlotWritten inner_cells fill b (InRange offset size) positions position old new
slice_written inner_cells fill b offset size positions position old new elements counted is wrote = record {
  there = rw (is, all_there-map_some elements) refl;
  inside = λ p lt blank.
      let long : length elements ≡ positions = sym (length-map elements Some) ∙ (ap length (sym is) ∙ counted) in
      ap (λ cells. get_or cells p None) is ∙ (get_or-map Some elements p [] None (omega (arith, lt, long)) ∙ ap Some (sym (wrote.inside p lt)));
  outside = wrote.outside;
}

-- elements written into a target over bytes stand at the points of its subset there
written_through : (subset : Subset) (axes : List ℕ) (size : ℕ) (element : ℕ → List ℕ) (old new : FixedTarget) (before after : List ℕ)
    → target_element_size old ≡ size → target_shape old ≡ axes → target_subset old ≡ subset → (target_bytes old).now ≡ before → (target_bytes new).now ≡ after → IsWritten old new element
    → IsUpdated (count_of subset.shape) (number_in subset axes) (piece size before) element (piece size after)
written_through subset axes size element old new before after sized shaped by_subset first last wrote = rw (← sized, ← shaped, ← first, ← last, ← by_subset) wrote.elements

-- where the subset is that of a subchunk, these are its cells
pub cells_written : (shape sub : List ℕ) (k size : ℕ) (element : ℕ → List ℕ) (old new : FixedTarget) (before after : List ℕ)
    → target_element_size old ≡ size → target_shape old ≡ shape → target_subset old ≡ subset_of_subchunk shape sub k → (target_bytes old).now ≡ before → (target_bytes new).now ≡ after → IsWritten old new element
    → IsUpdated (count_of sub) (cell_number shape sub k) (piece size before) element (piece size after)
cells_written shape sub k size element old new before after sized shaped by_subset first last wrote =
    let through = written_through (subset_of_subchunk shape sub k) shape size element old new before after sized shaped by_subset first last wrote in
    record {
      inside = λ p lt. ap (piece size after) (sym (number_in-subset_of_subchunk shape sub k p)) ∙ through.inside p lt;
      outside = λ i h. through.outside i (λ p lt e. h p lt (sym (number_in-subset_of_subchunk shape sub k p) ∙ e));
    }

-- elements written at the points of a part of a target's array stand there in its bytes
part_written_through : (subset position : Subset) (axes : List ℕ) (size : ℕ) (element : ℕ → List ℕ) (old new : FixedTarget) (before after : List ℕ)
    → target_element_size old ≡ size → target_shape old ≡ axes → position ≡ subset → (target_bytes old).now ≡ before → (target_bytes new).now ≡ after → IsPartWritten old new position element
    → IsUpdated (count_of subset.shape) (number_in subset axes) (piece size before) element (piece size after)
part_written_through subset position axes size element old new before after sized shaped by_position first last wrote = rw (← sized, ← shaped, ← first, ← last, ← by_position) wrote.elements

-- the slice of a plain codec, copied to where its cells lie
pub plain_written : (g : ArraySpec) (m : Meaning) (fill b : List ℕ) (offset size : ℕ) (position : ℕ → ℕ) (old new : ℕ → List ℕ)
    → fill ≡ g.fill → IsPlain g m size → length (slice_at offset size b) ≡ size → IsUpdated (count_of g.shape) position old (piece (length fill) (slice_at offset size b)) new
    → IsSlotWritten m.cells fill b (InRange offset size) (count_of g.shape) position old new
plain_written g m fill b offset size position old new same plain long wrote =
    let part : List ℕ = slice_at offset size b in
    let n : ℕ = length fill in
    let all : List (List ℕ) = pieces n (count_of g.shape) part in
    let is : m.cells part ≡ map Some all = rw same (plain.cells part long) in
    slice_written m.cells fill b offset size (count_of g.shape) position old new all
    (ap length is ∙ (length-map all Some ∙ length-pieces n (count_of g.shape) part)) is (record {
      inside = λ p lt. wrote.inside p lt ∙ sym (piece_of-pieces n (count_of g.shape) part p lt);
      outside = wrote.outside;
    })

-- the cells of the subchunks below k stand where they lie; `at` says which element stands at a cell
pub record IsPutTo (inner_cells : List ℕ → List (Option (List ℕ))) (shape sub fill b index : List ℕ) (k : ℕ) (at : ℕ → List ℕ) : Type 0 where
  pub held : (j : ℕ) → j < k → HasArray inner_cells b (slot_at (length b) index j)
  pub standing : (i : ℕ) → i < count_of shape → subchunk_number shape sub i < k → indexed_cell inner_cells shape sub fill b index i ≡ Some (at i)

-- and where a later one is absent fill values stand
pub record IsWholeTo (inner_cells : List ℕ → List (Option (List ℕ))) (shape sub fill b index : List ℕ) (k : ℕ) (at : ℕ → List ℕ) : Type 0 where
  pub so_far : IsPutTo inner_cells shape sub fill b index k at
  pub held : (j : ℕ) → j < k → HasArray inner_cells b (slot_at (length b) index j)
  pub left : (i : ℕ) → i < count_of shape → k ≤ subchunk_number shape sub i → slot_at (length b) index (subchunk_number shape sub i) ≡ Absent → at i ≡ fill

module _ (inner_cells : List ℕ → List (Option (List ℕ))) (shape sub fill b index : List ℕ) (divides : Divides sub shape) where
  -- before the first
  pub put_none : (at : ℕ → List ℕ) → IsPutTo inner_cells shape sub fill b index 0 at
  put_none at = record {
    held = λ j lt. absurd (omega (arith, lt));
    standing = λ i li lt. absurd (omega (arith, lt));
  }

  pub whole_none : (at : ℕ → List ℕ) → ((k i : ℕ) → k < count_of (grid_of shape sub) → slot_at (length b) index k ≡ Absent → i < count_of shape → at i ≡ fill)
      → IsWholeTo inner_cells shape sub fill b index 0 at
  whole_none at blank = record {
    so_far = put_none at;
    held = λ j lt. absurd (omega (arith, lt));
    left = λ i li past absent. blank (subchunk_number shape sub i) i (subchunk_number-below shape sub divides i li) absent li;
  }

  -- a cell of another subchunk is at no place of this one
  apart : (k i : ℕ) → k < count_of (grid_of shape sub) → subchunk_number shape sub i ≢ k → (p : ℕ) → p < count_of sub → cell_number shape sub k p ≢ i
  apart k i lk other p lp e = other (ap (subchunk_number shape sub) (sym e) ∙ subchunk_number-cell_number shape sub divides k p lk lp)

  -- one more
  pub put_more : (k : ℕ) (old new : ℕ → List ℕ) → k < count_of (grid_of shape sub) → IsPutTo inner_cells shape sub fill b index k old → HasArray inner_cells b (slot_at (length b) index k)
      → ((p : ℕ) → p < count_of sub → cell_in inner_cells fill b (slot_at (length b) index k) p ≡ Some (new (cell_number shape sub k p)))
      → ((i : ℕ) → i < count_of shape → ((p : ℕ) → p < count_of sub → cell_number shape sub k p ≢ i) → new i ≡ old i)
      → IsPutTo inner_cells shape sub fill b index (k + 1) new
  put_more k old new lk known has inside outside = record {
    held = λ j lt. elim (cases_lt j k) [
      | inl before ↦ known.held j before
      | inr after ↦
          let this : j ≡ k = omega (arith, lt, after) in
          rw this has
    ];
    standing = λ i li lt. elim (cases_lt (subchunk_number shape sub i) k) [
      | inl below ↦ known.standing i li below ∙ ap Some (sym (outside i li (apart k i lk (λ e. omega (arith, e, below)))))
      | inr past ↦
          let at : subchunk_number shape sub i ≡ k = omega (arith, lt, past) in
          let p = position_number shape sub i in
          let cell : cell_number shape sub k p ≡ i = ap (λ j. cell_number shape sub j p) (sym at) ∙ cell_number-located shape sub divides i li in
          ap (λ j. cell_in inner_cells fill b (slot_at (length b) index j) p) at ∙ (inside p (position_number-below shape sub divides i li) ∙ ap (λ j. Some (new j)) cell)
    ];
  }

  pub whole_more : (k : ℕ) (old new : ℕ → List ℕ) → k < count_of (grid_of shape sub) → IsWholeTo inner_cells shape sub fill b index k old
      → IsSlotWritten inner_cells fill b (slot_at (length b) index k) (count_of sub) (cell_number shape sub k) old new
      → IsWholeTo inner_cells shape sub fill b index (k + 1) new
  whole_more k old new lk known wrote =
      let more = put_more k old new lk known.so_far wrote.there
      (λ p lp. wrote.inside p lp (λ absent.
      let at = subchunk_number-cell_number shape sub divides k p lk lp in
      known.left (cell_number shape sub k p) (cell_number-below shape sub divides k p lk lp) (omega (arith, at)) (ap (slot_at (length b) index) at ∙ absent)))
      (λ i li none. wrote.outside i none) in
      record {
        so_far = more;
        held = more.held;
        left = λ i li past absent. wrote.outside i (apart k i lk (λ e. omega (arith, e, past))) ∙ known.left i li (omega (arith, past)) absent;
      }

  -- when all are written, the elements are the shard's cells
  pub put_all : (n : ℕ) (at : ℕ → List ℕ) → n ≡ count_of (grid_of shape sub) → IsPutTo inner_cells shape sub fill b index n at
      → map (indexed_cell inner_cells shape sub fill b index) (range_with_len 0 (count_of shape)) ≡ map Some (map at (range_with_len 0 (count_of shape)))
  put_all n at all known =
      map_range_same (indexed_cell inner_cells shape sub fill b index) (λ i. Some (at i)) (count_of shape) None
      (λ i li. known.standing i li (omega (arith, all, subchunk_number-below shape sub divides i li)))
      ∙ sym (map-map Some at (range_with_len 0 (count_of shape)))

-- the cells by a shard's index are its cells
pub cells_whole : (inner_cells index_cells : List ℕ → List (Option (List ℕ))) (sub : List ℕ) (location : ShardingIndexLocation) (order : SubchunkWriteOrder) (size : ℕ) (g : ArraySpec) (b ns : List ℕ) (elements : List (List ℕ))
    → numbers_in_index index_cells location size b ≡ Some ns → map (indexed_cell inner_cells g.shape sub g.fill b ns) (range_with_len 0 (count_of g.shape)) ≡ map Some elements
    → shard_cells inner_cells index_cells (layout_of sub location order size g) b ≡ map Some elements
unfolding shard_cells
cells_whole inner_cells index_cells sub location order size g b ns elements told is = rw told is
