-- A refusal of a step of a write comes from the tests of the write, in their order.
use Rattle.std.proofs.Common.{◌≡◌, ℕ, ◌+◌, ◌*◌, ◌/◌, ◌^◌, ◌<◌, ◌≤◌, inl, inr, List, length, get_or, refl, ap, ◌∙◌, subst, arith}
use Rattle.std.specs.List.{range_with_len, sum_by}
use Rattle.parts_errors.specs.Words.{Elements}
use Rattle.parts_errors.specs.Order.{done, RefusedBy}
use Rattle.parts_row_major.specs.Numbering.{count_of}
use Rattle.parts_row_major.specs.Subsets.{Subset}
use Rattle.parts_subsets.specs.Grid.{grid_of}
use Rattle.parts_subsets.specs.Touched.{AreTouched}
use Rattle.parts_arrays.specs.ArraySpec.{ArraySpec}
use Rattle.parts_errors.specs.declared.error.CodecError.{CodecError}
use Rattle.codec_traits.specs.Meanings.{Meaning}
use Rattle.storage_handles.specs.Handles.{HandleState}
use Rattle.storage_handles.specs.Objects.{ObjectRefusals}
use Rattle.sharding_format.specs.Cells.{Layout}
use Rattle.sharding_format.specs.Index.{data_start}
use Rattle.sharding_format.specs.Encoding.{slot_size}
use Rattle.sharding_format.specs.Packing.{slice_of}
use Rattle.sharding_format.specs.Serves.{IsStoredPart}
use Rattle.sharding_format.specs.declared.slot.Slot.{Slot}
use Rattle.sharding_format.specs.declared.slot.Slot.TheVariants.{Bad}
use Rattle.sharding_format.specs.EncodeRefusals.{RefusesToStore, StoreRefusals, HasPart, RefusesIndex}
use Rattle.sharding_format.proofs.LayingLemmas.{sum_same, encoding_stored, length_stored}
use Rattle.sharding_write.specs.Writing.{AreNewCells, cells_in, AreStoredInRow, ArePlaced, offset_after, length_after, HasNewLength, RefusesToPut}
use Rattle.sharding_write.specs.WriteRefusals.{HasOldCells, OldRefusals, NewRefusals, SomeNewCells, SomeLength, WriteRefusals}
use Rattle.parts_subsets.proofs.GridLaws.{over_first}
use Rattle.sharding_write.proofs.AnewLemmas.{anew_of_absent, absent_of_anew}
use Rattle.sharding_write.proofs.ChangedLemmas.{comes_earlier}

module _ (inner : Meaning) (l : Layout) (sub_g : ArraySpec) (subset : Subset) (update : Elements) (bytes numbers touched : List ℕ) (elements : ℕ → Elements)
    (are : AreTouched l.shape l.sub subset touched) (below : (j : ℕ) → j < length touched → get_or touched j 0 < count_of (grid_of l.shape l.sub)) where
  -- one of the old cells
  pub old_first : (first new : HandleState) (e : CodecError) → RefusedBy (ObjectRefusals first new (OldRefusals inner l.shape l.sub l.fill subset bytes numbers done)) e
      → RefusedBy (ObjectRefusals first new (OldRefusals inner l.shape l.sub l.fill subset bytes numbers (NewRefusals inner l sub_g subset update bytes numbers done))) e
  old_first first new e h =
      elim h [
        | inl memory ↦ inl memory
        | inr refusals ↦ inr (λ t. elim (refusals t) [ inl fault ↦ inl fault | inr old ↦ inr (elim old [ inl one ↦ inl one | inr nothing ↦ absurd nothing.1 ]) ])
      ]

  -- the tests of the old cells and of the new ones come first
  pub cells_first : (index : Meaning) (first new : HandleState) (e : CodecError)
      → RefusedBy (ObjectRefusals first new (OldRefusals inner l.shape l.sub l.fill subset bytes numbers (NewRefusals inner l sub_g subset update bytes numbers done))) e
      → RefusedBy (ObjectRefusals first new (WriteRefusals inner index l sub_g subset update bytes numbers)) e
  cells_first index first new e h =
      elim h [
        | inl memory ↦ inl memory
        | inr refusals ↦ inr (λ t. elim (refusals t) [
          | inl fault ↦ inl fault
          | inr cells ↦ inr (elim cells [
            | inl old ↦ inl old
            | inr news ↦ inr (news.0, elim news.1 [ inl one ↦ inl one | inr nothing ↦ absurd nothing.1 ])
          ])
        ])
      ]

  module _ (passed : (k : ℕ) → k < count_of (grid_of l.shape l.sub) → HasOldCells inner l.shape l.sub subset bytes numbers k)
      (cells : (j : ℕ) → j < length touched → AreNewCells l.shape sub_g subset update (cells_in inner.cells l.fill bytes numbers (get_or touched j 0)) (get_or touched j 0) (elements j)) where
    some_cells : (P : Elements → Type 0) (j : ℕ) → j < length touched → P (elements j) → SomeNewCells inner l sub_g subset update bytes numbers (get_or touched j 0) P
    some_cells P j lt h = record { elements = elements j; cells = cells j lt; holds = h }

    -- one of the new ones
    pub new_refusals : (e : CodecError) → StoreRefusals inner l.fill elements (length touched) done e
        → OldRefusals inner l.shape l.sub l.fill subset bytes numbers (NewRefusals inner l sub_g subset update bytes numbers done) e
    new_refusals e refusals =
        elim refusals [
          | inr nothing ↦ absurd nothing.1
          | inl one ↦
              let j = one.0 in
              let lt = one.1.0 in
              inr (
                passed,
                inl (
                  get_or touched j 0,
                  (
                    below j lt,
                    (λ k lower touches.
                        let found = are.all k touches in
                        let sooner : get_or touched found.0 0 < get_or touched j 0 = omega (arith, lower, found.2) in
                        let earlier = comes_earlier l.shape l.sub subset touched are found.0 j found.1 lt sooner in
                        subst (λ m. SomeNewCells inner l sub_g subset update bytes numbers m (λ el. HasPart inner.written l.fill el)) found.2
                        (some_cells (λ el. HasPart inner.written l.fill el) found.0 found.1 (one.1.1 found.0 earlier))),
                    (are.touched j lt, some_cells (λ el. RefusesToStore inner.encodable inner.fits l.fill el e) j lt one.1.2),
                  ),
                ),
              )
        ]

    module _ (slots : List Slot) (slices : List ℕ) (stored_slices : AreStoredInRow inner.written l.fill elements slices slots (length touched)) (counted : length numbers ≡ 2 * count_of (grid_of l.shape l.sub)) where
      -- the part of each
      abbrev part_at : ℕ → List ℕ
      part_at j = slice_of slices (get_or slots j Bad)

      all_parts : sum_by (λ j. length (part_at j)) (range_with_len 0 (length touched)) ≡ length slices
      all_parts = sum_same (λ j. length (part_at j)) (λ j. slot_size (get_or slots j Bad)) (length touched) (λ j lt. length_stored inner.written l.fill (elements j) (get_or slots j Bad) slices (stored_slices.stored_slices j lt)) ∙ stored_slices.filled

      half : length numbers / 2 ≡ count_of (grid_of l.shape l.sub)
      half = ap (λ m. m / 2) counted ∙ over_first 2 (count_of (grid_of l.shape l.sub)) (omega arith)

      -- together they give the object a length
      with_parts : (P : ℕ → Type 0) (place long : ℕ) → ArePlaced l subset (length bytes) numbers (length slices) place long → P long → SomeLength inner l sub_g subset update bytes numbers P
      with_parts P place long placed holds = record {
        touched = touched;
        are_touched = are;
        parts = part_at;
        each = λ j lt. some_cells (λ el. IsStoredPart inner.written l.fill el (part_at j)) j lt (encoding_stored inner.written l.fill (elements j) (get_or slots j Bad) slices (stored_slices.stored_slices j lt));
        write_offset = place;
        long = long;
        placed = rw all_parts placed;
        holds = holds;
      }

      some_length : (P : ℕ → Type 0) → HasNewLength l.location l.index_size touched numbers (length bytes) (length slices) P → SomeLength inner l sub_g subset update bytes numbers P
      some_length P (cleared, clear, cases) =
          elim cases [
            | inl begun ↦ with_parts P (data_start l.location l.index_size) (l.index_size + length slices)
                (inl (record { anew = anew_of_absent l.shape l.sub subset touched numbers cleared (length bytes) are counted clear begun.0; position_is = refl; long = refl })) begun.1
            | inr appended ↦
                let place = offset_after l.location l.index_size (length bytes) numbers (length numbers / 2) in
                with_parts P place (length_after l.location (length bytes) place (length slices))
                (inr (record {
                  not_anew = λ anew. appended.0 (absent_of_anew l.shape l.sub subset touched numbers cleared (length bytes) are counted clear anew);
                  position_is = ap (offset_after l.location l.index_size (length bytes) numbers) half;
                  long = refl;
                })) appended.1
          ]

      -- the length, or the index
      pub last_refusals : (index : Meaning) (e : CodecError) → RefusesToPut l.location l.index_size touched numbers (length bytes) (length slices) (RefusesIndex index (count_of (grid_of l.shape l.sub))) e
          → WriteRefusals inner index l sub_g subset update bytes numbers e
      last_refusals index e h =
          inr (
            passed,
            inr (
              (λ k k_below touches.
                  let found = are.all k touches in
                  subst (λ m. SomeNewCells inner l sub_g subset update bytes numbers m (λ el. HasPart inner.written l.fill el)) found.2
                  (some_cells (λ el. HasPart inner.written l.fill el) found.0 found.1 (part_at found.0, encoding_stored inner.written l.fill (elements found.0) (get_or slots found.0 Bad) slices (stored_slices.stored_slices found.0 found.1)))),
              elim h [
                | inl long ↦ inl (long.0, some_length (λ n. 2 ^ 64 ≤ n + 1) long.1)
                | inr last ↦ inr (some_length (λ n. n + 1 < 2 ^ 64) last.0, last.1)
              ],
            ),
          )
