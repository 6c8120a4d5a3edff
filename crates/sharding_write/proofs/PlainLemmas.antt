-- New subchunks of a codec that stores elements as they are in memory.
use Rattle.std.proofs.Common.{◌≡◌, ℕ, ◌+◌, ◌*◌, ◌/◌, ◌<◌, inl, inr, Bool, true, false, IsTrue, List, [], ◌∷◌, ◌++◌, Option, Some, None, length, map, get_or, replicate, refl, sym, ap, ◌∙◌, arith}
use Rattle.std.specs.List.{All, concat}
use Rattle.std.proofs.Math.Nat.{div-eq_of_eq-mul_left}
use Rattle.std.proofs.lemmas.List.{get_or-replicate, length-map, get_or-map, get_or_push, length_push}
use Rattle.std.proofs.lemmas.Bool.{false≢true}
use Rattle.std.proofs.Math.ListN.{get_or-append}
use borrow.Author.Count.{below_more}
use Rattle.parts_errors.specs.Words.{Elements}
use Rattle.parts_row_major.specs.Numbering.{count_of}
use Rattle.parts_row_major.proofs.PieceLaws.{length-pieces}
use Rattle.parts_row_major.specs.Subsets.{Subset}
use Rattle.parts_subsets.specs.Touched.{Touches}
use Rattle.parts_arrays.specs.ArraySpec.{ArraySpec, IsArrayOf}
use Rattle.parts_arrays.specs.Types.{size_of, FitsKind}
use Rattle.parts_row_major.specs.Pieces.{pieces}
use Rattle.parts_arrays.specs.Arrays.{Array, IsWhole, fixed_array, extracted, IsOverlaid}
use Rattle.parts_arrays.specs.declared.data_type.DataTypeSize.TheVariants.{Variable}
use Rattle.parts_arrays.proofs.ArrayLaws.{whole_from_length, All-fixed_array, length-fixed_array}
use Rattle.parts_errors.specs.Order.{done, RefusedBy}
use Rattle.parts_errors.specs.declared.error.CodecError.{CodecError}
use Rattle.storage_handles.specs.Handles.{HandleState, IsRead}
use Rattle.storage_handles.specs.Objects.{ObjectRefusals}
use Rattle.codec_traits.specs.Meanings.{Meaning}
use Rattle.codec_traits.specs.Encodings.{IsPlain}
use Rattle.sharding_gather.specs.SubchunkOverlaps.{IsSubchunkOverlap}
use Rattle.sharding_format.specs.Cells.{cell_in}
use Rattle.sharding_format.specs.Index.{slot_at, slice_at}
use Rattle.sharding_format.specs.DecodeRefusals.{HasArray}
use Rattle.sharding_format.specs.Laying.{IsStoredAfter}
use Rattle.sharding_format.specs.declared.slot.Slot.{Slot}
use Rattle.sharding_format.specs.declared.slot.Slot.TheVariants.{Absent, InRange}
use Rattle.sharding_write.specs.Writing.{AreNewCells, AreStoredInRow, cells_in, array_at}
use Rattle.sharding_write.specs.WriteRefusals.{Straddles}
use Rattle.sharding_write.specs.Slices.{IsPutAfter, AreOldCells, IsNewAfter, AreNewSlices}
use Rattle.sharding_write.proofs.OldLemmas.{has_array}
use Rattle.sharding_write.proofs.CellLemmas.{axes_of, no_straddle, overlaid_array, overlaid_part}
use Rattle.sharding_write.proofs.ChangedLemmas.{new_cells_at}
use Rattle.sharding_write.proofs.StoredInRowLemmas.{one_more}
use Rattle.sharding_layout.proofs.StoringLemmas.{stored_plainly}

-- a stored subchunk's bytes are its cells
pub old_stored : (g : ArraySpec) (inner : Meaning) (size : ℕ) (bytes part : List ℕ) (offset : ℕ) → IsPlain g inner size → length part ≡ size → part ≡ slice_at offset size bytes
    → AreOldCells inner.cells g.fill bytes (InRange offset size) (count_of g.shape) (pieces (length g.fill) (count_of g.shape) part)
old_stored g inner size bytes part offset plain long is =
    let n = length g.fill in
    let positions = count_of g.shape in
    let cells = plain.cells part long in
    record {
      array = has_array inner.cells bytes part offset size (pieces n positions part) is cells;
      cells = λ p lt. rw (← is, cells) (get_or-map Some (pieces n positions part) p [] None (omega (arith, lt, length-pieces n positions part)));
    }

-- fill values are the cells of one that is absent
pub old_absent : (g : ArraySpec) (inner : Meaning) (bytes part : List ℕ) → pieces (length g.fill) (count_of g.shape) part ≡ replicate (count_of g.shape) g.fill
    → AreOldCells inner.cells g.fill bytes Absent (count_of g.shape) (pieces (length g.fill) (count_of g.shape) part)
old_absent g inner bytes part are = record {
  array = tt;
  cells = λ p lt. rw are (ap Some (sym (get_or-replicate (count_of g.shape) p g.fill [] lt)));
}

pub blank_after : (g : ArraySpec) (inner : Meaning) (size : ℕ) (bytes blank slices new : List ℕ) (T : Type 0) → IsPlain g inner size
    → length blank ≡ size / length g.fill * length g.fill → pieces (length g.fill) (size / length g.fill) blank ≡ replicate (size / length g.fill) g.fill → new ≡ slices ++ blank
    → IsPutAfter slices new size (λ part. T → AreOldCells inner.cells g.fill bytes Absent (count_of g.shape) (pieces (length g.fill) (count_of g.shape) part))
blank_after g inner size bytes blank slices new T plain long are is =
    let half : size / length g.fill ≡ count_of g.shape = div-eq_of_eq-mul_left plain.some plain.size_is in
    record {
      part = blank;
      long = long ∙ ap (λ c. c * length g.fill) half ∙ sym plain.size_is;
      appended = is;
      holds = λ t. old_absent g inner bytes blank (rw half at are);
    }

-- bytes of a subchunk are its array
module _ (g : ArraySpec) (inner : Meaning) (size : ℕ) (plain : IsPlain g inner size) where
  abbrev n : ℕ
  n = length g.fill

  abbrev cut : List ℕ → Elements
  cut bytes = (fixed_array n bytes).elements

  counted_bytes : (bytes : List ℕ) → length bytes ≡ size → length bytes ≡ count_of g.shape * n
  counted_bytes bytes long = long ∙ plain.size_is

  pub whole_bytes : (bytes : List ℕ) → length bytes ≡ size → IsWhole n bytes
  whole_bytes bytes long = whole_from_length n (count_of g.shape) bytes plain.some (counted_bytes bytes long)

  pub cut_pieces : (bytes : List ℕ) → length bytes ≡ size → length bytes / n ≡ count_of g.shape
  cut_pieces bytes long = div-eq_of_eq-mul_left plain.some (counted_bytes bytes long)

  pub is_array : (bytes : List ℕ) → length bytes ≡ size → IsArrayOf g (cut bytes)
  is_array bytes long = record {
    counted = length-fixed_array n bytes ∙ cut_pieces bytes long;
    fitting = rw plain.fixed (All-fixed_array n bytes (whole_bytes bytes long));
  }

  module _ (shape : List ℕ) (subset : Subset) (k : ℕ) (in_subchunk in_subset : Subset) (m : IsSubchunkOverlap shape g.shape subset k in_subchunk in_subset) (touches : Touches shape g.shape subset k) (update : Array)
      (all : length update.elements ≡ count_of subset.shape) (fits : All (FitsKind (size_of g.data_type)) update.elements)
      (before after : List ℕ) (long : length before ≡ size) (overlaid : IsOverlaid in_subchunk g.shape (fixed_array n before) (extracted update in_subset subset.shape) (fixed_array n after))
      (old_bytes : List ℕ) (slot : Slot) where
    pub new_array : IsArrayOf g (cut after)
    new_array = overlaid_array shape g subset k in_subchunk in_subset m update (extracted update in_subset subset.shape) (fixed_array n before) (fixed_array n after) refl all fits overlaid (is_array before long)

    over : (old : ℕ → Option (List ℕ)) → ((p : ℕ) → p < count_of g.shape → old p ≡ Some (get_or (cut before) p [])) → AreNewCells shape g subset update.elements old k (cut after)
    over old cells = overlaid_part shape g subset k in_subchunk in_subset m update (extracted update in_subset subset.shape) (fixed_array n before) (fixed_array n after) old refl all fits overlaid (is_array before long) cells

    -- of a subchunk that the subset has whole the old cells don't matter
    covered : in_subchunk.shape ≡ g.shape → (old : ℕ → Option (List ℕ)) → AreNewCells shape g subset update.elements old k (cut after)
    covered whole old =
        let any = over (λ p. Some (get_or (cut before) p [])) (λ p lt. refl) in
        record {
          array = any.array;
          given = any.given;
          kept = λ p lt none. absurd (no_straddle shape g subset k in_subchunk in_subset m whole (axes_of in_subchunk m.sub_well_formed) (record { touches = touches; position = p; inside = lt; uncovered = none }));
        }

    pub new_cells : (whole : Bool) → (IsTrue whole → in_subchunk.shape ≡ g.shape) → (¬ (IsTrue whole) → AreOldCells inner.cells g.fill old_bytes slot (count_of g.shape) (pieces n (count_of g.shape) before))
        → AreNewCells shape g subset update.elements (cell_in inner.cells g.fill old_bytes slot) k (cut after)
    new_cells true whole old = covered (whole refl) (cell_in inner.cells g.fill old_bytes slot)
    new_cells false whole old = over (cell_in inner.cells g.fill old_bytes slot) (rw (cut_pieces before long) (old false≢true).cells)

    pub has_old : (whole : Bool) → (IsTrue whole → in_subchunk.shape ≡ g.shape) → (¬ (IsTrue whole) → AreOldCells inner.cells g.fill old_bytes slot (count_of g.shape) (pieces n (count_of g.shape) before))
        → Straddles shape g.shape subset k → HasArray inner.cells old_bytes slot
    has_old true whole old straddles = absurd (no_straddle shape g subset k in_subchunk in_subset m (whole refl) (axes_of in_subchunk m.sub_well_formed) straddles)
    has_old false whole old straddles = (old false≢true).array

    -- so what is put after the slices are the new cells
    pub is_new : (transparent whole : Bool) → (IsTrue whole → in_subchunk.shape ≡ g.shape)
        → (IsTrue transparent → ¬ (IsTrue whole) → AreOldCells inner.cells g.fill old_bytes slot (count_of g.shape) (pieces n (count_of g.shape) before))
        → (slices new : List ℕ) (placed : Slot) → IsStoredAfter (λ elements bytes. bytes ≡ concat elements) g.fill (cut after) slices new placed
        → IsNewAfter inner shape g subset update.elements transparent old_bytes slot k slices new placed
    is_new transparent whole is old slices new placed stored = record {
      elements = cut after;
      array = new_array;
      cells = λ t. new_cells whole is (old t);
      passed = λ t. has_old whole is (old t);
      stored = stored_plainly inner.written g.fill (cut after) slices new placed (plain.written (cut after) new_array) stored;
    }

-- one element more
each_more : (P : ℕ → Elements → Type 0) (xs : List Elements) (x : Elements) (k : ℕ) → length xs ≡ k → ((j : ℕ) → j < k → P j (get_or xs j [])) → P k x
    → (j : ℕ) → j < k + 1 → P j (get_or (xs ++ x ∷ []) j [])
each_more P xs x k counted each here =
    below_more (λ j. P j (get_or (xs ++ x ∷ []) j [])) k
    (λ j below. rw (get_or-append xs (x ∷ []) [] j (omega (arith, below, counted))) (each j below))
    (rw (get_or_push xs x [] k counted) here)

-- what is laid doesn't look at later subchunks
stored_same : (inner_written : List (List ℕ) → List ℕ → Type 0) (fill : List ℕ) (e f : ℕ → Elements) (bytes : List ℕ) (slots : List Slot) (k : ℕ)
    → ((j : ℕ) → j < k → f j ≡ e j) → AreStoredInRow inner_written fill e bytes slots k → AreStoredInRow inner_written fill f bytes slots k
stored_same inner_written fill e f bytes slots k same h = record {
  counted = h.counted;
  stored_slices = λ j below. rw (same j below) (h.stored_slices j below);
  begins = h.begins;
  filled = h.filled;
}

module _ (inner : Meaning) (shape : List ℕ) (sub_g : ArraySpec) (subset : Subset) (update : Elements) (transparent : Bool) (bytes numbers touched : List ℕ) where
  pub none_new : AreNewSlices inner shape sub_g subset update transparent bytes numbers touched [] [] 0
  none_new = record {
    news = [];
    counted = refl;
    arrays = λ j below. absurd (omega (arith, below));
    cells = λ t j below. absurd (omega (arith, below));
    stored_slices = record { counted = refl; stored_slices = λ j below. absurd (omega (arith, below)); begins = λ j below. absurd (omega (arith, below)); filled = refl };
  }

  -- one subchunk more
  pub new_more : (len k : ℕ) (slices more : List ℕ) (slots grown : List Slot) (old new : Slot) → AreNewSlices inner shape sub_g subset update transparent bytes numbers touched slices slots k
      → (IsTrue transparent → length bytes ≡ len) → old ≡ slot_at len numbers (get_or touched k 0)
      → IsNewAfter inner shape sub_g subset update transparent bytes old (get_or touched k 0) slices more new → grown ≡ slots ++ new ∷ []
      → AreNewSlices inner shape sub_g subset update transparent bytes numbers touched more grown (k + 1)
  new_more len k slices more slots grown old new h long is n grows =
      let news = h.news ++ n.elements ∷ [] in
      let here : get_or news k [] ≡ n.elements = get_or_push h.news n.elements [] k h.counted in
      let stored_slices = stored_same inner.written sub_g.fill (λ j. get_or h.news j []) (λ j. get_or news j []) slices slots k
      (λ j below. get_or-append h.news (n.elements ∷ []) [] j (omega (arith, below, h.counted))) h.stored_slices in
      record {
        news = news;
        counted = length_push h.news n.elements ∙ ap (λ c. c + 1) h.counted;
        arrays = each_more (λ j e. IsArrayOf sub_g e) h.news n.elements k h.counted h.arrays n.array;
        cells = λ t. each_more (λ j e. AreNewCells shape sub_g subset update (cells_in inner.cells sub_g.fill bytes numbers (get_or touched j 0)) (get_or touched j 0) e) h.news n.elements k h.counted (h.cells t)
            (new_cells_at inner.cells sub_g.fill bytes numbers len shape sub_g subset update old (get_or touched k 0) n.elements (long t) is (n.cells t));
        stored_slices = one_more inner.written sub_g.fill (λ j. get_or news j []) slices n.stored.slice more slots grown k n.stored.present stored_slices (rw here n.stored.stored) n.stored.appended
            (rw n.stored.placed at grows);
      }

  -- subchunks that were given as arrays of their own, and then encoded
  pub of_arrays : (arrays : List Array) (slices : List ℕ) (slots : List Slot) → length arrays ≡ length touched → ((j : ℕ) → j < length arrays → (IsArrayOf sub_g (array_at arrays j).elements))
      → (IsTrue transparent → (j : ℕ) → j < length arrays
      → AreNewCells shape sub_g subset update (cells_in inner.cells sub_g.fill bytes numbers (get_or touched j 0)) (get_or touched j 0) (array_at arrays j).elements)
      → AreStoredInRow inner.written sub_g.fill (λ j. (array_at arrays j).elements) slices slots (length arrays) → AreNewSlices inner shape sub_g subset update transparent bytes numbers touched slices slots (length touched)
  of_arrays arrays slices slots counted are cells stored_slices =
      let news = map (λ (a : Array). a.elements) arrays in
      let same : (j : ℕ) → j < length touched → get_or news j [] ≡ (array_at arrays j).elements =
      λ j below. get_or-map (λ (a : Array). a.elements) arrays j (record { kind = Variable; elements = [] }) [] (omega (arith, below, counted)) in
      record {
        news = news;
        counted = length-map arrays (λ (a : Array). a.elements) ∙ counted;
        arrays = λ j below. rw (same j below) (are j (omega (arith, below, counted)));
        cells = λ t j below. rw (same j below) (cells t j (omega (arith, below, counted)));
        stored_slices = stored_same inner.written sub_g.fill (λ j. (array_at arrays j).elements) (λ j. get_or news j []) slices slots (length touched) same (rw counted at stored_slices);
      }

-- a refusal after a read is one of both
pub refused_since : (first mid new : HandleState) (refusals : CodecError → Type 0) (e : CodecError) → IsRead first mid → RefusedBy (ObjectRefusals mid new refusals) e → RefusedBy (ObjectRefusals first new refusals) e
refused_since first mid new refusals e since h =
    elim h [
      | inl memory ↦ inl memory
      | inr refused ↦ inr (λ t. elim (refused (rw since.transparent_same t)) [
        | inl fault ↦ inl (fault.0, omega (arith, since.faults_kept, fault.1))
        | inr told ↦ inr told
      ])
    ]

-- what only a fault refuses may refuse as other tests do
pub only_faults : (first new : HandleState) (refusals : CodecError → Type 0) (e : CodecError) → RefusedBy (ObjectRefusals first new done) e → RefusedBy (ObjectRefusals first new refusals) e
only_faults first new refusals e h =
    elim h [
      | inl memory ↦ inl memory
      | inr refused ↦ inr (λ t. elim (refused t) [ inl fault ↦ inl fault | inr nothing ↦ absurd nothing ])
    ]
