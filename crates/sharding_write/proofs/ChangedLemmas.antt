-- The touched subchunks, one after the other.
use Rattle.std.proofs.Common.{◌≡◌, ℕ, ◌+◌, ◌<◌, inl, inr, List, [], ◌∷◌, ◌++◌, Option, IsTrue, length, get_or, ap, ◌∙◌, subst, arith}
use Rattle.std.proofs.lemmas.Bool.{cases_lt}
use Rattle.std.proofs.lemmas.List.{get_or_push, length_push, get_or_default}
use Rattle.std.proofs.Math.ListN.{get_or-append}
use borrow.Author.Count.{below_more}
use Rattle.parts_errors.specs.Order.{done, RefusedBy}
use Rattle.parts_row_major.specs.Numbering.{count_of}
use Rattle.parts_row_major.specs.Subsets.{Subset}
use Rattle.parts_subsets.specs.Grid.{grid_of}
use Rattle.parts_subsets.specs.Touched.{AreTouched}
use Rattle.parts_arrays.specs.Arrays.{Array}
use Rattle.parts_arrays.specs.declared.data_type.DataTypeSize.TheVariants.{Variable}
use Rattle.parts_errors.specs.declared.error.CodecError.{CodecError}
use Rattle.storage_handles.specs.Handles.{HandleState, IsRead}
use Rattle.storage_handles.specs.Objects.{ObjectRefusals}
use Rattle.storage_handles.specs.Writes.{bytes_of}
use Rattle.codec_traits.specs.Meanings.{Meaning}
use Rattle.sharding_format.specs.Index.{slot_at}
use Rattle.sharding_format.specs.DecodeRefusals.{HasArray}
use Rattle.sharding_format.specs.declared.slot.Slot.{Slot}
use Rattle.parts_arrays.specs.ArraySpec.{ArraySpec}
use Rattle.sharding_format.specs.Cells.{cell_in}
use Rattle.sharding_write.specs.Writing.{array_at, AreNewCells, cells_in}
use Rattle.sharding_write.specs.WriteRefusals.{Straddles, RefusesOld, HasOldCells, OldRefusals}

abbrev no_array : Array
no_array = record { kind = Variable; elements = [] }

pub arrays_counted : (xs ys : List Array) (x : Array) (k : ℕ) → length xs ≡ k → ys ≡ xs ++ x ∷ [] → length ys ≡ k + 1
arrays_counted xs ys x k len grown = rw grown (omega (arith, length_push xs x, len))

-- one array more
pub each_array : (P : ℕ → Array → Type 0) (xs ys : List Array) (x : Array) (k : ℕ) → length xs ≡ k → ((j : ℕ) → j < k → P j (array_at xs j)) → ys ≡ xs ++ x ∷ [] → P k x
    → (j : ℕ) → j < k + 1 → P j (array_at ys j)
each_array P xs ys x k len each grown here =
    below_more (λ j. P j (array_at ys j)) k
    (λ j below. rw (grown, get_or-append xs (x ∷ []) no_array j (omega (arith, below, len))) (each j below))
    (rw (grown, get_or_push xs x no_array k len) here)

-- lower subchunks come earlier
pub comes_earlier : (shape sub : List ℕ) (subset : Subset) (touched : List ℕ) → AreTouched shape sub subset touched → (i j : ℕ) → i < length touched → j < length touched
    → get_or touched i 0 < get_or touched j 0 → i < j
comes_earlier shape sub subset touched are i j i_below j_below lower =
    elim (cases_lt i j) [
      | inl less ↦ less
      | inr not_less ↦ elim (cases_lt j i) [
        | inl more ↦ absurd (omega (arith, lower, are.rising j i more i_below))
        | inr not_more ↦ let same : i ≡ j = omega (arith, not_less, not_more) in absurd (omega (arith, lower, ap (λ n. get_or touched n 0) same))
      ]
    ]

module _ (inner : Meaning) (shape sub fill : List ℕ) (subset : Subset) (touched numbers : List ℕ) (len : ℕ) (are : AreTouched shape sub subset touched) where
  -- the old cells of each straddling subchunk are there where those of each touched one are
  pub all_passed : (bytes : List ℕ) → ((i : ℕ) → i < length touched → HasOldCells inner shape sub subset bytes numbers (get_or touched i 0)) → (k : ℕ) → HasOldCells inner shape sub subset bytes numbers k
  all_passed bytes passed k straddle =
      let found = are.all k straddle.touches in
      subst (λ n. HasOldCells inner shape sub subset bytes numbers n) found.2 (passed found.0 found.1) straddle

  -- one more
  pub passed_one : (bytes : List ℕ) (slot : Slot) (k : ℕ) → length bytes ≡ len → slot ≡ slot_at len numbers k
      → (Straddles shape sub subset k → HasArray inner.cells bytes slot) → HasOldCells inner shape sub subset bytes numbers k
  passed_one bytes slot k long is h straddle = rw long (rw is at (h straddle))

  -- the first that is refused
  pub old_refused : (first old new : HandleState) (slot : Slot) (j : ℕ) (e : CodecError) → IsRead first old → (IsTrue first.transparent → length (bytes_of first.contents) ≡ len)
      → j < length touched → get_or touched j 0 < count_of (grid_of shape sub) → slot ≡ slot_at len numbers (get_or touched j 0)
      → (IsTrue first.transparent → (i : ℕ) → i < j → HasOldCells inner shape sub subset (bytes_of first.contents) numbers (get_or touched i 0))
      → RefusedBy (ObjectRefusals old new (λ e. Straddles shape sub subset (get_or touched j 0) × RefusesOld inner (count_of sub) fill (bytes_of old.contents) slot (get_or touched j 0) e)) e
      → RefusedBy (ObjectRefusals first new (OldRefusals inner shape sub fill subset (bytes_of first.contents) numbers done)) e
  old_refused first old new slot j e since long below inside is passed h =
      elim h [
        | inl memory ↦ inl memory
        | inr refused ↦ inr (λ t. elim (refused (rw since.transparent_same t)) [
          | inl fault ↦ inl (fault.0, omega (arith, since.faults_kept, fault.1))
          | inr refusals ↦
              let old_bytes = rw (since.contents_same, is) at refusals.1 in
              inr (inl (
                get_or touched j 0,
                (
                  inside,
                  (λ k lower straddle.
                      let found = are.all k straddle.touches in
                      let sooner : get_or touched found.0 0 < get_or touched j 0 = omega (arith, lower, found.2) in
                      let earlier = comes_earlier shape sub subset touched are found.0 j found.1 below sooner in
                      subst (λ n. HasOldCells inner shape sub subset (bytes_of first.contents) numbers n) found.2 (passed t found.0 earlier) straddle),
                  (refusals.0, rw (long t) old_bytes),
                ),
              ))
        ])
      ]

-- the new cells over those of a slot are those over the numbers' slot
pub new_cells_at : (inner_cells : List ℕ → List (Option (List ℕ))) (fill bytes numbers : List ℕ) (len : ℕ) (shape : List ℕ) (sub_g : ArraySpec) (subset : Subset) (update : List (List ℕ)) (slot : Slot) (k : ℕ) (elements : List (List ℕ))
    → length bytes ≡ len → slot ≡ slot_at len numbers k → AreNewCells shape sub_g subset update (cell_in inner_cells fill bytes slot) k elements
    → AreNewCells shape sub_g subset update (cells_in inner_cells fill bytes numbers k) k elements
new_cells_at inner_cells fill bytes numbers len shape sub_g subset update slot k elements long is h = rw (long, ← is) h

-- what is read at a place of a list is the array there
pub array_here : (arrays : List Array) (j : ℕ) (x : Array) → j < length arrays → x ≡ get_or arrays j x → x ≡ array_at arrays j
array_here arrays j x below is = is ∙ get_or_default arrays j x no_array below
