-- Slices laid end to end make a shard.
use Rattle.std.proofs.Common.{◌≡◌, ℕ, zero, suc, ◌+◌, ◌-◌, ◌<◌, ◌≤◌, inl, inr, Bool, true, false, List, [], ◌∷◌, ◌++◌, length, get_or, set, take, drop, refl, sym, ap, ◌∙◌, subst, arith, IsPermutation, length-append, length-drop, length-take}
use Rattle.std.specs.List.{range_with_len, sum_by}
use Rattle.std.proofs.Math.ListN.{get_or-append}
use Rattle.std.proofs.Math.Seq.{drop-append_seam, take-length}
use Rattle.std.proofs.lemmas.List.{get_or_push, length_push, get_or-set_same, get_or-set_other, length-set, map-id, take_all, take-take, take-append-le, drop-append-le}
use Rattle.std.proofs.lemmas.List.Sums.{sum_by_more, sum_by-take-le}
use Rattle.std.proofs.lemmas.List.Sorted.{sum_by-IsPermutation}
use Rattle.std.proofs.lemmas.List.FromFn.{length-range_with_len, get_or-range_with_len, sum_by-map-range_with_len_more}
use borrow.Author.Count.{below_more}
use Rattle.parts_errors.specs.Order.{done, RefusedBy}
use Rattle.parts_errors.specs.declared.error.CodecError.{CodecError}
use Rattle.parts_subsets.specs.Grid.{subchunk}
use Rattle.codec_traits.specs.Meanings.{Meaning}
use Rattle.sharding_format.specs.Serves.{IsStoredPart}
use Rattle.sharding_format.specs.EncodeRefusals.{RefusesToStore, HasPart, StoreRefusals}
use Rattle.sharding_format.specs.Encoding.{slot_size, BeginsAt, IsStored}
use Rattle.sharding_format.specs.Packing.{slice_of}
use Rattle.sharding_format.specs.Laying.{placed_slot, IsStoredIn, taken_by, taken, IsStoredInOrder}
use Rattle.sharding_format.specs.WriteOrderLaws.{order_counted, order_below, order_has, order_differs, take-range}
use Rattle.sharding_format.specs.declared.slot.Slot.{Slot}
use Rattle.sharding_format.specs.declared.slot.Slot.TheVariants.{Absent, InRange, Bad}

plain : (k : ℕ) → 0 + k ≡ k
plain k = omega arith

one_more : (k : ℕ) → k + 1 ≡ suc k
one_more k = omega arith

plus_zero : (j : ℕ) → j + 0 ≡ j
plus_zero j = omega arith

plus_more : (j n : ℕ) → j + n + 1 ≡ j + suc n
plus_more j n = omega arith

room : (j k : ℕ) → j ≤ k → j + (k - j) ≡ k
room j k h = omega arith

-- sums of the first numbers' terms
pub sum_more : (f : ℕ → ℕ) (k : ℕ) → sum_by f (range_with_len 0 (k + 1)) ≡ sum_by f (range_with_len 0 k) + f k
sum_more f k =
    ap (sum_by f) (sym (map-id (range_with_len 0 (k + 1))))
    ∙ sum_by-map-range_with_len_more f (λ (x : ℕ). x) 0 k k (omega arith)
    ∙ ap (λ xs. sum_by f xs + f k) (map-id (range_with_len 0 k))

pub sum_same : (f h : ℕ → ℕ) (k : ℕ) → ((j : ℕ) → j < k → f j ≡ h j) → sum_by f (range_with_len 0 k) ≡ sum_by h (range_with_len 0 k)
sum_same f h zero each = refl
sum_same f h (suc k) each =
    subst (λ m. sum_by f (range_with_len 0 m) ≡ sum_by h (range_with_len 0 m)) (one_more k)
    (omega (arith, sum_more f k, sum_more h k, sum_same f h k (λ j below. each j (omega arith)), each k (omega arith)))

-- and they grow
pub sum_grows : (f : ℕ → ℕ) (j n : ℕ) → sum_by f (range_with_len 0 j) ≤ sum_by f (range_with_len 0 (j + n))
sum_grows f j zero = omega (arith, ap (λ m. sum_by f (range_with_len 0 m)) (plus_zero j))
sum_grows f j (suc n) =
    omega (arith, sum_grows f j n, sum_more f (j + n), ap (λ m. sum_by f (range_with_len 0 m)) (plus_more j n))

pub sum_grows_to : (f : ℕ → ℕ) (j k : ℕ) → j ≤ k → sum_by f (range_with_len 0 j) ≤ sum_by f (range_with_len 0 k)
sum_grows_to f j k below = subst (λ m. sum_by f (range_with_len 0 j) ≤ sum_by f (range_with_len 0 m)) (room j k below) (sum_grows f j (k - j))

-- the slot of the subchunk that comes next
pub begins_placed : (present : Bool) (write_offset size : ℕ) → BeginsAt write_offset (placed_slot present write_offset size)
begins_placed true write_offset size = refl
begins_placed false write_offset size = tt

pub size_placed : (inner_written : List (List ℕ) → List ℕ → Type 0) (fill : List ℕ) (e : List (List ℕ)) (present : Bool) (offset : ℕ) (more : List ℕ)
    → IsStored inner_written fill e present more → slot_size (placed_slot present offset (length more)) ≡ length more
size_placed inner_written fill e true offset more h = refl
size_placed inner_written fill e false offset more h = ap length (sym h.1)

pub stored_placed : (inner_written : List (List ℕ) → List ℕ → Type 0) (fill : List ℕ) (e : List (List ℕ)) (present : Bool) (bytes more : List ℕ)
    → IsStored inner_written fill e present more → IsStoredIn inner_written fill e (bytes ++ more) (placed_slot present (length bytes) (length more))
stored_placed inner_written fill e true bytes more h =
    (h.0, rw (drop-append_seam bytes more, take-length more) h.1, omega (arith, length-append bytes more))
stored_placed inner_written fill e false bytes more h = h.0

-- what is laid stays where more follows
pub stored_stays : (inner_written : List (List ℕ) → List ℕ → Type 0) (fill : List ℕ) (e : List (List ℕ)) (s : Slot) (bytes more : List ℕ)
    → IsStoredIn inner_written fill e bytes s → IsStoredIn inner_written fill e (bytes ++ more) s
stored_stays inner_written fill e Absent bytes more h = h
stored_stays inner_written fill e (InRange offset size) bytes more h = (
  h.0,
  rw (drop-append-le offset bytes more (omega (arith, h.2)), take-append-le size (drop offset bytes) more (omega (arith, h.2, length-drop offset bytes))) h.1,
  omega (arith, h.2, length-append bytes more),
)
stored_stays inner_written fill e Bad bytes more h = absurd h

-- sums over the first numbers of a list
pub sum_take_same : (f h : ℕ → ℕ) (xs : List ℕ) (k : ℕ) → k ≤ length xs → ((j : ℕ) → j < k → f (get_or xs j 0) ≡ h (get_or xs j 0))
    → sum_by f (take k xs) ≡ sum_by h (take k xs)
sum_take_same f h xs zero upto each = refl
sum_take_same f h xs (suc k) upto each =
    subst (λ m. sum_by f (take m xs) ≡ sum_by h (take m xs)) (one_more k)
    (omega (
      arith,
      sum_by_more f xs k 0 (omega arith),
      sum_by_more h xs k 0 (omega arith),
      sum_take_same f h xs k (omega arith) (λ j below. each j (omega arith)),
      each k (omega arith),
    ))

pub sum_take_grows : (f : ℕ → ℕ) (xs : List ℕ) (j k : ℕ) → j ≤ k → sum_by f (take j xs) ≤ sum_by f (take k xs)
sum_take_grows f xs j k below = omega (arith, sum_by-take-le f (take k xs) j, ap (sum_by f) (take-take j k xs below))

-- the sum over all numbers of an order is that over the ascending ones
pub sum_of_order : (f : ℕ → ℕ) (n : ℕ) (order : List ℕ) → IsPermutation (range_with_len 0 n) order
    → sum_by f (take n order) ≡ sum_by f (range_with_len 0 n)
sum_of_order f n order h =
    ap (sum_by f) (take_all n order (omega (arith, order_counted n order h))) ∙ sum_by-IsPermutation f (range_with_len 0 n) order h

-- one subchunk more is laid out, stored or absent
pub one_more_stored : (inner_written : List (List ℕ) → List ℕ → Type 0) (fill shape sub : List ℕ) (a : List (List ℕ)) (bytes more all : List ℕ) (slots grown : List Slot) (order : List ℕ) (n i k : ℕ) (present : Bool)
    → IsPermutation (range_with_len 0 n) order → i < n → get_or order i 0 ≡ k
    → IsStoredInOrder inner_written fill shape sub a bytes slots order i
    → IsStored inner_written fill (subchunk shape sub a k) present more
    → all ≡ bytes ++ more → grown ≡ set slots k (placed_slot present (length bytes) (length more))
    → IsStoredInOrder inner_written fill shape sub a all grown order (i + 1)
one_more_stored inner_written fill shape sub a bytes more all slots grown order n i k present permutes below number h stored is put =
    let new : Slot = placed_slot present (length bytes) (length more) in
    let counted : length order ≡ n = order_counted n order permutes in
    let at : ℕ → ℕ = λ j. get_or order j 0 in
    let k_below : k < length slots = omega (arith, number, order_below n order i permutes below, h.counted, counted) in
    let here : get_or grown (at i) Bad ≡ new = rw number (ap (λ (xs : List Slot). get_or xs k Bad) put ∙ get_or-set_same slots k new Bad k_below) in
    let before : (j : ℕ) → j < i → get_or grown (at j) Bad ≡ get_or slots (at j) Bad =
    λ j lt. ap (λ (xs : List Slot). get_or xs (at j) Bad) put
    ∙ get_or-set_other slots k (at j) new Bad (λ same. order_differs n order j i permutes lt below (same ∙ sym number)) in
    let sums : (j : ℕ) → j ≤ i → taken_by grown (take j order) ≡ taken_by slots (take j order) =
    λ j upto. sum_take_same (λ m. slot_size (get_or grown m Bad)) (λ m. slot_size (get_or slots m Bad)) order j (omega (arith, counted))
    (λ m lt. ap slot_size (before m (omega arith))) in
    let stored_here : IsStored inner_written fill (subchunk shape sub a (at i)) present more = rw number stored in
    record {
      counted = ap length put ∙ length-set slots k new ∙ h.counted;
      stored_slices = below_more (λ j. IsStoredIn inner_written fill (subchunk shape sub a (at j)) all (get_or grown (at j) Bad)) i
          (λ j lt. rw (is, before j lt) (stored_stays inner_written fill (subchunk shape sub a (at j)) (get_or slots (at j) Bad) bytes more (h.stored_slices j lt)))
          (rw (is, here) (stored_placed inner_written fill (subchunk shape sub a (at i)) present bytes more stored_here));
      begins = below_more (λ j. BeginsAt (taken_by grown (take j order)) (get_or grown (at j) Bad)) i
          (λ j lt. rw (sums j (omega arith), before j lt) (h.begins j lt))
          (rw (sums i (omega arith), here, h.filled) (begins_placed present (length bytes) (length more)));
      filled = sum_by_more (λ m. slot_size (get_or grown m Bad)) order i 0 (omega (arith, counted))
          ∙ omega (
            arith,
            sums i (omega arith),
            h.filled,
            ap slot_size here,
            size_placed inner_written fill (subchunk shape sub a (at i)) present (length bytes) more stored_here,
            ap length is,
            length-append bytes more,
          );
    }

-- nothing is laid out yet
pub none_stored_yet : (inner_written : List (List ℕ) → List ℕ → Type 0) (fill shape sub : List ℕ) (a : List (List ℕ)) (bytes : List ℕ) (slots : List Slot) (order : List ℕ)
    → length slots ≡ length order → bytes ≡ [] → IsStoredInOrder inner_written fill shape sub a bytes slots order 0
none_stored_yet inner_written fill shape sub a bytes slots order counted nothing = record {
  counted = counted;
  stored_slices = λ j below. absurd (omega arith);
  begins = λ j below. absurd (omega arith);
  filled = sym (ap length nothing);
}

-- subchunk k is laid out where all are
pub stored_number : (inner_written : List (List ℕ) → List ℕ → Type 0) (fill shape sub : List ℕ) (a : List (List ℕ)) (bytes : List ℕ) (slots : List Slot) (order : List ℕ) (n k : ℕ)
    → IsPermutation (range_with_len 0 n) order → IsStoredInOrder inner_written fill shape sub a bytes slots order n → k < n
    → IsStoredIn inner_written fill (subchunk shape sub a k) bytes (get_or slots k Bad)
stored_number inner_written fill shape sub a bytes slots order n k permutes h below =
    let found = order_has n order k permutes below in
    subst (λ m. IsStoredIn inner_written fill (subchunk shape sub a m) bytes (get_or slots m Bad)) found.is
    (h.stored_slices found.position (omega (arith, found.inside, order_counted n order permutes)))

-- ---- in ascending order, a slot at a time
-- the first k subchunks are laid out, and there are as many slots
pub record IsStoredUpTo (inner_written : List (List ℕ) → List ℕ → Type 0) (fill shape sub : List ℕ) (a : List (List ℕ)) (bytes : List ℕ) (slots : List Slot) (k : ℕ) : Type 0 where
  pub counted : length slots ≡ k
  pub stored_slices : (j : ℕ) → j < k → IsStoredIn inner_written fill (subchunk shape sub a j) bytes (get_or slots j Bad)
  pub begins : (j : ℕ) → j < k → BeginsAt (taken slots j) (get_or slots j Bad)
  pub filled : taken slots k ≡ length bytes

pub next_stored : (inner_written : List (List ℕ) → List ℕ → Type 0) (fill shape sub : List ℕ) (a : List (List ℕ)) (bytes more all : List ℕ) (slots grown : List Slot) (k : ℕ) (present : Bool)
    → IsStoredUpTo inner_written fill shape sub a bytes slots k
    → IsStored inner_written fill (subchunk shape sub a k) present more
    → all ≡ bytes ++ more → grown ≡ slots ++ placed_slot present (length bytes) (length more) ∷ []
    → IsStoredUpTo inner_written fill shape sub a all grown (k + 1)
next_stored inner_written fill shape sub a bytes more all slots grown k present h stored is grows =
    let new : Slot = placed_slot present (length bytes) (length more) in
    let here : get_or grown k Bad ≡ new = ap (λ (xs : List Slot). get_or xs k Bad) grows ∙ get_or_push slots new Bad k h.counted in
    let before : (j : ℕ) → j < k → get_or grown j Bad ≡ get_or slots j Bad =
    λ j below. ap (λ (xs : List Slot). get_or xs j Bad) grows ∙ get_or-append slots (new ∷ []) Bad j (omega (arith, below, h.counted)) in
    let sums : (j : ℕ) → j ≤ k → taken grown j ≡ taken slots j =
    λ j upto. sum_same (λ i. slot_size (get_or grown i Bad)) (λ i. slot_size (get_or slots i Bad)) j (λ i below. ap slot_size (before i (omega arith))) in
    record {
      counted = ap length grows ∙ length_push slots new ∙ ap (λ n. n + 1) h.counted;
      stored_slices = below_more (λ j. IsStoredIn inner_written fill (subchunk shape sub a j) all (get_or grown j Bad)) k
          (λ j below. rw (is, before j below) (stored_stays inner_written fill (subchunk shape sub a j) (get_or slots j Bad) bytes more (h.stored_slices j below)))
          (rw (is, here) (stored_placed inner_written fill (subchunk shape sub a k) present bytes more stored));
      begins = below_more (λ j. BeginsAt (taken grown j) (get_or grown j Bad)) k
          (λ j below. rw (sums j (omega arith), before j below) (h.begins j below))
          (rw (sums k (omega arith), here, h.filled) (begins_placed present (length bytes) (length more)));
      filled = sum_more (λ i. slot_size (get_or grown i Bad)) k
          ∙ omega (arith, sums k (omega arith), h.filled, ap slot_size here, size_placed inner_written fill (subchunk shape sub a k) present (length bytes) more stored, ap length is, length-append bytes more);
    }

-- all subchunks are laid out
pub all_stored : (inner_written : List (List ℕ) → List ℕ → Type 0) (fill shape sub : List ℕ) (a : List (List ℕ)) (bytes : List ℕ) (slots : List Slot) (n : ℕ)
    → IsStoredUpTo inner_written fill shape sub a bytes slots n
    → IsStoredInOrder inner_written fill shape sub a bytes slots (range_with_len 0 n) n
all_stored inner_written fill shape sub a bytes slots n h =
    let number : (j : ℕ) → j < n → j ≡ get_or (range_with_len 0 n) j 0 = λ j below. sym (get_or-range_with_len 0 n j 0 below ∙ plain j) in
    record {
      counted = h.counted ∙ sym (length-range_with_len 0 n);
      stored_slices = λ j below. subst (λ m. IsStoredIn inner_written fill (subchunk shape sub a m) bytes (get_or slots m Bad)) (number j below) (h.stored_slices j below);
      begins = λ j below. rw (take-range n j (omega arith)) (subst (λ m. BeginsAt (taken slots j) (get_or slots m Bad)) (number j below) (h.begins j below));
      filled = ap (taken_by slots) (take-range n n (omega arith)) ∙ h.filled;
    }

pub encoding_stored : (inner_written : List (List ℕ) → List ℕ → Type 0) (fill : List ℕ) (e : List (List ℕ)) (s : Slot) (bytes : List ℕ)
    → IsStoredIn inner_written fill e bytes s → IsStoredPart inner_written fill e (slice_of bytes s)
encoding_stored inner_written fill e Absent bytes h = inl (h, refl)
encoding_stored inner_written fill e (InRange offset size) bytes h = inr (h.0, h.1)
encoding_stored inner_written fill e Bad bytes h = absurd h

pub length_stored : (inner_written : List (List ℕ) → List ℕ → Type 0) (fill : List ℕ) (e : List (List ℕ)) (s : Slot) (bytes : List ℕ)
    → IsStoredIn inner_written fill e bytes s → length (slice_of bytes s) ≡ slot_size s
length_stored inner_written fill e Absent bytes h = refl
length_stored inner_written fill e (InRange offset size) bytes h = omega (arith, h.2, length-take size (drop offset bytes), length-drop offset bytes)
length_stored inner_written fill e Bad bytes h = absurd h

-- the lowest subchunk that is refused: those below it have parts
pub lowest_not_stored : (inner : Meaning) (fill : List ℕ) (subchunks : ℕ → List (List ℕ)) (n k : ℕ) (e : CodecError)
    → k < n → ((j : ℕ) → j < k → HasPart inner.written fill (subchunks j))
    → RefusedBy (RefusesToStore inner.encodable inner.fits fill (subchunks k)) e
    → RefusedBy (StoreRefusals inner fill subchunks n done) e
lowest_not_stored inner fill subchunks n k e below parts refused =
    elim refused [
      | inl memory ↦ inl memory
      | inr r ↦ inr (inl (k, (below, parts, r)))
    ]

-- what is to be stored of a subchunk is a part of it
pub part_stored : (inner_written : List (List ℕ) → List ℕ → Type 0) (fill : List ℕ) (e : List (List ℕ)) (present : Bool) (bytes : List ℕ)
    → IsStored inner_written fill e present bytes → IsStoredPart inner_written fill e bytes
part_stored inner_written fill e true bytes h = inr h
part_stored inner_written fill e false bytes h = inl h
