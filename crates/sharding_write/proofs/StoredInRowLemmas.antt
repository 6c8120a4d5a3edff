-- Subchunks laid one after the other, whatever they are.
use Rattle.std.proofs.Common.{◌≡◌, ℕ, ◌+◌, ◌<◌, ◌≤◌, inl, inr, Bool, List, [], ◌∷◌, ◌++◌, length, get_or, ap, ◌∙◌, arith, length-append}
use Rattle.std.proofs.Math.ListN.{get_or-append}
use Rattle.std.proofs.lemmas.List.{get_or_push, length_push}
use borrow.Author.Count.{below_more}
use Rattle.parts_errors.specs.Order.{done, RefusedBy}
use Rattle.parts_errors.specs.Words.{Elements}
use Rattle.parts_errors.specs.declared.error.CodecError.{CodecError}
use Rattle.codec_traits.specs.Meanings.{Meaning}
use Rattle.sharding_format.specs.EncodeRefusals.{RefusesToStore, StoreRefusals}
use Rattle.sharding_format.specs.Encoding.{slot_size, BeginsAt, IsStored}
use Rattle.sharding_format.specs.Packing.{slice_of}
use Rattle.sharding_format.specs.Laying.{placed_slot, IsStoredIn, taken}
use Rattle.sharding_format.specs.declared.slot.Slot.{Slot}
use Rattle.sharding_format.specs.declared.slot.Slot.TheVariants.{Bad}
use Rattle.sharding_format.proofs.LayingLemmas.{sum_more, sum_same, begins_placed, size_placed, stored_placed, stored_stays, encoding_stored}
use Rattle.sharding_write.specs.Writing.{AreStoredInRow}

-- one more
pub one_more : (inner_written : List (List ℕ) → List ℕ → Type 0) (fill : List ℕ) (e : ℕ → Elements) (bytes more all : List ℕ) (slots grown : List Slot) (k : ℕ) (present : Bool)
    → AreStoredInRow inner_written fill e bytes slots k → IsStored inner_written fill (e k) present more
    → all ≡ bytes ++ more → grown ≡ slots ++ placed_slot present (length bytes) (length more) ∷ []
    → AreStoredInRow inner_written fill e all grown (k + 1)
one_more inner_written fill e bytes more all slots grown k present h stored is grows =
    let new : Slot = placed_slot present (length bytes) (length more) in
    let here : get_or grown k Bad ≡ new = ap (λ (xs : List Slot). get_or xs k Bad) grows ∙ get_or_push slots new Bad k h.counted in
    let before : (j : ℕ) → j < k → get_or grown j Bad ≡ get_or slots j Bad =
    λ j below. ap (λ (xs : List Slot). get_or xs j Bad) grows ∙ get_or-append slots (new ∷ []) Bad j (omega (arith, below, h.counted)) in
    let sums : (j : ℕ) → j ≤ k → taken grown j ≡ taken slots j =
    λ j upto. sum_same (λ i. slot_size (get_or grown i Bad)) (λ i. slot_size (get_or slots i Bad)) j (λ i below. ap slot_size (before i (omega arith))) in
    record {
      counted = ap length grows ∙ length_push slots new ∙ ap (λ n. n + 1) h.counted;
      stored_slices = below_more (λ j. IsStoredIn inner_written fill (e j) all (get_or grown j Bad)) k
          (λ j below. rw (is, before j below) (stored_stays inner_written fill (e j) (get_or slots j Bad) bytes more (h.stored_slices j below)))
          (rw (is, here) (stored_placed inner_written fill (e k) present bytes more stored));
      begins = below_more (λ j. BeginsAt (taken grown j) (get_or grown j Bad)) k
          (λ j below. rw (sums j (omega arith), before j below) (h.begins j below))
          (rw (sums k (omega arith), here, h.filled) (begins_placed present (length bytes) (length more)));
      filled = sum_more (λ i. slot_size (get_or grown i Bad)) k
          ∙ omega (arith, sums k (omega arith), h.filled, ap slot_size here, size_placed inner_written fill (e k) present (length bytes) more stored, ap length is, length-append bytes more);
    }

-- the first that is refused
pub one_refused : (inner : Meaning) (fill : List ℕ) (e : ℕ → Elements) (bytes : List ℕ) (slots : List Slot) (n k : ℕ) (r : CodecError)
    → k < n → AreStoredInRow inner.written fill e bytes slots k → RefusedBy (RefusesToStore inner.encodable inner.fits fill (e k)) r → RefusedBy (StoreRefusals inner fill e n done) r
one_refused inner fill e bytes slots n k r below h refused =
    elim refused [
      | inl memory ↦ inl memory
      | inr f ↦ inr (inl (
        k,
        (
          below,
          (λ j before. (slice_of bytes (get_or slots j Bad), encoding_stored inner.written fill (e j) (get_or slots j Bad) bytes (h.stored_slices j before))),
          f,
        ),
      ))
    ]
