-- The numbers of slots that fit are numbers of 64 bits.
use Rattle.std.proofs.Common.{◌≡◌, ℕ, ◌+◌, ◌*◌, ◌/◌, ◌^◌, ◌<◌, inl, inr, List, map, get_or, sym, subst, arith}
use Rattle.std.specs.List.{All}
use Rattle.std.proofs.lemmas.List.{get_or_default}
use Rattle.std.proofs.lemmas.Bool.Decides.{eqb_tells}
use Rattle.sharding_format.specs.Index.{absent_number, element_of_number}
use Rattle.sharding_format.specs.Laying.{offset_number, size_number, EndsBelow, AreNumbersOf, IsIndexOf}
use Rattle.sharding_format.specs.declared.slot.Slot.{Slot}
use Rattle.sharding_format.specs.declared.slot.Slot.TheVariants.{Absent, InRange, Bad}
use Rattle.sharding_format.specs.Encoding.{slot_size}
use Rattle.sharding_format.specs.Compacting.{present_size}
use Rattle.sharding_format.specs.Packing.{moved_slot}
use Rattle.sharding_format.proofs.LayingLemmas.{sum_more, sum_grows_to}
use Rattle.sharding_layout.specs.Repacking.{packed_slots}
use Rattle.sharding_layout.proofs.RepackingLemmas.{packed_in, length-packed}

offset_below : (start : ℕ) (s : Slot) → EndsBelow start s → offset_number start s < 2 ^ 64
offset_below start Absent h = omega arith
offset_below start (InRange offset size) h = omega (arith, h)
offset_below start Bad h = omega arith

size_below : (start : ℕ) (s : Slot) → EndsBelow start s → size_number s < 2 ^ 64
size_below start Absent h = omega arith
size_below start (InRange offset size) h = omega (arith, h)
size_below start Bad h = omega arith

pub numbers_below : (start : ℕ) (positions : List Slot) (numbers : List ℕ) (n : ℕ) → AreNumbersOf start positions numbers n
    → ((k : ℕ) → k < n → EndsBelow start (get_or positions k Bad)) → All (λ m. m < 2 ^ 64) numbers
numbers_below start positions numbers n are room = λ k d inside.
    let j : ℕ = k / 2 in
    let below : j < n = omega (arith, are.counted, inside) in
    rw (get_or_default numbers k d 0 inside) (elim (eqb_tells k (2 * j)) [
      | inl even ↦ rw (even.1, are.offsets j below) (offset_below start (get_or positions j Bad) (room j below))
      | inr odd ↦
          let next : k ≡ 2 * j + 1 = omega (arith, odd.1) in
          rw (next, are.sizes j below) (size_below start (get_or positions j Bad) (room j below))
    ])

ends_moved : (start write_offset : ℕ) (s : Slot) → start + write_offset + slot_size s < absent_number → EndsBelow start (moved_slot s write_offset)
ends_moved start write_offset Absent h = tt
ends_moved start write_offset (InRange offset size) h = omega (arith, h)
ends_moved start write_offset Bad h = tt

-- so are those of slices that are packed
pub packed_below : (start n : ℕ) (slots : ℕ → Slot) (numbers : List ℕ) → AreNumbersOf start (packed_slots slots n) numbers n
    → start + present_size slots n < absent_number → All (λ m. m < 2 ^ 64) numbers
packed_below start n slots numbers are small =
    numbers_below start (packed_slots slots n) numbers n are
    (λ k below. rw (packed_in slots n k below) (ends_moved start (present_size slots k) (slots k)
    (omega (arith, small, sum_more (λ j. slot_size (slots j)) k, sum_grows_to (λ j. slot_size (slots j)) (k + 1) n (omega (arith, below))))))

-- numbers of packed slices make an index of them
pub index_of_packed : (written : List (List ℕ) → List ℕ → Type 0) (start n : ℕ) (slots : ℕ → Slot) (numbers bytes : List ℕ)
    → AreNumbersOf start (packed_slots slots n) numbers n → start + present_size slots n < absent_number → written (map element_of_number numbers) bytes
    → IsIndexOf written start (packed_slots slots n) bytes
index_of_packed written start n slots numbers bytes are small is = record {
  numbers = numbers;
  are = subst (AreNumbersOf start (packed_slots slots n) numbers) (sym (length-packed slots n)) are;
  below = packed_below start n slots numbers are small;
  written = is;
}
