-- The slices that the entries of an index name, packed, and the entries that name them there.
use Rattle.std.proofs.Common.{◌≡◌, ◌≢◌, ℕ, zero, suc, ◌+◌, ◌*◌, ◌/◌, ◌^◌, ◌<◌, ◌≤◌, inl, inr, Bool, true, false, ◌==◌, ◌&&◌, ◌||◌, nat_le, if◌then◌else◌, List, [], ◌∷◌, ◌++◌, length, get_or, refl, sym, ap, ◌∙◌, subst, arith}
use Rattle.std.specs.List.{flat_map, range_with_len}
use Rattle.std.proofs.lemmas.Bool.{eqb-true, eqb-false, leb-true}
use Rattle.std.proofs.lemmas.Bool.Decides.{eqb_tells}
use Rattle.std.proofs.lemmas.List.{append_assoc, flat_map_more, map-id}
use Rattle.std.proofs.lemmas.List.FromFn.{length-map-range_with_len, get_or-map-range_with_len, map-range_with_len_more}
use borrow.Author.Count.{below_more}
use Rattle.sharding_format.specs.Index.{absent_number, slot_of_entry, slot_at}
use Rattle.sharding_format.specs.Encoding.{slot_size}
use Rattle.sharding_format.specs.Laying.{taken, offset_number, size_number, AreNumbersOf}
use Rattle.sharding_format.specs.Compacting.{IsGood, present_size}
use Rattle.sharding_format.specs.Packing.{LiesInShard, AreSlots, slice_of, moved_slot, IsPacked}
use Rattle.sharding_format.specs.declared.slot.Slot.{Slot}
use Rattle.sharding_format.specs.declared.slot.Slot.TheVariants.{Absent, InRange, Bad}
use Rattle.sharding_format.proofs.LayingLemmas.{sum_more, sum_same, sum_grows_to}
use Rattle.sharding_format.proofs.PackingLemmas.{one_more_packed}
use Rattle.sharding_layout.specs.Repacking.{slots_of, slices_of, packed_slots}

-- what is known of an entry that isn't bad
pub record GoodEntry (len x y : ℕ) (s : Slot) : Type 0 where
  pub absent : x ≡ absent_number → (s ≡ Absent) × (y ≡ absent_number)
  pub present : x ≢ absent_number → s ≡ InRange x y
  pub inside : LiesInShard len s

good_by_tests : (x_absent y_absent inside : Bool) (len x y : ℕ) → (x_absent ≡ true → x ≡ absent_number) → (x_absent ≡ false → x ≢ absent_number)
    → (y_absent ≡ true → y ≡ absent_number) → (inside ≡ true → x + y ≤ len)
    → (s : Slot) → s ≡ (if x_absent && y_absent then Absent else (if x_absent || y_absent then Bad else (if inside then InRange x y else Bad)))
    → IsGood s → GoodEntry len x y s
good_by_tests true true inside len x y hx nx hy h s is good = rw is (record { absent = λ same. (refl, hy refl); present = λ other. absurd (other (hx refl)); inside = tt })
good_by_tests true false inside len x y hx nx hy h s is good = absurd (rw is at good)
good_by_tests false true inside len x y hx nx hy h s is good = absurd (rw is at good)
good_by_tests false false true len x y hx nx hy h s is good = rw is (record { absent = λ same. absurd (nx refl same); present = λ other. refl; inside = h refl })
good_by_tests false false false len x y hx nx hy h s is good = absurd (rw is at good)

pub good_entry : (len x y : ℕ) (s : Slot) → s ≡ slot_of_entry len x y → IsGood s → GoodEntry len x y s
good_entry len x y s is good =
    good_by_tests (x == absent_number) (y == absent_number) (nat_le (x + y) len) len x y (λ t. eqb-true x absent_number t) (λ f. eqb-false x absent_number f)
    (λ t. eqb-true y absent_number t) (λ t. leb-true (x + y) len t) s is good

-- the entry of a subchunk that isn't bad
pub good_at : (len : ℕ) (numbers : List ℕ) (k : ℕ) → IsGood (slot_at len numbers k)
    → GoodEntry len (get_or numbers (2 * k) 0) (get_or numbers (2 * k + 1) 0) (slot_at len numbers k)
unfolding slot_at
good_at len numbers k good = good_entry len (get_or numbers (2 * k) 0) (get_or numbers (2 * k + 1) 0) (slot_at len numbers k) refl good

-- the slots of an index
pub slot_in : (len : ℕ) (numbers : List ℕ) (k : ℕ) → k < length numbers / 2 → get_or (slots_of len numbers) k Bad ≡ slot_at len numbers k
slot_in len numbers k below = get_or-map-range_with_len (slot_at len numbers) 0 (length numbers / 2) k k Bad below (omega arith)

pub are_slots : (len : ℕ) (numbers : List ℕ) (n : ℕ) → n ≡ length numbers / 2 → ((k : ℕ) → k < n → IsGood (slot_at len numbers k))
    → AreSlots len numbers (slots_of len numbers) n
are_slots len numbers n is good = record {
  counted = length-map-range_with_len (slot_at len numbers) 0 (length numbers / 2) ∙ sym is;
  are = λ k below. slot_in len numbers k (omega (arith, is, below));
  inside = λ k below. rw (slot_in len numbers k (omega (arith, is, below))) ((good_at len numbers k (good k below)).inside);
}

pub taken_present : (len : ℕ) (numbers : List ℕ) (n : ℕ) → n ≤ length numbers / 2 → taken (slots_of len numbers) n ≡ present_size (slot_at len numbers) n
taken_present len numbers n is =
    sum_same (λ j. slot_size (get_or (slots_of len numbers) j Bad)) (λ j. slot_size (slot_at len numbers j)) n
    (λ j below. ap slot_size (slot_in len numbers j (omega (arith, is, below))))

-- one slice more
pub slices_more : (bytes : List ℕ) (slots : ℕ → Slot) (k : ℕ) → slices_of bytes slots (k + 1) ≡ slices_of bytes slots k ++ slice_of bytes (slots k)
slices_more bytes slots k =
    let f = λ (j : ℕ). slice_of bytes (slots j) in
    let range : range_with_len 0 (k + 1) ≡ range_with_len 0 k ++ k ∷ [] =
    sym (map-id (range_with_len 0 (k + 1))) ∙ map-range_with_len_more (λ (j : ℕ). j) 0 k k (omega arith) ∙ ap (λ xs. xs ++ k ∷ []) (map-id (range_with_len 0 k)) in
    ap (flat_map f) range ∙ sym (flat_map_more f [] (range_with_len 0 k) k)

pub pushed_more : (before all bytes : List ℕ) (slots : ℕ → Slot) (new : List ℕ) (k : ℕ) → all ≡ before ++ slices_of bytes slots k
    → new ≡ all ++ slice_of bytes (slots k) → new ≡ before ++ slices_of bytes slots (k + 1)
pushed_more before all bytes slots new k so_far is =
    is ∙ ap (λ xs. xs ++ slice_of bytes (slots k)) so_far ∙ append_assoc before (slices_of bytes slots k) (slice_of bytes (slots k)) ∙ ap (λ xs. before ++ xs) (sym (slices_more bytes slots k))

-- the slots of packed slices
pub packed_in : (slots : ℕ → Slot) (n k : ℕ) → k < n → get_or (packed_slots slots n) k Bad ≡ moved_slot (slots k) (present_size slots k)
packed_in slots n k below = get_or-map-range_with_len (λ (j : ℕ). moved_slot (slots j) (present_size slots j)) 0 n k k Bad below (omega arith)

pub length-packed : (slots : ℕ → Slot) (n : ℕ) → length (packed_slots slots n) ≡ n
length-packed slots n = length-map-range_with_len (λ (j : ℕ). moved_slot (slots j) (present_size slots j)) 0 n

packed_slots_more : (slots : ℕ → Slot) (k : ℕ) → packed_slots slots (k + 1) ≡ packed_slots slots k ++ moved_slot (slots k) (present_size slots k) ∷ []
packed_slots_more slots k = map-range_with_len_more (λ (j : ℕ). moved_slot (slots j) (present_size slots j)) 0 k k (omega arith)

none : (j : ℕ) → ¬ (j < 0)
none j below = omega (arith, below)

-- the slices of good entries, one after the other, are packed
module _ (old numbers : List ℕ) (good : (k : ℕ) → k < length numbers / 2 → IsGood (slot_at (length old) numbers k)) where
  packed_up_to : (k : ℕ) → k ≤ length numbers / 2
      → IsPacked old (slots_of (length old) numbers) (slices_of old (slot_at (length old) numbers) k) (packed_slots (slot_at (length old) numbers) k) k
  packed_up_to zero upto = record { counted = refl; moved = λ j below. absurd (none j below); filled = refl }
  packed_up_to (suc k) upto =
      let slots = slots_of (length old) numbers in
      let slot : ℕ → Slot = slot_at (length old) numbers in
      let h = packed_up_to k (omega (arith, upto)) in
      let is : get_or slots k Bad ≡ slot k = slot_in (length old) numbers k (omega (arith, upto)) in
      let here : present_size slot k ≡ length (slices_of old slot k) = sym (taken_present (length old) numbers k (omega (arith, upto))) ∙ h.filled in
      let one : k + 1 ≡ suc k = omega arith in
      subst (λ m. IsPacked old slots (slices_of old slot m) (packed_slots slot m) m) one
      (one_more_packed old (slices_of old slot k) (slices_of old slot (k + 1)) slots (packed_slots slot k) (packed_slots slot (k + 1)) k h
      (rw is ((good_at (length old) numbers k (good k (omega (arith, upto)))).inside))
      (rw is (slices_more old slot k)) (rw (is, sym here) (packed_slots_more slot k)))

  pub packed_slices : IsPacked old (slots_of (length old) numbers) (slices_of old (slot_at (length old) numbers) (length numbers / 2))
      (packed_slots (slot_at (length old) numbers) (length numbers / 2)) (length numbers / 2)
  packed_slices = packed_up_to (length numbers / 2) (omega arith)

-- the number of a packed slice's place, and of its size, by the entry
offset_of_good : (len x y start write_offset : ℕ) (s : Slot) (new : ℕ) → GoodEntry len x y s → (x ≡ absent_number → new ≡ absent_number) → (x ≢ absent_number → new ≡ start + write_offset)
    → new ≡ offset_number start (moved_slot s write_offset)
offset_of_good len x y start write_offset s new entry absent present =
    elim (eqb_tells x absent_number) [
      | inl same ↦ rw (entry.absent same.1).0 (absent same.1)
      | inr other ↦ rw (entry.present other.1) (present other.1)
    ]

size_of_good : (len x y write_offset : ℕ) (s : Slot) → GoodEntry len x y s → y ≡ size_number (moved_slot s write_offset)
size_of_good len x y write_offset s entry =
    elim (eqb_tells x absent_number) [
      | inl same ↦ rw (entry.absent same.1).0 ((entry.absent same.1).1)
      | inr other ↦ rw (entry.present other.1) refl
    ]

size_by_offset : (len x y : ℕ) (s : Slot) → GoodEntry len x y s → (x ≡ absent_number → slot_size s ≡ 0) × (x ≢ absent_number → slot_size s ≡ y)
size_by_offset len x y s entry = (λ same. ap slot_size (entry.absent same).0, λ other. ap slot_size (entry.present other))

-- the loop that places slices
pub record IsPlaced (len start : ℕ) (old numbers : List ℕ) (write_offset k : ℕ) : Type 0 where
  pub counted : length numbers ≡ length old
  pub position_is : write_offset ≡ start + present_size (slot_at len old) k
  pub offsets : (j : ℕ) → j < k → get_or numbers (2 * j) 0 ≡ offset_number start (moved_slot (slot_at len old j) (present_size (slot_at len old) j))
  pub later : (j : ℕ) → k ≤ j → get_or numbers (2 * j) 0 ≡ get_or old (2 * j) 0
  pub sizes : (j : ℕ) → get_or numbers (2 * j + 1) 0 ≡ get_or old (2 * j + 1) 0

pub none_placed : (len start : ℕ) (old : List ℕ) → IsPlaced len start old old start 0
none_placed len start old = record {
  counted = refl;
  position_is = omega arith;
  offsets = λ j below. omega (arith, below);
  later = λ j from. refl;
  sizes = λ j. refl;
}

-- the next place fits
pub room_to_place : (len start : ℕ) (old numbers : List ℕ) (write_offset k n : ℕ) → k < n → IsGood (slot_at len old k) → IsPlaced len start old numbers write_offset k
    → start + present_size (slot_at len old) n < 2 ^ 64 → get_or numbers (2 * k) 0 ≢ absent_number → write_offset + get_or numbers (2 * k + 1) 0 < 2 ^ 64
room_to_place len start old numbers write_offset k n below good h small other =
    let slot : ℕ → Slot = slot_at len old in
    let entry = good_at len old k good in
    let size : slot_size (slot k) ≡ get_or old (2 * k + 1) 0 =
    (size_by_offset len (get_or old (2 * k) 0) (get_or old (2 * k + 1) 0) (slot k) entry).1 (λ same. other (h.later k (omega arith) ∙ same)) in
    omega (arith, size, h.sizes k, h.position_is, sum_more (λ j. slot_size (slot j)) k, sum_grows_to (λ j. slot_size (slot j)) (k + 1) n (omega (arith, below)), small)

pub one_more_placed : (len start : ℕ) (old numbers new : List ℕ) (write_offset next k : ℕ) → IsGood (slot_at len old k) → IsPlaced len start old numbers write_offset k
    → (get_or numbers (2 * k) 0 ≡ absent_number → (next ≡ write_offset) × (get_or new (2 * k) 0 ≡ absent_number))
    → (get_or numbers (2 * k) 0 ≢ absent_number → (next ≡ write_offset + get_or numbers (2 * k + 1) 0) × (get_or new (2 * k) 0 ≡ write_offset))
    → ((j : ℕ) → j ≢ 2 * k → get_or new j 0 ≡ get_or numbers j 0) → length new ≡ length numbers
    → IsPlaced len start old new next (k + 1)
one_more_placed len start old numbers new write_offset next k good h absent present others counted =
    let slot : ℕ → Slot = slot_at len old in
    let x : ℕ = get_or old (2 * k) 0 in
    let y : ℕ = get_or old (2 * k + 1) 0 in
    let entry : GoodEntry len x y (slot k) = good_at len old k good in
    let same_x : get_or numbers (2 * k) 0 ≡ x = h.later k (omega arith) in
    let more = sum_more (λ j. slot_size (slot j)) k in
    let size = size_by_offset len x y (slot k) entry in
    record {
      counted = counted ∙ h.counted;
      position_is = elim (eqb_tells x absent_number) [
        | inl same ↦ omega (arith, (absent (same_x ∙ same.1)).0, h.position_is, more, size.0 same.1)
        | inr other ↦ omega (arith, (present (λ same. other.1 (sym same_x ∙ same))).0, h.position_is, h.sizes k, more, size.1 other.1)
      ];
      offsets = below_more (λ j. get_or new (2 * j) 0 ≡ offset_number start (moved_slot (slot j) (present_size slot j))) k
          (λ j earlier. others (2 * j) (λ same. omega (arith, same, earlier)) ∙ h.offsets j earlier)
          (offset_of_good len x y start (present_size slot k) (slot k) (get_or new (2 * k) 0) entry
          (λ same. (absent (same_x ∙ same)).1) (λ other. (present (λ same. other (sym same_x ∙ same))).1 ∙ h.position_is));
      later = λ j from. others (2 * j) (λ same. omega (arith, same, from)) ∙ h.later j (omega (arith, from));
      sizes = λ j. others (2 * j + 1) (λ same. omega (arith, same)) ∙ h.sizes j;
    }

pub all_placed : (len start : ℕ) (old numbers : List ℕ) (write_offset n : ℕ) → length old ≡ 2 * n → ((k : ℕ) → k < n → IsGood (slot_at len old k))
    → IsPlaced len start old numbers write_offset n → AreNumbersOf start (packed_slots (slot_at len old) n) numbers n
all_placed len start old numbers write_offset n entries good h = record {
  counted = h.counted ∙ entries;
  offsets = λ j below. h.offsets j below ∙ ap (offset_number start) (sym (packed_in (slot_at len old) n j below));
  sizes = λ j below.
      h.sizes j ∙ size_of_good len (get_or old (2 * j) 0) (get_or old (2 * j + 1) 0) (present_size (slot_at len old) j) (slot_at len old j) (good_at len old j (good j below))
      ∙ ap size_number (sym (packed_in (slot_at len old) n j below));
}

-- where the offset of a good entry isn't the absent number, the entry names a slice that ends within the shard
pub in_range : (len : ℕ) (numbers : List ℕ) (k : ℕ) → IsGood (slot_at len numbers k) → get_or numbers (2 * k) 0 ≢ absent_number
    → slot_at len numbers k ≡ InRange (get_or numbers (2 * k) 0) (get_or numbers (2 * k + 1) 0)
in_range len numbers k good other = (good_at len numbers k good).present other

pub ends_in_shard : (len : ℕ) (numbers : List ℕ) (k : ℕ) → IsGood (slot_at len numbers k) → get_or numbers (2 * k) 0 ≢ absent_number
    → get_or numbers (2 * k) 0 + get_or numbers (2 * k + 1) 0 ≤ len
ends_in_shard len numbers k good other = rw (in_range len numbers k good other) at ((good_at len numbers k good).inside)

pub is_absent : (len : ℕ) (numbers : List ℕ) (k : ℕ) → IsGood (slot_at len numbers k) → get_or numbers (2 * k) 0 ≡ absent_number → slot_at len numbers k ≡ Absent
is_absent len numbers k good same = ((good_at len numbers k good).absent same).0
