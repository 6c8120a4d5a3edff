-- A write that was stored as its plan says is a write of the codec.
use Rattle.std.proofs.Common.{◌≡◌, ℕ, zero, suc, ◌+◌, ◌-◌, ◌*◌, ◌/◌, ◌^◌, ◌<◌, ◌≤◌, List, [], Option, Some, None, length, set, take, drop, get_or, inl, inr, refl, sym, ap, ◌∙◌, subst, arith, length-take, length-drop}
use Rattle.std.specs.List.{All}
use Rattle.std.proofs.lemmas.Bool.Decides.{eqb_tells}
use Rattle.std.proofs.lemmas.List.{get_or-take, get_or-drop}
use Rattle.std.proofs.lemmas.List.Elements.{All-get_or, All-from_get_or}
use Rattle.parts_errors.specs.Words.{Elements}
use Rattle.parts_row_major.specs.Numbering.{count_of}
use Rattle.parts_row_major.specs.Subsets.{Subset, number_in}
use Rattle.parts_row_major.proofs.PieceLaws.{number_in_below}
use Rattle.parts_subsets.specs.Grid.{grid_of}
use Rattle.parts_subsets.specs.Touched.{Touches, AreTouched}
use Rattle.parts_subsets.proofs.GridLaws.{subchunk_number-below}
use Rattle.parts_arrays.specs.ArraySpec.{ArraySpec}
use Rattle.storage_handles.specs.Writes.{bytes_of}
use Rattle.codec_traits.specs.Meanings.{Meaning}
use Rattle.sharding_format.specs.Index.{absent_number, slot_at, slice_at, index_part, data_start, data_end}
use Rattle.sharding_format.specs.Cells.{Layout}
use Rattle.sharding_format.specs.Encoding.{IsAllFill, IsStoredAt, BeginsAt, slot_size}
use Rattle.sharding_format.specs.Laying.{IsStoredIn, taken, offset_number, size_number}
use Rattle.sharding_format.specs.Compacting.{present_size}
use Rattle.sharding_format.specs.Packing.{moved_slot}
use Rattle.sharding_format.specs.declared.location.ShardingIndexLocation.{ShardingIndexLocation}
use Rattle.sharding_format.specs.declared.location.ShardingIndexLocation.TheVariants.{Start, End}
use Rattle.sharding_format.specs.declared.slot.Slot.{Slot}
use Rattle.sharding_format.specs.declared.slot.Slot.TheVariants.{Absent, InRange, Bad}
use Rattle.sharding_format.proofs.LayingLemmas.{sum_same, sum_more}
use Rattle.sharding_layout.specs.Repacking.{packed_slots}
use Rattle.sharding_layout.specs.Offsets.{offset_after, length_after, index_after}
use Rattle.sharding_layout.proofs.RepackingLemmas.{packed_in, length-packed}
use Rattle.sharding_write.specs.Writing.{AreAbsent, HasEntries, HasPut, AreStoredInRow, AreNewCells, KeepsSlices, IsWriteOf, GoesTo, cells_in}
use Rattle.sharding_write.proofs.EntryLemmas.{no_entries, one_more_entry}
use Rattle.sharding_write.proofs.AnewLemmas.{entry_absent, all_absent, in_list}
use Rattle.sharding_write.proofs.OffsetLemmas.{goes_after}
use Rattle.sharding_write.proofs.PutLemmas.{same_slice}
use Rattle.sharding_layout.proofs.StoringLemmas.{tail_is}
use Rattle.sharding_write.proofs.MadeLemmas.{write_erased, write_begun, write_appended}
use Rattle.sharding_plans.specs.declared.write_plan.Outcome.{Outcome}
use Rattle.sharding_plans.specs.declared.write_plan.Outcome.TheVariants.{Erase, Anew, Append}
use Rattle.sharding_plans.specs.declared.write_plan.WritePlan.{WritePlan}
use Rattle.sharding_plans.specs.PackedShards.{slot_of_size, slots_of_sizes, place_of}
use Rattle.sharding_plans.specs.WritePlans.{AreOthersAbsent, HasNewEntries, IsOutcome, IsWritePlan, Erases, StartsAnew, Appends, total_of}
use Rattle.sharding_plans.specs.StoredWrites.{CanBeWritten, AreAllNew, IsStoredBy, IsOutside, AreOthersKept, IsCarriedOut, WriteLaw}
use Rattle.sharding_plans.proofs.PackLemmas.{moved_entry, moved_fits, sized_good, ends_among}

-- the numbers of an index with the entries of the first n touched subchunks absent
cleared_of : (touched numbers : List ℕ) → ℕ → List ℕ
cleared_of touched numbers zero = numbers
cleared_of touched numbers (suc n) = set (set (cleared_of touched numbers n) (2 * get_or touched n 0) absent_number) (2 * get_or touched n 0 + 1) absent_number

clear_upto : (touched numbers : List ℕ) → ((i j : ℕ) → i < j → j < length touched → get_or touched i 0 < get_or touched j 0)
    → ((j : ℕ) → j < length touched → 2 * get_or touched j 0 + 1 < length numbers) → (n : ℕ) → n ≤ length touched
    → HasEntries touched (λ i. Absent) 0 numbers (cleared_of touched numbers n) n
unfolding cleared_of
clear_upto touched numbers rising fits zero upto = no_entries touched (λ i. Absent) 0 numbers
clear_upto touched numbers rising fits (suc n) upto =
    let step : n + 1 ≡ suc n = omega arith in
    subst (λ m. HasEntries touched (λ i. Absent) 0 numbers (cleared_of touched numbers (suc n)) m) step
    (one_more_entry touched (λ i. Absent) 0 numbers (cleared_of touched numbers n) (cleared_of touched numbers (suc n)) n absent_number absent_number
    (clear_upto touched numbers rising fits n (omega (arith, upto))) rising (omega (arith, upto)) (fits n (omega (arith, upto))) refl refl refl)

-- a slice that is moved keeps its size
size_moved : (s : Slot) (at : ℕ) → size_number (moved_slot s at) ≡ size_number s
size_moved Absent at = refl
size_moved (InRange offset size) at = refl
size_moved Bad at = refl

slot_size_moved : (s : Slot) (at : ℕ) → slot_size (moved_slot s at) ≡ slot_size s
slot_size_moved Absent at = refl
slot_size_moved (InRange offset size) at = refl
slot_size_moved Bad at = refl

begins_moved : (s : Slot) (at : ℕ) → BeginsAt at (moved_slot s at)
begins_moved Absent at = tt
begins_moved (InRange offset size) at = refl
begins_moved Bad at = tt

absent_size : (size at : ℕ) → moved_slot (slot_of_size size) at ≡ Absent → size ≡ absent_number
absent_size size at gone = elim (eqb_tells size absent_number) [
  | inl same ↦ same.1
  | inr other ↦ let never = rw other.0 at gone in cc
]

absent_of_size : (size : ℕ) → size ≡ absent_number → slot_of_size size ≡ Absent
absent_of_size size is = elim (eqb_tells size absent_number) [ inl same ↦ rw same.0 refl | inr other ↦ absurd (other.1 is) ]

none_taken : (slots : List Slot) (n : ℕ) → ((j : ℕ) → j < n → get_or slots j Bad ≡ Absent) → taken slots n ≡ 0
none_taken slots zero gone = refl
none_taken slots (suc n) gone =
    let step : n + 1 ≡ suc n = omega arith in
    subst (λ m. taken slots m ≡ 0) step
    (omega (arith, sum_more (λ j. slot_size (get_or slots j Bad)) n, none_taken slots n (λ j lt. gone j (omega (arith, lt))), ap slot_size (gone n (omega arith))))

-- the entry of a number
of_number : (k : ℕ) → 2 * k / 2 ≡ k
of_number k = omega arith

of_next_number : (k : ℕ) → (2 * k + 1) / 2 ≡ k
of_next_number k = omega arith

-- where new slices and an index go in an object of a length
record GoesIn (location : ShardingIndexLocation) (size write_offset total len : ℕ) : Type 0 where
  after_start : data_start location size ≤ write_offset
  before_end : write_offset + total ≤ data_end location size len
  within : write_offset + total ≤ len
  enough : size ≤ len
  index : (new : List ℕ) → length new ≡ len → index_part location size new ≡ slice_at (index_after location write_offset total) size new

index_at_end : (at size : ℕ) (new : List ℕ) → length new ≡ at + size → drop (length new - size) new ≡ take size (drop at new)
index_at_end at size new long =
    let begins : length new - size ≡ at = omega (arith, long) in
    let many : length new - at ≡ size = omega (arith, long) in
    ap (λ n. drop n new) begins ∙ (sym (tail_is at new) ∙ ap (λ n. take n (drop at new)) many)

anew_goes : (location : ShardingIndexLocation) (size total : ℕ) → GoesIn location size (data_start location size) total (size + total)
anew_goes Start size total = record {
  after_start = omega arith;
  before_end = omega arith;
  within = omega arith;
  enough = omega arith;
  index = λ new long. refl;
}
anew_goes End size total = record {
  after_start = omega arith;
  before_end = omega arith;
  within = omega arith;
  enough = omega arith;
  index = λ new long. index_at_end (0 + total) size new (omega (arith, long));
}

after_goes : (location : ShardingIndexLocation) (size len write_offset total new_len : ℕ) → size ≤ len → GoesTo location size len write_offset total new_len
    → GoesIn location size write_offset total new_len
after_goes Start size len write_offset total new_len enough goes = record {
  after_start = goes.0;
  before_end = omega (arith, goes.2);
  within = omega (arith, goes.2);
  enough = omega (arith, goes.2, enough);
  index = λ new long. refl;
}
after_goes End size len write_offset total new_len enough goes = record {
  after_start = omega arith;
  before_end = omega (arith, goes.0, goes.1);
  within = omega (arith, goes.0, goes.1);
  enough = omega (arith, goes.1, enough);
  index = λ new long. index_at_end (write_offset + total) size new (omega (arith, long, goes.0, goes.1));
}

-- slices of the bytes from a place on
part_is : (write_offset total : ℕ) (new : List ℕ) → write_offset + total ≤ length new → length (slice_at write_offset total new) ≡ total
part_is write_offset total new within = omega (arith, length-take total (drop write_offset new), length-drop write_offset new, within)

part_of_part : (write_offset total : ℕ) (new : List ℕ) → write_offset + total ≤ length new → (o n : ℕ) → o + n ≤ total
    → slice_at (write_offset + o) n new ≡ slice_at o n (slice_at write_offset total new)
part_of_part write_offset total new within o n upto =
    let slices = slice_at write_offset total new in
    same_slice (write_offset + o) o n new slices (omega (arith, upto, within)) (omega (arith, upto, part_is write_offset total new within)) (λ i lt.
    let here : write_offset + o + i ≡ write_offset + (o + i) = omega arith in
    ap (λ k. get_or new k 0) here ∙ sym (get_or-take total (drop write_offset new) (o + i) 0 (omega (arith, lt, upto)) ∙ get_or-drop write_offset new (o + i) 0))

-- the old bytes before the new slices
keeps : (location : ShardingIndexLocation) (size len write_offset total new_len : ℕ) (old new : List ℕ) → length old ≡ len → length new ≡ new_len
    → GoesTo location size len write_offset total new_len
    → ((i : ℕ) → i < length old → IsOutside write_offset total i → IsOutside (index_after location write_offset total) size i → get_or new i 0 ≡ get_or old i 0)
    → KeepsSlices (data_start location size) write_offset old new
keeps Start size len write_offset total new_len old new is long goes kept o n from upto =
    same_slice o o n new old (omega (arith, upto, goes.1, goes.2, long)) (omega (arith, upto, goes.1, is))
    (λ i lt. kept (o + i) (omega (arith, lt, upto, goes.1, is)) (inl (omega (arith, lt, upto))) (inr (omega (arith, from))))
keeps End size len write_offset total new_len old new is long goes kept o n from upto =
    same_slice o o n new old (omega (arith, upto, goes.0, goes.1, long)) (omega (arith, upto, goes.0, is))
    (λ i lt. kept (o + i) (omega (arith, lt, upto, goes.0, is)) (inl (omega (arith, lt, upto))) (inl (omega (arith, lt, upto))))

module _ (inner index : Meaning) (l : Layout) (spec : ArraySpec) (subset : Subset) (update : Elements) (object : Option (List ℕ)) (numbers sizes : List ℕ)
    (plan : WritePlan) (elements : ℕ → Elements) (can : CanBeWritten l (length (bytes_of object)) numbers subset) (touched : List ℕ)
    (are : AreTouched l.shape l.sub subset touched) (counted : length sizes ≡ length touched)
    (planned : IsWritePlan (place_of l) (length (bytes_of object)) numbers touched sizes plan)
    (new_cells : AreAllNew inner l spec subset update (bytes_of object) numbers elements) where
  abbrev many : ℕ
  many = count_of (grid_of l.shape l.sub)

  abbrev sized : ℕ → Slot
  sized = slots_of_sizes sizes

  abbrev slots : List Slot
  slots = packed_slots sized (length touched)

  abbrev of_touched : ℕ → Elements
  of_touched j = elements (get_or touched j 0)

  entries : HasNewEntries touched sizes plan.write_offset numbers plan.numbers.items (length touched)
  entries = planned.entries

  touched_below : (j : ℕ) → j < length touched → get_or touched j 0 < many
  touched_below j lt =
      let t = are.touched j lt in
      subst (λ k. k < many) t.2
      (subchunk_number-below l.shape l.sub can.divides (number_in subset l.shape t.0) (number_in_below subset l.shape t.0 can.within.inside t.1))

  cells : (j : ℕ) → j < length touched
      → AreNewCells l.shape spec subset update (cells_in inner.cells l.fill (bytes_of object) numbers (get_or touched j 0)) (get_or touched j 0) (of_touched j)
  cells j lt = new_cells (get_or touched j 0) (are.touched j lt)

  abbrev cleared : List ℕ
  cleared = cleared_of touched numbers (length touched)

  clear : HasEntries touched (λ i. Absent) 0 numbers cleared (length touched)
  clear = clear_upto touched numbers are.rising (λ j lt. omega (arith, touched_below j lt, can.entries)) (length touched) (omega arith)

  -- the index without the touched entries
  absent_cleared : AreOthersAbsent touched numbers → AreAbsent cleared
  absent_cleared others =
      all_absent cleared many (clear.counted ∙ can.entries) (λ k below. elim (in_list touched k) [
        | inl found ↦ subst (λ m. (get_or cleared (2 * m) 0 ≡ absent_number) × (get_or cleared (2 * m + 1) 0 ≡ absent_number)) found.2 (clear.offsets found.0 found.1, clear.sizes found.0 found.1)
        | inr none ↦ (
          clear.other_offsets k none ∙ others (2 * k) (omega (arith, below, can.entries)) (λ j lt same. none j lt (same ∙ of_number k)),
          clear.other_sizes k none ∙ others (2 * k + 1) (omega (arith, below, can.entries)) (λ j lt same. none j lt (same ∙ of_next_number k)),
        )
      ])

  others_of_cleared : AreAbsent cleared → AreOthersAbsent touched numbers
  others_of_cleared absent i below other =
      let k : ℕ = i / 2 in
      let entry = entry_absent cleared many k (clear.counted ∙ can.entries) absent (omega (arith, below, can.entries)) in
      elim (eqb_tells i (2 * k)) [
        | inl even ↦ ap (λ m. get_or numbers m 0) even.1 ∙ (sym (clear.other_offsets k other) ∙ entry.0)
        | inr odd ↦
            let next : i ≡ 2 * k + 1 = omega (arith, odd.1) in
            ap (λ m. get_or numbers m 0) next ∙ (sym (clear.other_sizes k other) ∙ entry.1)
      ]

  -- the new entries
  new_entries : HasEntries touched (λ i. get_or slots i Bad) plan.write_offset cleared plan.numbers.items (length touched)
  new_entries = record {
    counted = entries.counted ∙ sym clear.counted;
    offsets = λ i lt. entries.offsets i lt ∙ ap (offset_number plan.write_offset) (sym (packed_in sized (length touched) i lt));
    sizes = λ i lt. entries.sizes_are i lt ∙ (sym (size_moved (sized i) (present_size sized i)) ∙ ap size_number (sym (packed_in sized (length touched) i lt)));
    other_offsets = λ k other. entries.others (2 * k) (λ j lt same. other j lt (same ∙ of_number k)) ∙ sym (clear.other_offsets k other);
    other_sizes = λ k other. entries.others (2 * k + 1) (λ j lt same. other j lt (same ∙ of_next_number k)) ∙ sym (clear.other_sizes k other);
  }

  total_is : present_size sized (length touched) ≡ total_of sizes
  total_is = ap (present_size sized) (sym counted)

  taken_upto : (n : ℕ) → n ≤ length touched → taken slots n ≡ present_size sized n
  taken_upto n upto = sum_same (λ j. slot_size (get_or slots j Bad)) (λ j. slot_size (sized j)) n
      (λ j lt. ap slot_size (packed_in sized (length touched) j (omega (arith, lt, upto))) ∙ slot_size_moved (sized j) (present_size sized j))

  ends : (j : ℕ) → j < length touched → present_size sized j + slot_size (sized j) ≤ total_of sizes
  ends j lt = omega (arith, ends_among sized j (length touched) lt, total_is)

  -- an object that was stored as planned
  module _ (new : List ℕ) (stored : IsStoredBy inner.written index.written l subset elements plan new) (at : plan.index_offset ≡ index_after l.location plan.write_offset (total_of sizes))
      (goes : GoesIn l.location l.index_size plan.write_offset (total_of sizes) plan.len) where
    abbrev slices : List ℕ
    slices = slice_at plan.write_offset (total_of sizes) new

    within : plan.write_offset + total_of sizes ≤ length new
    within = omega (arith, goes.within, stored.long)

    long_slices : length slices ≡ total_of sizes
    long_slices = part_is plan.write_offset (total_of sizes) new within

    -- the slot that the new index says
    slot_there : (j : ℕ) → j < length touched → slot_at plan.len plan.numbers.items (get_or touched j 0) ≡ moved_slot (sized j) (plan.write_offset + present_size sized j)
    unfolding slot_at
    slot_there j lt =
        rw (entries.offsets j lt, entries.sizes_are j lt, sym (size_moved (sized j) (present_size sized j)))
        (moved_entry plan.len plan.write_offset (present_size sized j) (sized j) (sized_good (get_or sizes j 0)) (omega (arith, ends j lt, goes.within)) (omega (arith, planned.small)))

    stored_part : (e : Elements) (s : Slot) (before : ℕ) → before + slot_size s ≤ total_of sizes
        → IsStoredAt inner.written l.fill (λ offset size. Unit {0}) e new (moved_slot s (plan.write_offset + before))
        → IsStoredIn inner.written l.fill e slices (moved_slot s before)
    stored_part e Absent before fits h = h
    stored_part e (InRange offset size) before fits h =
        (h.0, rw (sym (part_of_part plan.write_offset (total_of sizes) new within before size fits)) h.1, omega (arith, fits, long_slices))
    stored_part e Bad before fits h = absurd h

    in_row : AreStoredInRow inner.written l.fill of_touched slices slots (length touched)
    in_row = record {
      counted = length-packed sized (length touched);
      stored_slices = λ j lt. rw (packed_in sized (length touched) j lt) (stored_part (of_touched j) (sized j) (present_size sized j) (ends j lt)
          (subst (λ s. IsStoredAt inner.written l.fill (λ offset size. Unit {0}) (of_touched j) new s) (slot_there j lt) (stored.stored (get_or touched j 0) (are.touched j lt))));
      begins = λ j lt. rw (packed_in sized (length touched) j lt, taken_upto j (omega (arith, lt))) (begins_moved (sized j) (present_size sized j));
      filled = taken_upto (length touched) (omega arith) ∙ (total_is ∙ sym long_slices);
    }

    new_below : All (λ n. n < 2 ^ 64) plan.numbers.items
    new_below = All-from_get_or (λ n. n < 2 ^ 64) plan.numbers.items 0 (λ i lt.
        let k : ℕ = i / 2 in
        elim (in_list touched k) [
          | inl found ↦
              let j : ℕ = found.0 in
              let fits = moved_fits plan.write_offset (present_size sized j) plan.len (sized j) (sized_good (get_or sizes j 0)) (omega (arith, ends j found.1, goes.within)) (omega (arith, planned.small)) in
              elim (eqb_tells i (2 * k)) [
                | inl even ↦
                    let is : get_or plan.numbers.items i 0 ≡ offset_number plan.write_offset (moved_slot (sized j) (present_size sized j)) =
                    ap (λ m. get_or plan.numbers.items m 0) even.1 ∙ (ap (λ m. get_or plan.numbers.items (2 * m) 0) (sym found.2) ∙ entries.offsets j found.1) in
                    rw is fits.0
                | inr odd ↦
                    let next : i ≡ 2 * k + 1 = omega (arith, odd.1) in
                    let is : get_or plan.numbers.items i 0 ≡ size_number (moved_slot (sized j) (present_size sized j)) =
                    ap (λ m. get_or plan.numbers.items m 0) next
                    ∙ (ap (λ m. get_or plan.numbers.items (2 * m + 1) 0) (sym found.2) ∙ (entries.sizes_are j found.1 ∙ sym (size_moved (sized j) (present_size sized j)))) in
                    rw is fits.1
              ]
          | inr none ↦ rw (entries.others i none) (All-get_or (λ n. n < 2 ^ 64) numbers i 0 (omega (arith, lt, entries.counted)) can.below)
        ])

    put : HasPut index.written l.location l.index_size touched slots slices cleared plan.write_offset new plan.numbers.items
    put = record {
      entries = new_entries;
      below = new_below;
      index = record {
        long_enough = omega (arith, goes.enough, stored.long);
        written = rw (goes.index new stored.long, sym at) stored.index;
      };
      after_start = goes.after_start;
      before_end = rw (long_slices, stored.long) goes.before_end;
      small = omega (arith, planned.small, stored.long);
      slice = λ o n upto. part_of_part plan.write_offset (total_of sizes) new within o n (omega (arith, upto, long_slices));
    }

    some_slot : ¬ (AreAbsent sizes) → ¬ (All (λ (s : Slot). s ≡ Absent) slots)
    some_slot some none = some (All-from_get_or (λ n. n ≡ absent_number) sizes 0 (λ j lt.
        let inside : j < length touched = omega (arith, lt, counted) in
        let gone : moved_slot (sized j) (present_size sized j) ≡ Absent =
        sym (packed_in sized (length touched) j inside) ∙ All-get_or (λ (s : Slot). s ≡ Absent) slots j Bad (omega (arith, inside, length-packed sized (length touched))) none in
        absent_size (get_or sizes j 0) (present_size sized j) gone))

    begun : StartsAnew (place_of l) touched numbers sizes plan → IsWriteOf inner index l spec subset update object numbers (Some new) plan.numbers.items
    begun anew =
        write_begun inner index l spec subset update object numbers touched slots slices of_touched are touched_below can.entries in_row cells cleared clear
        plan.write_offset new plan.numbers.items put (absent_cleared anew.others) (some_slot anew.some) anew.write_offset (stored.long ∙ (anew.len ∙ ap (λ n. l.index_size + n) (sym long_slices)))

    half : length numbers / 2 ≡ many
    half = omega (arith, can.entries)

    appended : Appends (place_of l) (length (bytes_of object)) touched numbers sizes plan → AreOthersKept l.index_size sizes plan (bytes_of object) new
        → GoesTo l.location l.index_size (length (bytes_of object)) plan.write_offset (total_of sizes) plan.len
        → IsWriteOf inner index l spec subset update object numbers (Some new) plan.numbers.items
    appended after kept goes_to =
        write_appended inner index l spec subset update object numbers touched slots slices of_touched are touched_below can.entries in_row cells cleared clear
        plan.write_offset new plan.numbers.items put (λ absent. after.others (others_of_cleared absent)) can.inside
        (keeps l.location l.index_size (length (bytes_of object)) plan.write_offset (total_of sizes) plan.len (bytes_of object) new refl stored.long goes_to
        (λ i lt outside beside. kept i lt outside (rw at beside)))
        (after.write_offset ∙ ap (offset_after l.location l.index_size (length (bytes_of object)) numbers) half)
        (stored.long ∙ (after.long ∙ ap (length_after l.location (length (bytes_of object)) plan.write_offset) (sym long_slices)))

  -- an object that begins with what was stored
  carried_anew : (new : List ℕ) → IsStoredBy inner.written index.written l subset elements plan new → StartsAnew (place_of l) touched numbers sizes plan
      → IsWriteOf inner index l spec subset update object numbers (Some new) plan.numbers.items
  carried_anew new stored anew =
      let goes : GoesIn l.location l.index_size plan.write_offset (total_of sizes) plan.len = rw (anew.write_offset, anew.len) (anew_goes l.location l.index_size (total_of sizes)) in
      begun new stored anew.index_offset goes anew

  -- one that had an index
  carried_after : (new : List ℕ) → IsStoredBy inner.written index.written l subset elements plan new → AreOthersKept l.index_size sizes plan (bytes_of object) new
      → Appends (place_of l) (length (bytes_of object)) touched numbers sizes plan
      → IsWriteOf inner index l spec subset update object numbers (Some new) plan.numbers.items
  carried_after new stored kept after =
      let len : ℕ = length (bytes_of object) in
      let enough : l.index_size ≤ len = elim can.room [
        | inl enough ↦ enough
        | inr none ↦ absurd (after.others (λ i below other. none.1 i 0 below))
      ] in
      let goes_to : GoesTo l.location l.index_size len plan.write_offset (total_of sizes) plan.len =
      rw (after.long, after.write_offset) (goes_after l.location l.index_size len (total_of sizes) numbers (length numbers / 2) enough) in
      appended new stored after.index_offset (after_goes l.location l.index_size len plan.write_offset (total_of sizes) plan.len enough goes_to) after kept goes_to

  -- no object any more
  carried_gone : ((k : ℕ) → Touches l.shape l.sub subset k → IsAllFill l.fill (elements k)) → Erases touched numbers sizes plan
      → IsWriteOf inner index l spec subset update object numbers None plan.numbers.items
  carried_gone fill erases =
      let none : (j : ℕ) → j < length touched → sized j ≡ Absent = λ j lt. absent_of_size (get_or sizes j 0) (All-get_or (λ n. n ≡ absent_number) sizes j 0 (omega (arith, lt, counted)) erases.none) in
      let gone : (j : ℕ) → j < length touched → get_or slots j Bad ≡ Absent = λ j lt. packed_in sized (length touched) j lt ∙ ap (λ s. moved_slot s (present_size sized j)) (none j lt) in
      let taken_none : (n : ℕ) → n ≤ length touched → taken slots n ≡ 0 = λ n upto. none_taken slots n (λ j lt. gone j (omega (arith, lt, upto))) in
      let empty : AreStoredInRow inner.written l.fill of_touched [] slots (length touched) = record {
        counted = length-packed sized (length touched);
        stored_slices = λ j lt. rw (gone j lt) (fill (get_or touched j 0) (are.touched j lt));
        begins = λ j lt. rw (gone j lt) tt;
        filled = taken_none (length touched) (omega arith);
      } in
      let cleared_entries : HasEntries touched (λ i. Absent) 0 numbers plan.numbers.items (length touched) = record {
        counted = entries.counted;
        offsets = λ i lt. entries.offsets i lt ∙ ap (λ s. offset_number plan.write_offset (moved_slot s (present_size sized i))) (none i lt);
        sizes = λ i lt. entries.sizes_are i lt ∙ ap size_number (none i lt);
        other_offsets = λ k other. entries.others (2 * k) (λ j lt same. other j lt (same ∙ of_number k));
        other_sizes = λ k other. entries.others (2 * k + 1) (λ j lt same. other j lt (same ∙ of_next_number k));
      } in
      write_erased inner index l spec subset update object numbers plan.numbers.items touched slots [] of_touched are can.entries empty cells (record {
        clear = cleared_entries;
        absent = all_absent plan.numbers.items many (entries.counted ∙ can.entries) (λ k below. elim (in_list touched k) [
          | inl found ↦ subst (λ m. (get_or plan.numbers.items (2 * m) 0 ≡ absent_number) × (get_or plan.numbers.items (2 * m + 1) 0 ≡ absent_number)) found.2
              (cleared_entries.offsets found.0 found.1, cleared_entries.sizes found.0 found.1)
          | inr other ↦ (
            cleared_entries.other_offsets k other ∙ erases.others (2 * k) (omega (arith, below, can.entries)) (λ j lt same. other j lt (same ∙ of_number k)),
            cleared_entries.other_sizes k other ∙ erases.others (2 * k + 1) (omega (arith, below, can.entries)) (λ j lt same. other j lt (same ∙ of_next_number k)),
          )
        ]);
        none = All-from_get_or (λ (s : Slot). s ≡ Absent) slots Bad (λ j lt. gone j (omega (arith, lt, length-packed sized (length touched))));
      })

  pub carried : (outcome : Outcome) (new : Option (List ℕ)) → IsOutcome outcome (place_of l) (length (bytes_of object)) touched numbers sizes plan
      → IsCarriedOut outcome inner.written index.written l subset sizes elements plan (bytes_of object) new
      → IsWriteOf inner index l spec subset update object numbers new plan.numbers.items
  carried Erase None is out = carried_gone out is
  carried Erase (Some new) is out = absurd out
  carried Anew None is out = absurd out
  carried Anew (Some new) is out = carried_anew new out is
  carried Append None is out = absurd out
  carried Append (Some new) is out = carried_after new out.0 out.1 is

pub the_write_law : (inner index : Meaning) → WriteLaw inner index
the_write_law inner index = record {
  written = λ l spec subset update old new numbers sizes plan elements can planned new_cells out.
      carried inner index l spec subset update old numbers sizes plan elements can planned.touched planned.are_touched planned.counted planned.planned new_cells plan.outcome new
      planned.planned.outcome out;
}
