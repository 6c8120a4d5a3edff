-- What a write makes is a write.
use Rattle.std.proofs.Common.{◌≡◌, ◌≢◌, ℕ, zero, suc, ◌+◌, ◌*◌, ◌/◌, ◌^◌, ◌<◌, ◌≤◌, inl, inr, Bool, true, false, ◌&&◌, ◌||◌, ◌==◌, nat_le, if◌then◌else◌, List, [], Option, Some, None, All, length, get_or, refl, sym, ap, ◌∙◌, subst, arith}
use Rattle.std.proofs.lemmas.Bool.{cases_lt, le-leb}
use Rattle.std.proofs.lemmas.List.Elements.{All-get_or, All-from_get_or}
use Rattle.parts_errors.specs.Words.{Elements}
use Rattle.parts_row_major.specs.Numbering.{count_of}
use Rattle.parts_row_major.specs.Subsets.{Subset}
use Rattle.parts_subsets.specs.Grid.{grid_of}
use Rattle.parts_subsets.specs.Touched.{Touches, AreTouched}
use Rattle.parts_arrays.specs.ArraySpec.{ArraySpec}
use Rattle.storage_handles.specs.Writes.{bytes_of}
use Rattle.codec_traits.specs.Meanings.{Meaning}
use Rattle.sharding_format.specs.Index.{absent_number, slot_at, data_start, data_end}
use Rattle.sharding_format.specs.Cells.{Layout}
use Rattle.sharding_format.specs.Laying.{IsStoredIn, offset_number}
use Rattle.sharding_format.specs.Packing.{slice_of}
use Rattle.sharding_format.specs.declared.location.ShardingIndexLocation.{ShardingIndexLocation}
use Rattle.sharding_format.specs.declared.location.ShardingIndexLocation.TheVariants.{Start, End}
use Rattle.sharding_format.specs.declared.slot.Slot.{Slot}
use Rattle.sharding_format.specs.declared.slot.Slot.TheVariants.{Absent, InRange, Bad}
use Rattle.sharding_index.specs.DataPart.{LiesBetween}
use Rattle.sharding_write.specs.Writing.{AreAbsent, AreNewCells, cells_in, IsKept, IsWriteOf, AreStoredInRow, HasEntries, HasPut, IsErased, slot_end, last_end, offset_after, length_after, KeepsSlices, IsMade, layout_from}
use Rattle.parts_subsets.proofs.GridLaws.{over_first}
use Rattle.sharding_layout.proofs.EndLemmas.{last_end_more}
use Rattle.sharding_write.proofs.AnewLemmas.{entry_absent, all_absent, in_list, absent_entry, cleared_absent, anew_of_absent, absent_of_anew}
use Rattle.sharding_write.proofs.WrittenLemmas.{absent_slot, kept_absent, is_write}

-- each slice ends no later than the last one
pub last_end_covers : (least len : ℕ) (numbers : List ℕ) (n k : ℕ) → k < n → slot_end (slot_at len numbers k) ≤ last_end least len numbers n
last_end_covers least len numbers zero k lt = absurd (omega (arith, lt))
last_end_covers least len numbers (suc n) k lt =
    let step : n + 1 ≡ suc n = omega arith in
    subst (λ m. slot_end (slot_at len numbers k) ≤ last_end least len numbers m) step (elim (cases_lt k n) [
      | inl less ↦ omega (arith, last_end_more least len numbers n, last_end_covers least len numbers n k less)
      | inr more ↦ let same : k ≡ n = omega (arith, lt, more) in omega (arith, last_end_more least len numbers n, ap (λ m. slot_end (slot_at len numbers m)) same)
    ])

-- an entry that names a slice names it in every shard that is long enough
kept_entry : (t u v w : Bool) (a b o n : ℕ) → (if t then Absent else (if u then Bad else (if v then InRange a b else Bad))) ≡ InRange o n → (a + b ≡ o + n → w ≡ true)
    → (if t then Absent else (if u then Bad else (if w then InRange a b else Bad))) ≡ InRange o n
kept_entry true u v w a b o n h fits = cc
kept_entry false true v w a b o n h fits = cc
kept_entry false false true w a b o n h fits = rw (fits (ap slot_end h)) h
kept_entry false false false w a b o n h fits = cc

pub kept_slot : (len new_len : ℕ) (numbers new_numbers : List ℕ) (k o n : ℕ) → get_or new_numbers (2 * k) 0 ≡ get_or numbers (2 * k) 0 → get_or new_numbers (2 * k + 1) 0 ≡ get_or numbers (2 * k + 1) 0
    → slot_at len numbers k ≡ InRange o n → o + n ≤ new_len → slot_at new_len new_numbers k ≡ InRange o n
unfolding slot_at
kept_slot len new_len numbers new_numbers k o n same_offset same_size h fits =
    let a = get_or numbers (2 * k) 0 in
    let b = get_or numbers (2 * k + 1) 0 in
    rw (same_offset, same_size)
    (kept_entry ((a == absent_number) && (b == absent_number)) ((a == absent_number) || (b == absent_number)) (nat_le (a + b) len) (nat_le (a + b) new_len) a b o n h (λ is. le-leb (a + b) new_len (omega (arith, is, fits))))

-- the slices of the data part stand before the place behind them
pub before_write_offset : (location : ShardingIndexLocation) (size len : ℕ) (numbers : List ℕ) (n k offset bytes : ℕ) → k < n → slot_at len numbers k ≡ InRange offset bytes
    → offset + bytes ≤ data_end location size len → offset + bytes ≤ offset_after location size len numbers n
before_write_offset Start size len numbers n k offset bytes below is inside = omega (arith, last_end_covers size len numbers n k below, ap slot_end is)
before_write_offset End size len numbers n k offset bytes below is inside = inside

-- so an untouched one is kept
pub kept_slice : (old new numbers new_numbers : List ℕ) (start write_offset k offset bytes : ℕ) → KeepsSlices start write_offset old new
    → get_or new_numbers (2 * k) 0 ≡ get_or numbers (2 * k) 0 → get_or new_numbers (2 * k + 1) 0 ≡ get_or numbers (2 * k + 1) 0
    → slot_at (length old) numbers k ≡ InRange offset bytes → start ≤ offset → offset + bytes ≤ write_offset → write_offset ≤ length new → IsKept old numbers new new_numbers k
kept_slice old new numbers new_numbers start write_offset k offset bytes keeps same_offset same_size is from upto inside =
    let after = kept_slot (length old) (length new) numbers new_numbers k offset bytes same_offset same_size is (omega (arith, upto, inside)) in
    record {
      offset = same_offset;
      size = same_size;
      slot = after ∙ sym is;
      bytes = ap (slice_of new) after ∙ keeps offset bytes from upto ∙ sym (ap (slice_of old) is);
    }

-- where no subchunk is stored any more
pub write_erased : (inner index : Meaning) (l : Layout) (sub_g : ArraySpec) (subset : Subset) (update : Elements) (object : Option (List ℕ)) (numbers new_numbers touched : List ℕ) (slots : List Slot) (slices : List ℕ) (e : ℕ → Elements)
    → AreTouched l.shape l.sub subset touched → length numbers ≡ 2 * count_of (grid_of l.shape l.sub) → AreStoredInRow inner.written l.fill e slices slots (length touched)
    → ((j : ℕ) → j < length touched → AreNewCells l.shape sub_g subset update (cells_in inner.cells l.fill (bytes_of object) numbers (get_or touched j 0)) (get_or touched j 0) (e j))
    → IsErased touched slots numbers new_numbers → IsWriteOf inner index l sub_g subset update object numbers None new_numbers
write_erased inner index l sub_g subset update object numbers new_numbers touched slots slices e are counted stored_slices cells erased =
    let n = count_of (grid_of l.shape l.sub) in
    let long = erased.clear.counted ∙ counted in
    let gone : (j : ℕ) → j < length touched → get_or slots j Bad ≡ Absent = λ j lt. All-get_or (λ (s : Slot). s ≡ Absent) slots j Bad (omega (arith, lt, stored_slices.counted)) erased.none in
    record {
      touched = touched;
      are_touched = are;
      counted = long;
      below = All-from_get_or (λ x. x < 2 ^ 64) new_numbers 0 (λ i lt. omega (arith, All-get_or (λ x. x ≡ absent_number) new_numbers i 0 lt erased.absent));
      stored = erased.absent;
      stand = λ k k_below touches.
          let found = are.all k touches in
          let entry = entry_absent new_numbers n k long erased.absent k_below in
          record {
            elements = e found.0;
            cells = subst (λ m. AreNewCells l.shape sub_g subset update (cells_in inner.cells l.fill (bytes_of object) numbers m) m (e found.0)) found.2 (cells found.0 found.1);
            stands = rw (absent_slot 0 new_numbers k entry.0 entry.1) (subst (λ (s : Slot). IsStoredIn inner.written l.fill (e found.0) slices s) (gone found.0 found.1) (stored_slices.stored_slices found.0 found.1));
          };
      kept = λ k k_below off.
          let entry = entry_absent new_numbers n k long erased.absent k_below in
          let apart : (i : ℕ) → i < length touched → get_or touched i 0 ≢ k = λ i lt is. off (subst (λ m. Touches l.shape l.sub subset m) is (are.touched i lt)) in
          let same_offset = erased.clear.other_offsets k apart in
          let same_size = erased.clear.other_sizes k apart in
          kept_absent (bytes_of object) numbers [] new_numbers k same_offset same_size (sym same_offset ∙ entry.0) (sym same_size ∙ entry.1);
    }

slot_gone : (inner : Meaning) (fill : List ℕ) (el : Elements) (slices : List ℕ) (write_offset : ℕ) (s : Slot) → IsStoredIn inner.written fill el slices s → offset_number write_offset s ≡ absent_number → write_offset + length slices < absent_number → s ≡ Absent
slot_gone inner fill el slices write_offset Absent h is small = refl
slot_gone inner fill el slices write_offset (InRange o n) h is small = absurd (omega (arith, h.2, is, small))
slot_gone inner fill el slices write_offset Bad h is small = absurd h

within_shard : (location : ShardingIndexLocation) (size len n : ℕ) → n ≤ data_end location size len → n ≤ len
within_shard Start size len n h = h
within_shard End size len n h = omega arith

module _ (inner index : Meaning) (l : Layout) (sub_g : ArraySpec) (subset : Subset) (update : Elements) (object : Option (List ℕ)) (numbers touched : List ℕ) (slots : List Slot) (slices : List ℕ) (e : ℕ → Elements)
    (are : AreTouched l.shape l.sub subset touched) (below : (j : ℕ) → j < length touched → get_or touched j 0 < count_of (grid_of l.shape l.sub))
    (counted : length numbers ≡ 2 * count_of (grid_of l.shape l.sub)) (stored_slices : AreStoredInRow inner.written l.fill e slices slots (length touched))
    (cells : (j : ℕ) → j < length touched → AreNewCells l.shape sub_g subset update (cells_in inner.cells l.fill (bytes_of object) numbers (get_or touched j 0)) (get_or touched j 0) (e j))
    (cleared : List ℕ) (clear : HasEntries touched (λ i. Absent) 0 numbers cleared (length touched)) where
  off_list : (k : ℕ) → ¬ (Touches l.shape l.sub subset k) → (i : ℕ) → i < length touched → get_or touched i 0 ≢ k
  off_list k off i lt is = off (subst (λ m. Touches l.shape l.sub subset m) is (are.touched i lt))

  module _ (write_offset : ℕ) (new new_numbers : List ℕ) (put : HasPut index.written l.location l.index_size touched slots slices cleared write_offset new new_numbers) where
    same_offset : (k : ℕ) → ¬ (Touches l.shape l.sub subset k) → get_or new_numbers (2 * k) 0 ≡ get_or numbers (2 * k) 0
    same_offset k off = put.entries.other_offsets k (off_list k off) ∙ clear.other_offsets k (off_list k off)

    same_size : (k : ℕ) → ¬ (Touches l.shape l.sub subset k) → get_or new_numbers (2 * k + 1) 0 ≡ get_or numbers (2 * k + 1) 0
    same_size k off = put.entries.other_sizes k (off_list k off) ∙ clear.other_sizes k (off_list k off)

    inside : write_offset + length slices ≤ length new
    inside = within_shard l.location l.index_size (length new) (write_offset + length slices) put.before_end

    -- where no other subchunk is stored
    pub write_begun : AreAbsent cleared → ¬ (All (λ (slot : Slot). slot ≡ Absent) slots) → write_offset ≡ data_start l.location l.index_size → length new ≡ l.index_size + length slices
        → IsWriteOf inner index l sub_g subset update object numbers (Some new) new_numbers
    write_begun absent some position_is long =
        let n = count_of (grid_of l.shape l.sub) in
        let cleared_long = clear.counted ∙ counted in
        let new_long = put.entries.counted ∙ cleared_long in
        is_write inner l sub_g subset update touched are slots slices e stored_slices cleared numbers (bytes_of object) new new_numbers write_offset index.written put index refl object refl counted clear.counted
        (λ none. some (All-from_get_or (λ (slot : Slot). slot ≡ Absent) slots Bad (λ j lt.
        let in_touched : j < length touched = omega (arith, lt, stored_slices.counted) in
        slot_gone inner l.fill (e j) slices write_offset (get_or slots j Bad) (stored_slices.stored_slices j in_touched)
        (sym (put.entries.offsets j in_touched) ∙ (entry_absent new_numbers n (get_or touched j 0) new_long none (below j in_touched)).0) (omega (arith, inside, put.small)))))
        (inl (record { anew = anew_of_absent l.shape l.sub subset touched numbers cleared (length (bytes_of object)) are counted clear absent; position_is = position_is; long = long }))
        cells
        (λ k k_below off.
        let entry = entry_absent cleared n k cleared_long absent k_below in
        kept_absent (bytes_of object) numbers new new_numbers k (same_offset k off) (same_size k off)
        (sym (clear.other_offsets k (off_list k off)) ∙ entry.0) (sym (clear.other_sizes k (off_list k off)) ∙ entry.1))

    -- where some other subchunk is
    keeps_slot : (k : ℕ) (s : Slot) → ¬ (Touches l.shape l.sub subset k) → slot_at (length (bytes_of object)) numbers k ≡ s
        → LiesBetween (data_start l.location l.index_size) (data_end l.location l.index_size (length (bytes_of object))) s → k < count_of (grid_of l.shape l.sub)
        → KeepsSlices (data_start l.location l.index_size) write_offset (bytes_of object) new
        → write_offset ≡ offset_after l.location l.index_size (length (bytes_of object)) numbers (count_of (grid_of l.shape l.sub)) → IsKept (bytes_of object) numbers new new_numbers k
    keeps_slot k Absent off is lies k_below keeps position_is =
        let entry = absent_entry (length (bytes_of object)) numbers k is in
        kept_absent (bytes_of object) numbers new new_numbers k (same_offset k off) (same_size k off) entry.0 entry.1
    keeps_slot k (InRange o m) off is lies k_below keeps position_is =
        let before = before_write_offset l.location l.index_size (length (bytes_of object)) numbers (count_of (grid_of l.shape l.sub)) k o m k_below is lies.1 in
        kept_slice (bytes_of object) new numbers new_numbers (data_start l.location l.index_size) write_offset k o m keeps (same_offset k off) (same_size k off) is lies.0 (omega (arith, before, position_is)) (omega (arith, inside))
    keeps_slot k Bad off is lies k_below keeps position_is = absurd lies

    pub write_appended : ¬ (AreAbsent cleared)
        → ((k : ℕ) → k < count_of (grid_of l.shape l.sub) → LiesBetween (data_start l.location l.index_size) (data_end l.location l.index_size (length (bytes_of object))) (slot_at (length (bytes_of object)) numbers k))
        → KeepsSlices (data_start l.location l.index_size) write_offset (bytes_of object) new
        → write_offset ≡ offset_after l.location l.index_size (length (bytes_of object)) numbers (count_of (grid_of l.shape l.sub))
        → length new ≡ length_after l.location (length (bytes_of object)) write_offset (length slices)
        → IsWriteOf inner index l sub_g subset update object numbers (Some new) new_numbers
    write_appended present lies keeps position_is long =
        let n = count_of (grid_of l.shape l.sub) in
        let new_long = put.entries.counted ∙ (clear.counted ∙ counted) in
        is_write inner l sub_g subset update touched are slots slices e stored_slices cleared numbers (bytes_of object) new new_numbers write_offset index.written put index refl object refl counted clear.counted
        (λ none. present (all_absent cleared n (clear.counted ∙ counted) (λ k k_below. elim (in_list touched k) [
          | inl found ↦ subst (λ m. (get_or cleared (2 * m) 0 ≡ absent_number) × (get_or cleared (2 * m + 1) 0 ≡ absent_number)) found.2 (clear.offsets found.0 found.1, clear.sizes found.0 found.1)
          | inr other ↦
              let entry = entry_absent new_numbers n k new_long none k_below in
              (sym (put.entries.other_offsets k other) ∙ entry.0, sym (put.entries.other_sizes k other) ∙ entry.1)
        ])))
        (inr (record {
          not_anew = λ anew. present (absent_of_anew l.shape l.sub subset touched numbers cleared (length (bytes_of object)) are counted clear anew);
          position_is = position_is;
          long = long;
        }))
        cells
        (λ k k_below off. keeps_slot k (slot_at (length (bytes_of object)) numbers k) off refl (lies k k_below) k_below keeps position_is)

-- of a shard whose entries are absent or in its data part, and which has an index where not all are absent
module _ (inner index : Meaning) (shape : List ℕ) (sub_g : ArraySpec) (location : ShardingIndexLocation) (size : ℕ) (subset : Subset) (update : Elements) (numbers : List ℕ) (object : Option (List ℕ)) (new_numbers : List ℕ) (new_len : ℕ)
    (counted : length numbers ≡ 2 * count_of (grid_of shape sub_g.shape))
    (lies : (k : ℕ) → k < count_of (grid_of shape sub_g.shape) → LiesBetween (data_start location size) (data_end location size (length (bytes_of object))) (slot_at (length (bytes_of object)) numbers k))
    (enough : ¬ (AreAbsent numbers) → size ≤ length (bytes_of object)) where
  half : length numbers / 2 ≡ count_of (grid_of shape sub_g.shape)
  half = ap (λ m. m / 2) counted ∙ over_first 2 (count_of (grid_of shape sub_g.shape)) (omega arith)

  made_there : (new : List ℕ) → IsMade inner index.written shape sub_g location size subset update numbers object (Some new) new_numbers new_len
      → IsWriteOf inner index (layout_from shape sub_g location size) sub_g subset update object numbers (Some new) new_numbers
  made_there new made =
      let l : Layout = layout_from shape sub_g location size in
      let below : (j : ℕ) → j < length made.touched → get_or made.touched j 0 < count_of (grid_of shape sub_g.shape) = λ j lt. made.below j 0 lt in
      elim made.settled [
        | inl erased ↦ cc
        | inr more ↦ elim more [
          | inl begun ↦
              write_begun inner index l sub_g subset update object numbers made.touched made.slots made.slices made.elements made.are_touched below counted made.stored_slices made.cells begun.cleared begun.clear
              (data_start location size) new new_numbers begun.put.0 begun.absent begun.some refl (begun.put.1 ∙ begun.long)
          | inr appended ↦
              let long_enough = enough (λ absent. appended.present (cleared_absent made.touched numbers appended.cleared (count_of (grid_of shape sub_g.shape)) counted appended.clear absent)) in
              let put = appended.put long_enough in
              write_appended inner index l sub_g subset update object numbers made.touched made.slots made.slices made.elements made.are_touched below counted made.stored_slices made.cells appended.cleared appended.clear
              (offset_after location size (length (bytes_of object)) numbers (length numbers / 2)) new new_numbers put.0.0 appended.present lies put.1
              (ap (offset_after location size (length (bytes_of object)) numbers) half) (put.0.1 ∙ appended.long)
        ]
      ]

  made_none : IsMade inner index.written shape sub_g location size subset update numbers object None new_numbers new_len
      → IsWriteOf inner index (layout_from shape sub_g location size) sub_g subset update object numbers None new_numbers
  made_none made =
      let l : Layout = layout_from shape sub_g location size in
      elim made.settled [
        | inl erased ↦ write_erased inner index l sub_g subset update object numbers new_numbers made.touched made.slots made.slices made.elements made.are_touched counted made.stored_slices made.cells erased.2
        | inr more ↦ elim more [
          | inl begun ↦ absurd begun.put
          | inr appended ↦
              let long_enough = enough (λ absent. appended.present (cleared_absent made.touched numbers appended.cleared (count_of (grid_of shape sub_g.shape)) counted appended.clear absent)) in
              absurd (appended.put long_enough).0
        ]
      ]

  -- what was made is a write
  pub made_is_write : (new : Option (List ℕ)) → IsMade inner index.written shape sub_g location size subset update numbers object new new_numbers new_len
      → IsWriteOf inner index (layout_from shape sub_g location size) sub_g subset update object numbers new new_numbers
  made_is_write None made = made_none made
  made_is_write (Some new) made = made_there new made
