-- New slices put into a shard make a write.
use Rattle.std.proofs.Common.{◌≡◌, ◌≢◌, ℕ, ◌+◌, ◌*◌, ◌<◌, ◌≤◌, List, Option, Some, length, get_or, refl, sym, ap, ◌∙◌, subst, arith}
use Rattle.parts_errors.specs.Words.{Elements, Written}
use Rattle.parts_row_major.specs.Numbering.{count_of}
use Rattle.parts_row_major.specs.Subsets.{Subset}
use Rattle.parts_subsets.specs.Grid.{grid_of}
use Rattle.parts_subsets.specs.Touched.{Touches, AreTouched}
use Rattle.parts_arrays.specs.ArraySpec.{ArraySpec}
use Rattle.storage_handles.specs.Writes.{bytes_of}
use Rattle.codec_traits.specs.Meanings.{Meaning}
use Rattle.sharding_format.specs.Index.{absent_number, slot_at, data_end}
use Rattle.sharding_format.specs.Cells.{Layout}
use Rattle.sharding_format.specs.Encoding.{StandsAt, slot_size}
use Rattle.sharding_format.specs.Laying.{IsStoredIn, taken}
use Rattle.sharding_format.specs.Packing.{slice_of}
use Rattle.sharding_format.specs.declared.slot.Slot.{Slot}
use Rattle.sharding_format.specs.declared.slot.Slot.TheVariants.{Absent, InRange, Bad}
use Rattle.sharding_format.specs.declared.location.ShardingIndexLocation.{ShardingIndexLocation}
use Rattle.sharding_format.specs.declared.location.ShardingIndexLocation.TheVariants.{Start, End}
use Rattle.sharding_format.proofs.EncodingLemmas.{shifted, shifted_entry, size_shifted, begins_shifted}
use Rattle.sharding_format.proofs.LayingLemmas.{sum_same}
use Rattle.sharding_write.specs.Writing.{AreAbsent, AreNewCells, cells_in, ArePlaced, IsKept, IsNew, touched_size, StandInRow, IsWriteOf, AreStoredInRow, HasPut}

pub inside_data : (location : ShardingIndexLocation) (size len n : ℕ) → n ≤ data_end location size len → n ≤ len
inside_data Start size len n h = h
inside_data End size len n h = omega arith

module _ (inner : Meaning) (l : Layout) (sub_g : ArraySpec) (subset : Subset) (update : Elements) (touched : List ℕ) (are : AreTouched l.shape l.sub subset touched)
    (slots : List Slot) (slices : List ℕ) (e : ℕ → Elements) (stored_slices : AreStoredInRow inner.written l.fill e slices slots (length touched))
    (cleared numbers old new new_numbers : List ℕ) (write_offset : ℕ) (index_written : Written)
    (put : HasPut index_written l.location l.index_size touched slots slices cleared write_offset new new_numbers) where
  room : write_offset + length slices ≤ length new
  room = inside_data l.location l.index_size (length new) (write_offset + length slices) put.before_end

  slot_there : (j : ℕ) → j < length touched → slot_at (length new) new_numbers (get_or touched j 0) ≡ shifted write_offset (get_or slots j Bad)
  unfolding slot_at
  slot_there j below =
      rw (put.entries.offsets j below, put.entries.sizes j below)
      (shifted_entry inner.written l.fill (e j) slices write_offset (length new) (get_or slots j Bad) (stored_slices.stored_slices j below) room (omega (arith, room, put.small)))

  stands_there : (el : Elements) (s : Slot) → IsStoredIn inner.written l.fill el slices s → StandsAt inner.written l new el (shifted write_offset s)
  stands_there el Absent h = h
  stands_there el (InRange o n) h = (h.0, rw (put.slice o n h.2) h.1, (omega (arith, put.after_start), omega (arith, h.2, put.before_end)))
  stands_there el Bad h = absurd h

  taken_there : (n : ℕ) → n ≤ length touched → touched_size (length new) new_numbers touched n ≡ taken slots n
  taken_there n upto = sum_same (λ j. slot_size (slot_at (length new) new_numbers (get_or touched j 0))) (λ j. slot_size (get_or slots j Bad)) n
      (λ j below. ap slot_size (slot_there j (omega (arith, below, upto))) ∙ size_shifted write_offset (get_or slots j Bad))

  -- each touched subchunk stands with its new cells
  pub new_stands : ((j : ℕ) → j < length touched → AreNewCells l.shape sub_g subset update (cells_in inner.cells l.fill old numbers (get_or touched j 0)) (get_or touched j 0) (e j))
      → (k : ℕ) → Touches l.shape l.sub subset k → IsNew inner l sub_g subset update old numbers new new_numbers k
  new_stands cells k touches =
      let found = are.all k touches in
      subst (λ m. IsNew inner l sub_g subset update old numbers new new_numbers m) found.2 (record {
        elements = e found.0;
        cells = cells found.0 found.1;
        stands = rw (slot_there found.0 found.1) (stands_there (e found.0) (get_or slots found.0 Bad) (stored_slices.stored_slices found.0 found.1));
      })

  -- one after the other
  pub in_row : ArePlaced l subset (length old) numbers (length slices) write_offset (length new) → StandInRow l subset touched old numbers new new_numbers
  in_row placed = record {
    write_offset = write_offset;
    placed = rw (taken_there (length touched) (omega arith), stored_slices.filled) placed;
    begins = λ j below. rw (taken_there j (omega (arith, below)), slot_there j below) (begins_shifted write_offset (taken slots j) (get_or slots j Bad) (stored_slices.begins j below));
  }

  -- an untouched subchunk has its old numbers
  pub other_numbers : ((k : ℕ) → ((i : ℕ) → i < length touched → get_or touched i 0 ≢ k) → (get_or cleared (2 * k) 0 ≡ get_or numbers (2 * k) 0) × (get_or cleared (2 * k + 1) 0 ≡ get_or numbers (2 * k + 1) 0))
      → (k : ℕ) → ¬ (Touches l.shape l.sub subset k) → (get_or new_numbers (2 * k) 0 ≡ get_or numbers (2 * k) 0) × (get_or new_numbers (2 * k + 1) 0 ≡ get_or numbers (2 * k + 1) 0)
  other_numbers same k off =
      let apart : (i : ℕ) → i < length touched → get_or touched i 0 ≢ k = λ i lt is. off (subst (λ m. Touches l.shape l.sub subset m) is (are.touched i lt)) in
      (put.entries.other_offsets k apart ∙ (same k apart).0, put.entries.other_sizes k apart ∙ (same k apart).1)

  -- the whole of it
  pub is_write : (index : Meaning) → index.written ≡ index_written → (object : Option (List ℕ)) → bytes_of object ≡ old → length numbers ≡ 2 * count_of (grid_of l.shape l.sub) → length cleared ≡ length numbers
      → ¬ (AreAbsent new_numbers) → ArePlaced l subset (length old) numbers (length slices) write_offset (length new)
      → ((j : ℕ) → j < length touched → AreNewCells l.shape sub_g subset update (cells_in inner.cells l.fill old numbers (get_or touched j 0)) (get_or touched j 0) (e j))
      → ((k : ℕ) → k < count_of (grid_of l.shape l.sub) → ¬ (Touches l.shape l.sub subset k) → IsKept old numbers new new_numbers k)
      → IsWriteOf inner index l sub_g subset update object numbers (Some new) new_numbers
  is_write index same object is counted cleared_counted some placed cells kept = record {
    touched = touched;
    are_touched = are;
    counted = put.entries.counted ∙ cleared_counted ∙ counted;
    below = put.below;
    stored = rw (same, is) (some, put.index, in_row placed);
    stand = λ k k_below touches. rw is (new_stands cells k touches);
    kept = λ k k_below off. rw is (kept k k_below off);
  }

-- an entry of absent numbers names nothing, however long the shard is
pub absent_slot : (len : ℕ) (numbers : List ℕ) (k : ℕ) → get_or numbers (2 * k) 0 ≡ absent_number → get_or numbers (2 * k + 1) 0 ≡ absent_number → slot_at len numbers k ≡ Absent
unfolding slot_at
absent_slot len numbers k offset size = rw (offset, size) refl

-- a subchunk that is absent before and after keeps its entry
pub kept_absent : (old numbers new new_numbers : List ℕ) (k : ℕ) → get_or new_numbers (2 * k) 0 ≡ get_or numbers (2 * k) 0 → get_or new_numbers (2 * k + 1) 0 ≡ get_or numbers (2 * k + 1) 0
    → get_or numbers (2 * k) 0 ≡ absent_number → get_or numbers (2 * k + 1) 0 ≡ absent_number → IsKept old numbers new new_numbers k
kept_absent old numbers new new_numbers k same_offset same_size offset size =
    let before = absent_slot (length old) numbers k offset size in
    let after = absent_slot (length new) new_numbers k (same_offset ∙ offset) (same_size ∙ size) in
    record { offset = same_offset; size = same_size; slot = after ∙ sym before; bytes = ap (slice_of new) after ∙ sym (ap (slice_of old) before) }
