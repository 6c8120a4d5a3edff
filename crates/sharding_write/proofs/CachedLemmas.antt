-- What is held of a shard after a write: as many numbers, each entry absent or in the data part.
use Rattle.std.proofs.Common.{◌≡◌, ◌≢◌, ℕ, ◌+◌, ◌*◌, ◌/◌, ◌^◌, ◌<◌, ◌≤◌, inl, inr, List, Option, Some, None, length, get_or, map, refl, sym, ap, ◌∙◌, subst, arith}
use Rattle.parts_errors.specs.Words.{Elements, CellsOf, Written}
use Rattle.parts_row_major.specs.Numbering.{count_of}
use Rattle.parts_subsets.specs.Grid.{grid_of}
use Rattle.parts_arrays.specs.ArraySpec.{ArraySpec, IsArrayOf}
use Rattle.storage_handles.specs.Writes.{bytes_of}
use Rattle.sharding_format.specs.Index.{slot_at, data_start, data_end, index_spec, numbers_in_index}
use Rattle.sharding_format.specs.Laws.{numbers_of_index}
use Rattle.sharding_format.specs.Laying.{IsStoredIn}
use Rattle.sharding_format.specs.declared.location.ShardingIndexLocation.{ShardingIndexLocation}
use Rattle.sharding_format.specs.declared.slot.Slot.{Slot}
use Rattle.sharding_format.specs.declared.slot.Slot.TheVariants.{Absent, InRange, Bad}
use Rattle.sharding_format.proofs.EncodingLemmas.{shifted, shifted_entry}
use Rattle.sharding_index.specs.DataPart.{LiesBetween}
use Rattle.sharding_write.specs.Writing.{AreAbsent, AreStoredInRow, HasEntries, HasPut, IsSettled, offset_after, HoldsNumbers, IsCachedIndex, HasSlice}
use Rattle.parts_subsets.proofs.GridLaws.{over_first}
use Rattle.sharding_write.proofs.AnewLemmas.{entry_absent, in_list, absent_entry, cleared_absent}
use Rattle.sharding_write.proofs.WrittenLemmas.{absent_slot, inside_data}
use Rattle.sharding_write.proofs.MadeLemmas.{kept_slot, before_write_offset}

absent_lies : (start end : ℕ) (s : Slot) → s ≡ Absent → LiesBetween start end s
absent_lies start end s is = rw is tt

-- the length of an object whose index is held
pub told_len : (index_in : List ℕ → Option (List ℕ)) (contents : Option (List ℕ)) (len : ℕ) (numbers : List ℕ) → HoldsNumbers index_in contents len numbers → length (bytes_of contents) ≡ len
told_len index_in None len numbers h = sym h.0
told_len index_in (Some bytes) len numbers h = h.0

slice_there : (location : ShardingIndexLocation) (size len : ℕ) (bytes : List ℕ) (s : Slot) → length bytes ≡ len → LiesBetween (data_start location size) (data_end location size len) s → HasSlice (Some bytes) s
slice_there location size len bytes Absent long h = tt
slice_there location size len bytes (InRange o m) long h = omega (arith, long, inside_data location size len (o + m) h.1)
slice_there location size len bytes Bad long h = tt

no_slice : (s : Slot) → s ≡ Absent → HasSlice None s
no_slice s is = rw is tt

-- its slices lie in it
pub told_slice : (location : ShardingIndexLocation) (size n len : ℕ) (numbers : List ℕ) (index_in : List ℕ → Option (List ℕ)) (contents : Option (List ℕ)) → IsCachedIndex location size n len numbers
    → HoldsNumbers index_in contents len numbers → (k : ℕ) → k < n → HasSlice contents (slot_at len numbers k)
told_slice location size n len numbers index_in None cached h k below =
    let entry = entry_absent numbers n k cached.counted h.1 below in
    no_slice (slot_at len numbers k) (absent_slot len numbers k entry.0 entry.1)
told_slice location size n len numbers index_in (Some bytes) cached h k below = slice_there location size len bytes (slot_at len numbers k) h.0 (cached.placed k below)

-- all entries are absent
pub none_cached : (location : ShardingIndexLocation) (size len n : ℕ) (numbers : List ℕ) → length numbers ≡ 2 * n → AreAbsent numbers → len + 1 < 2 ^ 64
    → IsCachedIndex location size n len numbers
none_cached location size len n numbers counted absent room = record {
  counted = counted;
  room = room;
  long_enough = λ some. absurd (some absent);
  placed = λ k below.
      let entry = entry_absent numbers n k counted absent below in
      absent_lies _ _ _ (absent_slot len numbers k entry.0 entry.1);
}

module _ (inner_written : Written) (fill : List ℕ) (location : ShardingIndexLocation) (size : ℕ) (touched : List ℕ) (slots : List Slot) (slices : List ℕ) (e : ℕ → Elements)
    (stored_slices : AreStoredInRow inner_written fill e slices slots (length touched)) (n : ℕ) (numbers : List ℕ) (counted : length numbers ≡ 2 * n) (index_written : Written) where
  shifted_lies : (write_offset start end : ℕ) (el : Elements) (s : Slot) → IsStoredIn inner_written fill el slices s → start ≤ write_offset → write_offset + length slices ≤ end → LiesBetween start end (shifted write_offset s)
  shifted_lies write_offset start end el Absent h from upto = tt
  shifted_lies write_offset start end el (InRange o m) h from upto = (omega (arith, from), omega (arith, h.2, upto))
  shifted_lies write_offset start end el Bad h from upto = absurd h

  module _ (cleared : List ℕ) (clear : HasEntries touched (λ i. Absent) 0 numbers cleared (length touched)) (write_offset : ℕ) (new new_numbers : List ℕ)
      (put : HasPut index_written location size touched slots slices cleared write_offset new new_numbers) where
    room : write_offset + length slices ≤ length new
    room = inside_data location size (length new) (write_offset + length slices) put.before_end

    new_slot : (j : ℕ) → j < length touched → slot_at (length new) new_numbers (get_or touched j 0) ≡ shifted write_offset (get_or slots j Bad)
    unfolding slot_at
    new_slot j below =
        rw (put.entries.offsets j below, put.entries.sizes j below)
        (shifted_entry inner_written fill (e j) slices write_offset (length new) (get_or slots j Bad) (stored_slices.stored_slices j below) room (omega (arith, room, put.small)))

    -- the new entries lie in the data part, and the others where they do
    cached_put : ((k : ℕ) → k < n → ((i : ℕ) → i < length touched → get_or touched i 0 ≢ k) → LiesBetween (data_start location size) (data_end location size (length new)) (slot_at (length new) new_numbers k))
        → IsCachedIndex location size n (length new) new_numbers
    cached_put others = record {
      counted = put.entries.counted ∙ clear.counted ∙ counted;
      room = omega (arith, put.small);
      long_enough = λ some. put.index.long_enough;
      placed = λ k below. elim (in_list touched k) [
        | inl found ↦ subst (λ m. LiesBetween (data_start location size) (data_end location size (length new)) (slot_at (length new) new_numbers m)) found.2
            (rw (new_slot found.0 found.1) (shifted_lies write_offset (data_start location size) (data_end location size (length new)) (e found.0) (get_or slots found.0 Bad) (stored_slices.stored_slices found.0 found.1) put.after_start put.before_end))
        | inr other ↦ others k below other
      ];
    }

    -- where no other subchunk is stored
    pub cached_begun : AreAbsent cleared → IsCachedIndex location size n (length new) new_numbers
    cached_begun absent = cached_put (λ k below other.
        let entry = entry_absent cleared n k (clear.counted ∙ counted) absent below in
        absent_lies _ _ _ (absent_slot (length new) new_numbers k (put.entries.other_offsets k other ∙ entry.0) (put.entries.other_sizes k other ∙ entry.1)))

    stays : (len k : ℕ) (s : Slot) → slot_at len numbers k ≡ s → LiesBetween (data_start location size) (data_end location size len) s → k < n → write_offset ≡ offset_after location size len numbers n
        → ((i : ℕ) → i < length touched → get_or touched i 0 ≢ k) → LiesBetween (data_start location size) (data_end location size (length new)) (slot_at (length new) new_numbers k)
    stays len k Absent is lies below after_old other =
        let entry = absent_entry len numbers k is in
        absent_lies _ _ _ (absent_slot (length new) new_numbers k (put.entries.other_offsets k other ∙ clear.other_offsets k other ∙ entry.0) (put.entries.other_sizes k other ∙ clear.other_sizes k other ∙ entry.1))
    stays len k (InRange o m) is lies below after_old other =
        let before = before_write_offset location size len numbers n k o m below is lies.1 in
        let upto : o + m ≤ write_offset = omega (arith, before, after_old) in
        rw (kept_slot len (length new) numbers new_numbers k o m (put.entries.other_offsets k other ∙ clear.other_offsets k other) (put.entries.other_sizes k other ∙ clear.other_sizes k other) is (omega (arith, upto, room)))
        (lies.0, omega (arith, upto, put.before_end))
    stays len k Bad is lies below after_old other = absurd lies

    -- where they go after the old ones
    pub cached_appended : (len : ℕ) → ((k : ℕ) → k < n → LiesBetween (data_start location size) (data_end location size len) (slot_at len numbers k)) → write_offset ≡ offset_after location size len numbers n
        → IsCachedIndex location size n (length new) new_numbers
    cached_appended len lies after_old = cached_put (λ k below other. stays len k (slot_at len numbers k) refl (lies k below) below after_old other)

  half : length numbers / 2 ≡ n
  half = ap (λ m. m / 2) counted ∙ over_first 2 n (omega arith)

  module _ (old : Option (List ℕ)) (new_numbers : List ℕ) (new_len : ℕ)
      (lies : (k : ℕ) → k < n → LiesBetween (data_start location size) (data_end location size (length (bytes_of old))) (slot_at (length (bytes_of old)) numbers k))
      (enough : ¬ (AreAbsent numbers) → size ≤ length (bytes_of old)) where
    cached_there : (new : List ℕ) → IsSettled index_written location size touched slots slices numbers old (Some new) new_numbers new_len → IsCachedIndex location size n new_len new_numbers
    cached_there new settled =
        elim settled [
          | inl erased ↦ cc
          | inr more ↦ elim more [
            | inl begun ↦ subst (λ len. IsCachedIndex location size n len new_numbers) begun.put.1 (cached_begun begun.cleared begun.clear (data_start location size) new new_numbers begun.put.0 begun.absent)
            | inr appended ↦
                let long_enough = enough (λ absent. appended.present (cleared_absent touched numbers appended.cleared n counted appended.clear absent)) in
                let put = appended.put long_enough in
                subst (λ len. IsCachedIndex location size n len new_numbers) put.0.1
                (cached_appended appended.cleared appended.clear (offset_after location size (length (bytes_of old)) numbers (length numbers / 2)) new new_numbers put.0.0 (length (bytes_of old)) lies
                (ap (offset_after location size (length (bytes_of old)) numbers) half))
          ]
        ]

    cached_none : IsSettled index_written location size touched slots slices numbers old None new_numbers new_len → IsCachedIndex location size n new_len new_numbers
    cached_none settled =
        elim settled [
          | inl erased ↦ none_cached location size new_len n new_numbers (erased.2.clear.counted ∙ counted) erased.2.absent (omega (arith, erased.1))
          | inr more ↦ elim more [
            | inl begun ↦ absurd begun.put
            | inr appended ↦ absurd (appended.put (enough (λ absent. appended.present (cleared_absent touched numbers appended.cleared n counted appended.clear absent)))).0
          ]
        ]

    -- whatever became of the object
    pub held_settled : (new : Option (List ℕ)) → IsSettled index_written location size touched slots slices numbers old new new_numbers new_len → IsCachedIndex location size n new_len new_numbers
    held_settled None settled = cached_none settled
    held_settled (Some new) settled = cached_there new settled

-- the numbers are those of the object's index
module _ (index_cells : CellsOf) (index_written : Written) (sub : List ℕ) (g : ArraySpec) (location : ShardingIndexLocation) (size : ℕ)
    (law : (e : Elements) (bytes : List ℕ) → IsArrayOf (index_spec (grid_of g.shape sub)) e → index_written e bytes → index_cells bytes ≡ map Some e)
    (touched : List ℕ) (slots : List Slot) (slices numbers : List ℕ) (counted : length numbers ≡ 2 * count_of (grid_of g.shape sub)) (old : Option (List ℕ)) (new_numbers : List ℕ) (new_len : ℕ)
    (enough : ¬ (AreAbsent numbers) → size ≤ length (bytes_of old)) where
  told_put : (cleared : List ℕ) (write_offset : ℕ) (new : List ℕ) → HasEntries touched (λ i. Absent) 0 numbers cleared (length touched)
      → HasPut index_written location size touched slots slices cleared write_offset new new_numbers → length new ≡ new_len → HoldsNumbers (numbers_in_index index_cells location size) (Some new) new_len new_numbers
  told_put cleared write_offset new clear put long =
      (long, numbers_of_index index_cells index_written sub g location size new new_numbers law put.index.long_enough (put.entries.counted ∙ clear.counted ∙ counted) put.below put.index.written)

  told_there : (new : List ℕ) → IsSettled index_written location size touched slots slices numbers old (Some new) new_numbers new_len → HoldsNumbers (numbers_in_index index_cells location size) (Some new) new_len new_numbers
  told_there new settled =
      elim settled [
        | inl erased ↦ cc
        | inr more ↦ elim more [
          | inl begun ↦ told_put begun.cleared (data_start location size) new begun.clear begun.put.0 begun.put.1
          | inr appended ↦
              let long_enough = enough (λ absent. appended.present (cleared_absent touched numbers appended.cleared (count_of (grid_of g.shape sub)) counted appended.clear absent)) in
              let put = appended.put long_enough in
              told_put appended.cleared (offset_after location size (length (bytes_of old)) numbers (length numbers / 2)) new appended.clear put.0.0 put.0.1
        ]
      ]

  told_none : IsSettled index_written location size touched slots slices numbers old None new_numbers new_len → HoldsNumbers (numbers_in_index index_cells location size) None new_len new_numbers
  told_none settled =
      elim settled [
        | inl erased ↦ (erased.1, erased.2.absent)
        | inr more ↦ elim more [
          | inl begun ↦ absurd begun.put
          | inr appended ↦ absurd (appended.put (enough (λ absent. appended.present (cleared_absent touched numbers appended.cleared (count_of (grid_of g.shape sub)) counted appended.clear absent)))).0
        ]
      ]

  pub told_settled : (new : Option (List ℕ)) → IsSettled index_written location size touched slots slices numbers old new new_numbers new_len → HoldsNumbers (numbers_in_index index_cells location size) new new_len new_numbers
  told_settled None settled = told_none settled
  told_settled (Some new) settled = told_there new settled
