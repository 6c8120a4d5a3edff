-- The present slices of a shard, packed end to end, make a compaction of it.
use Rattle.std.proofs.Common.{◌≡◌, ◌≢◌, ℕ, ◌+◌, ◌*◌, ◌<◌, ◌≤◌, inl, inr, List, [], ◌∷◌, ◌++◌, Some, length, get_or, map, take, drop, refl, sym, ap, ◌∙◌, subst, arith, length-append, length-drop, length-take}
use Rattle.std.proofs.Math.ListN.{get_or-append}
use Rattle.std.proofs.Math.Seq.{drop-append_seam, take-length}
use Rattle.std.proofs.lemmas.List.{get_or_push, length_push, take-append-le, drop-append-le}
use Rattle.std.proofs.lemmas.Bool.{le-leb}
use borrow.Author.Count.{below_more}
use Rattle.parts_row_major.specs.Numbering.{count_of}
use Rattle.parts_subsets.specs.Grid.{grid_of}
use Rattle.parts_errors.specs.Order.{Each, done, RefusedBy}
use Rattle.parts_errors.specs.declared.error.CodecError.{CodecError}
use Rattle.parts_errors.specs.declared.error.CodecError.TheVariants.{BadIndexEntry}
use Rattle.codec_traits.specs.Meanings.{Meaning}
use Rattle.sharding_format.specs.Cells.{Layout}
use Rattle.sharding_format.specs.Index.{absent_number, slot_of_entry, slot_at, data_start, element_of_number, numbers_in_index}
use Rattle.sharding_format.specs.Encoding.{slot_size}
use Rattle.sharding_format.specs.Laying.{taken, offset_number, size_number, EndsBelow, IsIndexOf, whole_shard}
use Rattle.sharding_format.specs.Compacting.{IsMoved, IsGood, IsWellIndexed, IsCompact, IsCompacted, present_size, compact_size}
use Rattle.sharding_format.specs.Packing.{LiesInShard, AreSlots, slice_of, moved_slot, IsPacked, IsRewritten}
use Rattle.sharding_format.specs.declared.slot.Slot.{Slot}
use Rattle.sharding_format.specs.declared.slot.Slot.TheVariants.{Absent, InRange, Bad}
use Rattle.sharding_format.specs.declared.location.ShardingIndexLocation.{ShardingIndexLocation}
use Rattle.sharding_format.proofs.LayingLemmas.{sum_more, sum_same, sum_grows_to}
use Rattle.sharding_format.proofs.EncodingLemmas.{Whole, whole_of, shifted, other_number, start_small}

good_inside : (len : ℕ) (s : Slot) → LiesInShard len s → IsGood s
good_inside len Absent h = tt
good_inside len (InRange offset size) h = tt
good_inside len Bad h = absurd h

-- one slot more, which isn't bad
pub one_more_slot : (len : ℕ) (numbers : List ℕ) (slots grown : List Slot) (s : Slot) (k : ℕ)
    → AreSlots len numbers slots k → grown ≡ slots ++ s ∷ [] → s ≡ slot_at len numbers k → LiesInShard len s → AreSlots len numbers grown (k + 1)
one_more_slot len numbers slots grown s k h grows is in_shard =
    let here : get_or grown k Bad ≡ s = ap (λ (xs : List Slot). get_or xs k Bad) grows ∙ get_or_push slots s Bad k h.counted in
    let before : (j : ℕ) → j < k → get_or grown j Bad ≡ get_or slots j Bad =
    λ j below. ap (λ (xs : List Slot). get_or xs j Bad) grows ∙ get_or-append slots (s ∷ []) Bad j (omega (arith, below, h.counted)) in
    record {
      counted = ap length grows ∙ length_push slots s ∙ ap (λ n. n + 1) h.counted;
      are = below_more (λ j. get_or grown j Bad ≡ slot_at len numbers j) k (λ j below. before j below ∙ h.are j below) (here ∙ is);
      inside = below_more (λ j. LiesInShard len (get_or grown j Bad)) k (λ j below. rw (before j below) (h.inside j below)) (rw here in_shard);
    }

pub good_slots : (len : ℕ) (numbers : List ℕ) (slots : List Slot) (n : ℕ) → AreSlots len numbers slots n → (k : ℕ) → k < n → IsGood (slot_at len numbers k)
good_slots len numbers slots n h k below = subst (λ s. IsGood s) (h.are k below) (good_inside len (get_or slots k Bad) (h.inside k below))

-- the lowest bad entry
pub one_bad : (len : ℕ) (numbers : List ℕ) (slots : List Slot) (n k : ℕ) (e : CodecError) → k < n → AreSlots len numbers slots k
    → (¬ (IsGood (slot_at len numbers k))) × (e ≡ BadIndexEntry k) → RefusedBy (Each n (λ k. IsGood (slot_at len numbers k)) (λ k. BadIndexEntry k) done) e
one_bad len numbers slots n k e below h bad = inr (inl (k, (below, good_slots len numbers slots k h, bad.0, bad.1)))

length_slice : (old : List ℕ) (s : Slot) → LiesInShard (length old) s → length (slice_of old s) ≡ slot_size s
length_slice old Absent h = refl
length_slice old (InRange offset size) h = omega (arith, h, length-take size (drop offset old), length-drop offset old)
length_slice old Bad h = absurd h

-- a slice that is appended
moved_here : (old bytes : List ℕ) (s : Slot) → LiesInShard (length old) s → IsMoved old s (length bytes) (bytes ++ slice_of old s) (moved_slot s (length bytes))
moved_here old bytes Absent h = refl
moved_here old bytes (InRange offset size) h =
    let slice : List ℕ = take size (drop offset old) in
    let len : length slice ≡ size = length_slice old (InRange offset size) h in
    (refl, ap (take size) (drop-append_seam bytes slice) ∙ ap (λ n. take n slice) (sym len) ∙ take-length slice)
moved_here old bytes Bad h = absurd h

-- what was moved stays where more follows
moved_stays : (old bytes more : List ℕ) (s t : Slot) (write_offset : ℕ) → write_offset + slot_size s ≤ length bytes → IsMoved old s write_offset bytes t → IsMoved old s write_offset (bytes ++ more) t
moved_stays old bytes more Absent t write_offset below h = h
moved_stays old bytes more (InRange offset size) t write_offset below h =
    (h.0, rw (drop-append-le write_offset bytes more (omega arith), take-append-le size (drop write_offset bytes) more (omega (arith, length-drop write_offset bytes))) h.1)
moved_stays old bytes more Bad t write_offset below h = absurd h

ends_within : (slots : List Slot) (j k : ℕ) → j < k → taken slots j + slot_size (get_or slots j Bad) ≤ taken slots k
ends_within slots j k below =
    omega (arith, sum_more (λ (i : ℕ). slot_size (get_or slots i Bad)) j, sum_grows_to (λ (i : ℕ). slot_size (get_or slots i Bad)) (j + 1) k (omega arith))

-- one slice more
pub one_more_packed : (old bytes all : List ℕ) (slots write_offsets grown : List Slot) (k : ℕ)
    → IsPacked old slots bytes write_offsets k → LiesInShard (length old) (get_or slots k Bad)
    → all ≡ bytes ++ slice_of old (get_or slots k Bad) → grown ≡ write_offsets ++ moved_slot (get_or slots k Bad) (length bytes) ∷ []
    → IsPacked old slots all grown (k + 1)
one_more_packed old bytes all slots write_offsets grown k h in_shard is grows =
    let s : Slot = get_or slots k Bad in
    let new : Slot = moved_slot s (length bytes) in
    let here : get_or grown k Bad ≡ new = ap (λ (xs : List Slot). get_or xs k Bad) grows ∙ get_or_push write_offsets new Bad k h.counted in
    let before : (j : ℕ) → j < k → get_or grown j Bad ≡ get_or write_offsets j Bad =
    λ j below. ap (λ (xs : List Slot). get_or xs j Bad) grows ∙ get_or-append write_offsets (new ∷ []) Bad j (omega (arith, below, h.counted)) in
    record {
      counted = ap length grows ∙ length_push write_offsets new ∙ ap (λ n. n + 1) h.counted;
      moved = below_more (λ j. IsMoved old (get_or slots j Bad) (taken slots j) all (get_or grown j Bad)) k
          (λ j below. rw (is, before j below)
          (moved_stays old bytes (slice_of old s) (get_or slots j Bad) (get_or write_offsets j Bad) (taken slots j) (omega (arith, ends_within slots j k below, h.filled)) (h.moved j below)))
          (rw (is, here, h.filled) (moved_here old bytes s in_shard));
      filled = sum_more (λ i. slot_size (get_or slots i Bad)) k
          ∙ omega (arith, h.filled, length_slice old s in_shard, ap length is, length-append bytes (slice_of old s));
    }

-- a slice of the data part, and its entry, in the shard
moved_shift : (location : ShardingIndexLocation) (size : ℕ) (old index bytes all : List ℕ) (s t : Slot) (write_offset : ℕ)
    → Whole location size index bytes all → write_offset + slot_size s ≤ length bytes → IsMoved old s write_offset bytes t
    → IsMoved old s (data_start location size + write_offset) all (shifted (data_start location size) t)
moved_shift location size old index bytes all Absent t write_offset w below h = rw h refl
moved_shift location size old index bytes all (InRange offset n) t write_offset w below h = (rw h.0 refl, w.slice write_offset n below ∙ h.1)
moved_shift location size old index bytes all Bad t write_offset w below h = absurd h

moved_entry : (old bytes : List ℕ) (s t : Slot) (write_offset start len : ℕ)
    → IsMoved old s write_offset bytes t → write_offset + slot_size s ≤ length bytes → start + length bytes ≤ len → start + length bytes < absent_number
    → slot_of_entry len (offset_number start t) (size_number t) ≡ shifted start t
moved_entry old bytes Absent t write_offset start len h below room small = rw h refl
moved_entry old bytes (InRange offset size) t write_offset start len h below room small =
    rw (
      h.0,
      other_number (start + write_offset) absent_number (λ same. omega (arith, same, below, small)),
      other_number size absent_number (λ same. omega (arith, same, below, small)),
      le-leb (start + write_offset + size) len (omega (arith, below, room)),
    ) refl
moved_entry old bytes Bad t write_offset start len h below room small = absurd h

moved_ends : (old bytes : List ℕ) (s t : Slot) (write_offset start : ℕ) → IsMoved old s write_offset bytes t → write_offset + slot_size s ≤ length bytes → start + length bytes < absent_number → EndsBelow start t
moved_ends old bytes Absent t write_offset start h below small = rw h tt
moved_ends old bytes (InRange offset size) t write_offset start h below small = rw h.0 (omega arith)
moved_ends old bytes Bad t write_offset start h below small = absurd h

-- the places' numbers fit
pub room_packed : (old bytes : List ℕ) (slots write_offsets : List Slot) (n size : ℕ) (location : ShardingIndexLocation)
    → IsPacked old slots bytes write_offsets n → size + length bytes < absent_number → (k : ℕ) → k < length write_offsets → EndsBelow (data_start location size) (get_or write_offsets k Bad)
room_packed old bytes slots write_offsets n size location h small k below =
    let in_n : k < n = omega (arith, h.counted) in
    moved_ends old bytes (get_or slots k Bad) (get_or write_offsets k Bad) (taken slots k) (data_start location size) (h.moved k in_n)
    (omega (arith, ends_within slots k n in_n, h.filled)) (omega (arith, start_small location size))

-- the index and the data part are a shard of the same slices
pub rewritten_shard : (index_written : List (List ℕ) → List ℕ → Type 0) (location : ShardingIndexLocation) (size : ℕ) (old bytes index all : List ℕ) (slots write_offsets : List Slot)
    → IsPacked old slots bytes write_offsets (length slots) → IsIndexOf index_written (data_start location size) write_offsets index
    → length index ≡ size → size + length bytes < absent_number → all ≡ whole_shard location index bytes
    → IsRewritten index_written location size old slots all
unfolding slot_at
rewritten_shard index_written location size old bytes index all slots write_offsets h i sized small is =
    let n : ℕ = length slots in
    let start : ℕ = data_start location size in
    let w : Whole location size index bytes all = subst (Whole location size index bytes) (sym is) (whole_of location size index bytes sized) in
    let ends : (k : ℕ) → k < n → taken slots k + slot_size (get_or slots k Bad) ≤ length bytes = λ k below. omega (arith, ends_within slots k n below, h.filled) in
    let at : (k : ℕ) → k < n → slot_at (length all) i.numbers k ≡ shifted start (get_or write_offsets k Bad) =
    λ k below.
    let in_positions : k < length write_offsets = omega (arith, below, h.counted) in
    rw (i.are.offsets k in_positions, i.are.sizes k in_positions)
    (moved_entry old bytes (get_or slots k Bad) (get_or write_offsets k Bad) (taken slots k) start (length all) (h.moved k below) (ends k below)
    (omega (arith, w.len, w.start_small)) (omega (arith, small, w.start_small))) in
    record {
      numbers = i.numbers;
      counted = i.are.counted ∙ ap (λ m. 2 * m) h.counted;
      below = i.below;
      index = subst (index_written (map element_of_number i.numbers)) (sym w.index_is) i.written;
      long = w.len ∙ ap (λ m. size + m) (sym h.filled);
      moved = λ k below. subst (λ t. IsMoved old (get_or slots k Bad) (start + taken slots k) all t) (sym (at k below))
          (moved_shift location size old index bytes all (get_or slots k Bad) (get_or write_offsets k Bad) (taken slots k) w (ends k below) (h.moved k below));
    }

module _ (index : Meaning) (l : Layout) (old old_numbers : List ℕ) (slots : List Slot)
    (told : numbers_in_index index.cells l.location l.index_size old ≡ Some old_numbers) (h : AreSlots (length old) old_numbers slots (count_of (grid_of l.shape l.sub))) where
  taken_present : (k : ℕ) → k ≤ count_of (grid_of l.shape l.sub) → taken slots k ≡ present_size (slot_at (length old) old_numbers) k
  taken_present k upto =
      sum_same (λ j. slot_size (get_or slots j Bad)) (λ j. slot_size (slot_at (length old) old_numbers j)) k (λ j below. ap slot_size (h.are j (omega arith)))

  pub size_present : l.index_size + taken slots (length slots) ≡ compact_size l (slot_at (length old) old_numbers)
  size_present = ap (λ m. l.index_size + m) (ap (taken slots) h.counted ∙ taken_present (count_of (grid_of l.shape l.sub)) (omega arith))

  read_present : IsWellIndexed index.cells l old old_numbers
  read_present = record { told = told; good = good_slots (length old) old_numbers slots (count_of (grid_of l.shape l.sub)) h }

  -- a shard of the same size is compact
  pub compact_shard : l.index_size + taken slots (length slots) ≡ length old → IsCompact index.cells l old
  compact_shard same = record { numbers = old_numbers; read = read_present; same_size = sym size_present ∙ same }

  -- and one of another is compacted
  pub compacted_shard : (new : List ℕ) → l.index_size + taken slots (length slots) ≢ length old → IsRewritten index.written l.location l.index_size old slots new
      → IsCompacted index l old new
  compacted_shard new other r = record {
    old_numbers = old_numbers;
    read = read_present;
    other_size = λ same. other (size_present ∙ same);
    rewritten = record {
      numbers = r.numbers;
      counted = r.counted ∙ ap (λ m. 2 * m) h.counted;
      below = r.below;
      index = r.index;
      long = r.long ∙ size_present;
      moved = λ k below.
          let in_slots : k < length slots = omega (arith, h.counted) in
          subst (λ s. IsMoved old s (data_start l.location l.index_size + present_size (slot_at (length old) old_numbers) k) new (slot_at (length new) r.numbers k)) (h.are k below)
          (subst (λ m. IsMoved old (get_or slots k Bad) (data_start l.location l.index_size + m) new (slot_at (length new) r.numbers k)) (taken_present k (omega arith)) (r.moved k in_slots));
    };
  }
