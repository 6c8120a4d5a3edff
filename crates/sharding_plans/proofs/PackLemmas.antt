-- Slices that are packed, and the index that says where they stand.
use Rattle.std.proofs.Common.{◌≡◌, ℕ, ◌+◌, ◌-◌, ◌*◌, ◌/◌, ◌^◌, ◌<◌, ◌≤◌, if◌then◌else◌, List, length, get_or, inl, inr, refl, sym, ap, ◌∙◌, subst, arith}
use Rattle.std.specs.List.{All, range_with_len}
use Rattle.std.proofs.lemmas.List.{get_or_default}
use Rattle.std.proofs.lemmas.Bool.{le-leb}
use Rattle.std.proofs.lemmas.Bool.Decides.{eqb_tells}
use Rattle.parts_errors.specs.Words.{Elements}
use Rattle.parts_errors.specs.Order.{◌or◌then◌, Each, done, RefusedBy}
use Rattle.parts_errors.specs.declared.error.CodecError.{CodecError}
use Rattle.parts_errors.specs.declared.error.CodecError.TheVariants.{TooLarge, BadIndexEntry}
use Rattle.parts_row_major.specs.Numbering.{count_of}
use Rattle.parts_subsets.specs.Grid.{grid_of, subchunk}
use Rattle.codec_traits.specs.Meanings.{Meaning}
use Rattle.sharding_format.specs.Index.{absent_number, slot_of_entry, slot_at, data_start, data_end}
use Rattle.sharding_format.specs.Cells.{Layout}
use Rattle.sharding_format.specs.Encoding.{slot_size, stored_size, BeginsAt, AreApart, IsStoredAt, StandsAt, IsEncodingBy}
use Rattle.sharding_format.specs.Laying.{offset_number, size_number, AreNumbersOf}
use Rattle.sharding_format.specs.Compacting.{IsGood, IsMoved, present_size}
use Rattle.sharding_format.specs.Packing.{slice_of, moved_slot}
use Rattle.sharding_format.specs.WriteOrder.{numbers_in_order, numbers_before}
use Rattle.sharding_format.specs.WriteOrderLaws.{before_in_range}
use Rattle.sharding_format.specs.declared.location.ShardingIndexLocation.{ShardingIndexLocation}
use Rattle.sharding_format.specs.declared.location.ShardingIndexLocation.TheVariants.{Start, End}
use Rattle.sharding_format.specs.declared.order.SubchunkWriteOrder.TheVariants.{C}
use Rattle.sharding_format.specs.declared.slot.Slot.{Slot}
use Rattle.sharding_format.specs.declared.slot.Slot.TheVariants.{Absent, InRange, Bad}
use Rattle.sharding_format.proofs.LayingLemmas.{sum_more, sum_same, sum_grows_to}
use Rattle.sharding_format.proofs.EncodingLemmas.{other_number}
use Rattle.sharding_layout.specs.Repacking.{packed_slots}
use Rattle.sharding_layout.proofs.RepackingLemmas.{packed_in}
use Rattle.sharding_plans.specs.declared.packed.IndexPlace.{IndexPlace}
use Rattle.sharding_plans.specs.declared.packed.PackedShard.{PackedShard}
use Rattle.sharding_plans.specs.PackedShards.{IsPackedShard, slot_of_size, slots_of_sizes, AreGood, IsWrittenAs, place_of, CompactionLaw, LayOutLaw, LayOutRefusals}

-- the index of the first sizes
pub record AreSized (sizes numbers : List ℕ) (k : ℕ) : Type 0 where
  pub counted : length numbers ≡ 2 * k
  pub offsets : (j : ℕ) → j < k → get_or numbers (2 * j) 0 ≡ offset_number 0 (slots_of_sizes sizes j)
  pub sizes_are : (j : ℕ) → j < k → get_or numbers (2 * j + 1) 0 ≡ size_number (slots_of_sizes sizes j)

-- the slot that an entry of a packed slice says
pub moved_entry : (len start before : ℕ) (s : Slot) → IsGood s → start + before + slot_size s ≤ len → len < absent_number
    → slot_of_entry len (offset_number start (moved_slot s before)) (size_number (moved_slot s before)) ≡ moved_slot s (start + before)
moved_entry len start before Absent good fits small = refl
moved_entry len start before (InRange offset size) good fits small =
    rw (
      other_number (start + before) absent_number (λ same. omega (arith, same, fits, small)),
      other_number size absent_number (λ same. omega (arith, same, fits, small)),
      le-leb (start + before + size) len (omega (arith, fits)),
    ) refl
moved_entry len start before Bad good fits small = absurd good

-- the slices before one, and itself, are among all
pub ends_among : (slots : ℕ → Slot) (k n : ℕ) → k < n → present_size slots k + slot_size (slots k) ≤ present_size slots n
ends_among slots k n below = omega (arith, sum_more (λ j. slot_size (slots j)) k, sum_grows_to (λ j. slot_size (slots j)) (k + 1) n (omega (arith, below)))

start_within : (location : ShardingIndexLocation) (size : ℕ) → data_start location size ≤ size
start_within Start size = omega arith
start_within End size = omega arith

pub packed_stand : (location : ShardingIndexLocation) (size n len : ℕ) (slots : ℕ → Slot) (numbers : List ℕ) → AreGood n slots
    → AreNumbersOf (data_start location size) (packed_slots slots n) numbers n → len ≡ size + present_size slots n → len + 1 < 2 ^ 64
    → (k : ℕ) → k < n → slot_at len numbers k ≡ moved_slot (slots k) (data_start location size + present_size slots k)
unfolding slot_at
packed_stand location size n len slots numbers good are long small k below =
    let start : ℕ = data_start location size in
    rw (are.offsets k below, are.sizes k below, packed_in slots n k below)
    (moved_entry len start (present_size slots k) (slots k) (good k below) (omega (arith, long, ends_among slots k n below, start_within location size)) (omega (arith, small)))

-- their numbers have 64 bits
pub moved_fits : (start before len : ℕ) (s : Slot) → IsGood s → start + before + slot_size s ≤ len → len < 2 ^ 64
    → (offset_number start (moved_slot s before) < 2 ^ 64) × (size_number (moved_slot s before) < 2 ^ 64)
moved_fits start before len Absent good fits small = (omega arith, omega arith)
moved_fits start before len (InRange offset size) good fits small = (omega (arith, fits, small), omega (arith, fits, small))
moved_fits start before len Bad good fits small = absurd good

pub packed_below : (location : ShardingIndexLocation) (size n len : ℕ) (slots : ℕ → Slot) (numbers : List ℕ) → AreGood n slots
    → AreNumbersOf (data_start location size) (packed_slots slots n) numbers n → len ≡ size + present_size slots n → len + 1 < 2 ^ 64
    → All (λ m. m < 2 ^ 64) numbers
packed_below location size n len slots numbers good are long small = λ k d inside.
    let j : ℕ = k / 2 in
    let below : j < n = omega (arith, are.counted, inside) in
    let fits = moved_fits (data_start location size) (present_size slots j) len (slots j) (good j below)
    (omega (arith, long, ends_among slots j n below, start_within location size)) (omega (arith, small)) in
    rw (get_or_default numbers k d 0 inside) (elim (eqb_tells k (2 * j)) [
      | inl even ↦ rw (even.1, are.offsets j below, packed_in slots n j below) fits.0
      | inr odd ↦
          let next : k ≡ 2 * j + 1 = omega (arith, odd.1) in
          rw (next, are.sizes j below, packed_in slots n j below) fits.1
    ])

-- a slice of a size begins at 0
pub sized_entry : (size : ℕ) → size < 2 ^ 64 → slot_of_entry (2 ^ 64 - 2) (offset_number 0 (slot_of_size size)) (size_number (slot_of_size size)) ≡ slot_of_size size
sized_entry size fits = elim (eqb_tells size absent_number) [
  | inl same ↦ rw same.0 refl
  | inr other ↦
      let within : 0 + size ≤ 2 ^ 64 - 2 = omega (arith, fits, other.1) in
      rw (other.0, other.0, le-leb (0 + size) (2 ^ 64 - 2) within) refl
]

pub sized_stand : (sizes numbers : List ℕ) (n : ℕ) → ((k : ℕ) → k < n → get_or sizes k 0 < 2 ^ 64) → AreSized sizes numbers n → (k : ℕ) → k < n → slot_at (2 ^ 64 - 2) numbers k ≡ slots_of_sizes sizes k
unfolding slot_at
sized_stand sizes numbers n fit are k below = rw (are.offsets k below, are.sizes_are k below) (sized_entry (get_or sizes k 0) (fit k below))

-- the copies of a compaction
copied_slot : (old new : List ℕ) (s t : Slot) (write_offset : ℕ) → IsGood s → t ≡ moved_slot s write_offset → slice_of new t ≡ slice_of old s
    → IsMoved old s write_offset new t
copied_slot old new Absent t write_offset good is same = is
copied_slot old new (InRange offset size) t write_offset good is same = (is, rw is at same)
copied_slot old new Bad t write_offset good is same = absurd good

pub the_compaction_law : (index : Meaning) → CompactionLaw index
the_compaction_law index = record {
  copied = λ l old old_numbers new shard good is written same. record {
    numbers = shard.numbers.items;
    counted = is.counted;
    below = is.below;
    index = written.index;
    long = written.long ∙ is.long;
    moved = λ k below. rw written.long
        (copied_slot old new (slot_at (length old) old_numbers k) (slot_at shard.len shard.numbers.items k)
        (data_start l.location l.index_size + present_size (slot_at (length old) old_numbers) k) (good k below) (is.stand k below) (same k below));
  };
  kept = λ l old numbers told good same. record { numbers = numbers; read = record { told = told; good = good }; same_size = same };
}

-- other slots of the same sizes
pub packed_like : (place : IndexPlace) (n : ℕ) (slots like : ℕ → Slot) (shard : PackedShard) → ((k : ℕ) → k < n → slots k ≡ like k)
    → IsPackedShard place n slots shard → IsPackedShard place n like shard
packed_like place n slots like shard same is =
    let sizes : (k : ℕ) → k ≤ n → present_size slots k ≡ present_size like k =
    λ k le. sum_same (λ j. slot_size (slots j)) (λ j. slot_size (like j)) k (λ j lt. ap slot_size (same j (omega (arith, lt, le)))) in
    record {
      counted = is.counted;
      below = is.below;
      long = is.long ∙ ap (λ m. place.size + m) (sizes n (omega arith));
      small = is.small;
      stand = λ k lt. is.stand k lt ∙ (ap (λ s. moved_slot s (data_start place.location place.size + present_size slots k)) (same k lt)
          ∙ ap (λ m. moved_slot (like k) (data_start place.location place.size + m)) (sizes k (omega (arith, lt))));
    }

-- encoded subchunks that are laid out
module _ (inner index : Meaning) (l : Layout) (array : Elements) (sizes object : List ℕ) (shard : PackedShard) (in_order_c : l.order ≡ C)
    (is : IsPackedShard (place_of l) (count_of (grid_of l.shape l.sub)) (slots_of_sizes sizes) shard) (written : IsWrittenAs index.written l shard object)
    (stored : (k : ℕ) → k < count_of (grid_of l.shape l.sub)
    → IsStoredAt inner.written l.fill (λ offset size. Unit {0}) (subchunk l.shape l.sub array k) object (slot_at shard.len shard.numbers.items k)) where
  abbrev n : ℕ
  n = count_of (grid_of l.shape l.sub)

  abbrev slots : ℕ → Slot
  slots = slots_of_sizes sizes

  abbrev start : ℕ
  start = data_start l.location l.index_size

  at : (k : ℕ) → k < n → slot_at (length object) shard.numbers.items k ≡ moved_slot (slots k) (start + present_size slots k)
  at k below = rw written.long (is.stand k below)

  sized : (s : Slot) (write_offset : ℕ) → slot_size (moved_slot s write_offset) ≡ slot_size s
  sized Absent write_offset = refl
  sized (InRange offset size) write_offset = refl
  sized Bad write_offset = refl

  all_sizes : (k : ℕ) → k ≤ n → stored_size (slot_at (length object) shard.numbers.items) (range_with_len 0 k) ≡ present_size slots k
  all_sizes k le =
      sum_same (λ j. slot_size (slot_at (length object) shard.numbers.items j)) (λ j. slot_size (slots j)) k
      (λ j lt. ap slot_size (at j (omega (arith, lt, le))) ∙ sized (slots j) (start + present_size slots j))

  end_of_data : (location : ShardingIndexLocation) (size len total : ℕ) → len ≡ size + total → data_start location size + total ≤ data_end location size len
  end_of_data Start size len total h = omega (arith, h)
  end_of_data End size len total h = omega (arith, h)

  stands : (s t : Slot) (before : ℕ) (e : Elements) → t ≡ moved_slot s (start + before) → before + slot_size s ≤ present_size slots n
      → IsStoredAt inner.written l.fill (λ offset size. Unit {0}) e object t → StandsAt inner.written l object e t
  stands Absent t before e is_t fits h = rw is_t (rw is_t at h)
  stands (InRange offset size) t before e is_t fits h =
      let was = rw is_t at h in
      rw is_t (was.0, was.1, (omega arith, omega (arith, fits, end_of_data l.location l.index_size (length object) (present_size slots n) (written.long ∙ is.long))))
  stands Bad t before e is_t fits h = absurd (rw is_t at h)

  apart : (s t a b : Slot) (p q : ℕ) → a ≡ moved_slot s p → b ≡ moved_slot t q → p + slot_size s ≤ q → AreApart a b
  apart Absent t a b p q is_a is_b le = rw is_a tt
  apart (InRange o m) Absent a b p q is_a is_b le = rw (is_a, is_b) tt
  apart (InRange o m) (InRange r size) a b p q is_a is_b le = rw (is_a, is_b) (λ i from before after inside. omega (arith, le, from, before, after, inside))
  apart (InRange o m) Bad a b p q is_a is_b le = rw (is_a, is_b) tt
  apart Bad t a b p q is_a is_b le = rw is_a tt

  begins : (s a : Slot) (p : ℕ) → a ≡ moved_slot s p → BeginsAt p a
  begins Absent a p is_a = rw is_a tt
  begins (InRange o m) a p is_a = rw is_a refl
  begins Bad a p is_a = rw is_a tt

  ordered : numbers_in_order l.order (grid_of l.shape l.sub) ≡ range_with_len 0 n
  unfolding numbers_in_order
  ordered = ap (λ o. numbers_in_order o (grid_of l.shape l.sub)) in_order_c

  pub laid_out : IsEncodingBy inner.written index.written l array object shard.numbers.items
  laid_out = record {
    long_enough = omega (arith, written.long, is.long);
    counted = is.counted;
    below = is.below;
    index = written.index;
    stand = λ k below. stands (slots k) (slot_at (length object) shard.numbers.items k) (present_size slots k) (subchunk l.shape l.sub array k) (at k below)
        (ends_among slots k n below) (rw written.long (stored k below));
    apart = λ j k before below.
        apart (slots j) (slots k) (slot_at (length object) shard.numbers.items j) (slot_at (length object) shard.numbers.items k)
        (start + present_size slots j) (start + present_size slots k) (at j (omega (arith, before, below))) (at k below)
        (omega (arith, ends_among slots j k before));
    filled = ap (λ m. l.index_size + m) (all_sizes n (omega arith)) ∙ (sym is.long ∙ sym written.long);
    in_order = λ some k below.
        let before : numbers_before k (numbers_in_order l.order (grid_of l.shape l.sub)) ≡ range_with_len 0 k =
        ap (numbers_before k) ordered ∙ before_in_range n k below in
        rw (before, all_sizes k (omega (arith, below))) (begins (slots k) (slot_at (length object) shard.numbers.items k) (start + present_size slots k) (at k below));
  }

pub the_lay_out_law : (inner index : Meaning) → LayOutLaw inner index
the_lay_out_law inner index = record {
  laid = λ l array sizes object shard c is written stored. laid_out inner index l array sizes object shard c is written stored;
}

pub sized_good : (size : ℕ) → IsGood (slot_of_size size)
sized_good size = elim (eqb_tells size absent_number) [ inl same ↦ rw same.0 tt | inr other ↦ rw other.0 tt ]

-- laying out is refused only for its length
pub sizes_refused : (place : IndexPlace) (n : ℕ) (slots : ℕ → Slot) (sizes : List ℕ) (e : CodecError) → ((k : ℕ) → k < n → slots k ≡ slots_of_sizes sizes k)
    → RefusedBy (Each n (λ k. IsGood (slots k)) (λ k. BadIndexEntry k) (place.size + present_size slots n + 1 < 2 ^ 64 or TooLarge then done)) e
    → RefusedBy (place.size + present_size (slots_of_sizes sizes) n + 1 < 2 ^ 64 or TooLarge then done) e
sizes_refused place n slots sizes e same h =
    let total : present_size slots n ≡ present_size (slots_of_sizes sizes) n =
    sum_same (λ j. slot_size (slots j)) (λ j. slot_size (slots_of_sizes sizes j)) n (λ j lt. ap slot_size (same j lt)) in
    elim h [
      | inl memory ↦ inl memory
      | inr refused ↦ elim refused [
        | inl bad ↦ absurd (bad.1.2 (rw (same bad.0 bad.1.0) (sized_good (get_or sizes bad.0 0))))
        | inr later ↦ inr (rw total at later.1)
      ]
    ]

module _ (place : IndexPlace) (count len : ℕ) (sizes numbers : List ℕ) (counted : length numbers ≡ 2 * length sizes) (all : length sizes ≡ count)
    (same : (k : ℕ) → k < length sizes → slot_at len numbers k ≡ slots_of_sizes sizes k) where
  many : length numbers / 2 ≡ count
  many = omega (arith, counted, all)

  pub laid_of_sizes : (shard : PackedShard) → IsPackedShard place (length numbers / 2) (slot_at len numbers) shard → IsPackedShard place count (slots_of_sizes sizes) shard
  laid_of_sizes shard is =
      packed_like place count (slot_at len numbers) (slots_of_sizes sizes) shard (λ k lt. same k (omega (arith, lt, all)))
      (subst (λ n. IsPackedShard place n (slot_at len numbers) shard) many is)

  pub lay_out_refused : (shape sub : List ℕ) (e : CodecError) → count ≡ count_of (grid_of shape sub)
      → RefusedBy (Each (length numbers / 2) (λ k. IsGood (slot_at len numbers k)) (λ k. BadIndexEntry k)
      (place.size + present_size (slot_at len numbers) (length numbers / 2) + 1 < 2 ^ 64 or TooLarge then done)) e
      → RefusedBy (LayOutRefusals shape sub place sizes) e
  lay_out_refused shape sub e is h =
      let cut = sizes_refused place (length numbers / 2) (slot_at len numbers) sizes e (λ k lt. same k (omega (arith, lt, counted))) h in
      elim (subst (λ n. RefusedBy (place.size + present_size (slots_of_sizes sizes) n + 1 < 2 ^ 64 or TooLarge then done) e) (many ∙ is) cut) [
        | inl memory ↦ inl memory
        | inr refused ↦ inr (inr (all ∙ is, refused))
      ]
