-- A compaction of a shard that holds an array is an encoding of it, in order `C`.
use Rattle.std.proofs.Common.{◌≡◌, ℕ, ◌+◌, ◌<◌, ◌≤◌, List, Option, Some, length, map, refl, sym, ap, ◌∙◌, subst, arith}
use Rattle.std.specs.List.{range_with_len, sum_by}
use Rattle.parts_arrays.specs.ArraySpec.{ArraySpec, IsArrayOf}
use Rattle.parts_row_major.specs.Numbering.{count_of}
use Rattle.parts_subsets.specs.Grid.{grid_of, Divides, subchunk}
use Rattle.codec_traits.specs.Meanings.{Meaning}
use Rattle.sharding_format.specs.Index.{slot_at, data_start, data_end, index_spec}
use Rattle.sharding_format.specs.Cells.{Layout}
use Rattle.sharding_format.specs.Encoding.{StandsAt, AreApart, BeginsAt, slot_size, IsEncodingBy, IsEncoding}
use Rattle.sharding_format.specs.Compacting.{IsMoved, IsCompaction, IsCompacted, present_size}
use Rattle.sharding_format.specs.Holding.{Holds}
use Rattle.sharding_format.specs.Laws.{numbers_of_index}
use Rattle.sharding_format.specs.Scratch.{scratch}
use Rattle.sharding_format.specs.ScratchLaws.{scratch_of_encoding}
use Rattle.sharding_format.specs.Serves.{subchunk_spec, layout_of}
use Rattle.sharding_format.specs.declared.slot.Slot.{Slot}
use Rattle.sharding_format.specs.declared.slot.Slot.TheVariants.{Absent, InRange, Bad}
use Rattle.sharding_format.specs.declared.order.SubchunkWriteOrder.{SubchunkWriteOrder}
use Rattle.sharding_format.specs.declared.order.SubchunkWriteOrder.TheVariants.{C}
use Rattle.sharding_format.specs.declared.location.ShardingIndexLocation.{ShardingIndexLocation}
use Rattle.sharding_format.specs.declared.location.ShardingIndexLocation.TheVariants.{Start, End}
use Rattle.sharding_format.specs.WriteOrder.{numbers_in_order}
use Rattle.sharding_format.specs.WriteOrderLaws.{before_in_range}
use Rattle.sharding_format.proofs.LayingLemmas.{sum_more, sum_same, sum_grows_to}

-- the data part of a shard has room for all that follows the index
room_after : (location : ShardingIndexLocation) (size taken len : ℕ) → len ≡ size + taken → data_start location size + taken ≤ data_end location size len
room_after Start size taken len h = omega arith
room_after End size taken len h = omega arith

-- a subchunk moves with its slice
stands_moved : (inner_written : List (List ℕ) → List ℕ → Type 0) (sub : List ℕ) (location : ShardingIndexLocation) (order : SubchunkWriteOrder) (size : ℕ) (g : ArraySpec)
    (old new : List ℕ) (e : List (List ℕ)) (s t : Slot) (write_offset : ℕ)
    → IsMoved old s write_offset new t
    → data_start location size ≤ write_offset → write_offset + slot_size s ≤ data_end location size (length new)
    → StandsAt inner_written (layout_of sub location order size g) old e s
    → StandsAt inner_written (layout_of sub location C size g) new e t
stands_moved inner_written sub location order size g old new e Absent t write_offset moved appended inside h = rw moved h
stands_moved inner_written sub location order size g old new e (InRange offset n) t write_offset moved appended inside h =
    rw moved.0 (h.0, subst (inner_written e) (sym moved.1) h.1, (appended, inside))
stands_moved inner_written sub location order size g old new e Bad t write_offset moved appended inside h = absurd h

begins_moved : (old new : List ℕ) (s t : Slot) (write_offset : ℕ) → IsMoved old s write_offset new t → BeginsAt write_offset t
begins_moved old new Absent t write_offset h = rw h tt
begins_moved old new (InRange offset n) t write_offset h = rw h.0 refl
begins_moved old new Bad t write_offset h = absurd h

pub size_moved : (old new : List ℕ) (s t : Slot) (write_offset : ℕ) → IsMoved old s write_offset new t → slot_size t ≡ slot_size s
size_moved old new Absent t write_offset h = rw h refl
size_moved old new (InRange offset n) t write_offset h = rw h.0 refl
size_moved old new Bad t write_offset h = absurd h

-- of two slots that begin at two places, the first ends before the second place
apart_begun : (p q : ℕ) (s t : Slot) → BeginsAt p s → BeginsAt q t → p + slot_size s ≤ q → AreApart s t
apart_begun p q Absent t h k below = tt
apart_begun p q (InRange o n) Absent h k below = tt
apart_begun p q (InRange o n) (InRange r m) h k below = λ i from before after inside. omega (arith, h, k, below, from, before, after, inside)
apart_begun p q (InRange o n) Bad h k below = tt
apart_begun p q Bad t h k below = tt

-- slices of subchunks, laid end to end, are an encoding: where they stood before is all that counts
pub encoding_of_compaction : (inner_written index_written : List (List ℕ) → List ℕ → Type 0)
    (sub : List ℕ) (location : ShardingIndexLocation) (order : SubchunkWriteOrder) (size : ℕ) (g : ArraySpec) (a : List (List ℕ)) (old numbers new : List ℕ)
    → ((k : ℕ) → k < count_of (grid_of g.shape sub) → StandsAt inner_written (layout_of sub location order size g) old (subchunk g.shape sub a k) (slot_at (length old) numbers k))
    → (r : IsCompaction index_written (layout_of sub location order size g) old numbers new)
    → IsEncodingBy inner_written index_written (layout_of sub location C size g) a new r.numbers
unfolding numbers_in_order
encoding_of_compaction inner_written index_written sub location order size g a old numbers new stand r =
    let n : ℕ = count_of (grid_of g.shape sub) in
    let start : ℕ = data_start location size in
    let was : ℕ → Slot = λ k. slot_at (length old) numbers k in
    let is : ℕ → Slot = λ k. slot_at (length new) r.numbers k in
    let before : ℕ → ℕ = λ k. present_size was k in
    let sized : (k : ℕ) → k < n → slot_size (is k) ≡ slot_size (was k) = λ k below. size_moved old new (was k) (is k) (start + before k) (r.moved k below) in
    let sums : (k : ℕ) → k ≤ n → sum_by (λ j. slot_size (is j)) (range_with_len 0 k) ≡ before k =
    λ k upto. sum_same (λ j. slot_size (is j)) (λ j. slot_size (was j)) k (λ j below. sized j (omega arith)) in
    let begins : (k : ℕ) → k < n → BeginsAt (start + before k) (is k) = λ k below. begins_moved old new (was k) (is k) (start + before k) (r.moved k below) in
    let ends : (j k : ℕ) → j < k → before j + slot_size (was j) ≤ before k =
    λ j k below. omega (arith, sum_more (λ i. slot_size (was i)) j, sum_grows_to (λ i. slot_size (was i)) (j + 1) k (omega arith)) in
    let room : start + before n ≤ data_end location size (length new) = room_after location size (before n) (length new) r.long in
    record {
      long_enough = omega (arith, r.long);
      counted = r.counted;
      below = r.below;
      index = r.index;
      stand = λ k below. stands_moved inner_written sub location order size g old new (subchunk g.shape sub a k) (was k) (is k) (start + before k)
          (r.moved k below) (omega arith) (omega (arith, room, ends k n below)) (stand k below);
      apart = λ j k earlier below.
          apart_begun (start + before j) (start + before k) (is j) (is k) (begins j (omega arith)) (begins k below) (omega (arith, sized j (omega arith), ends j k earlier));
      filled = omega (arith, sums n (omega arith), r.long);
      in_order = λ _ k below.
          subst (λ p. BeginsAt (start + p) (is k)) (sym (ap (sum_by (λ j. slot_size (is j))) (before_in_range n k below) ∙ sums k (omega arith))) (begins k below);
    }

some_same : (x y : List ℕ) → Some x ≡ Some y → x ≡ y
some_same x y h = cc

-- an encoding holds its array
pub holds_encoded : (index_cells : List ℕ → List (Option (List ℕ))) (inner_written index_written : List (List ℕ) → List ℕ → Type 0)
    (sub : List ℕ) (location : ShardingIndexLocation) (order : SubchunkWriteOrder) (size : ℕ) (g : ArraySpec) (a : List (List ℕ)) (b : List ℕ)
    → ((e : List (List ℕ)) (bytes : List ℕ) → IsArrayOf (index_spec (grid_of g.shape sub)) e → index_written e bytes → index_cells bytes ≡ map Some e)
    → IsEncoding inner_written index_written (layout_of sub location order size g) a b
    → Holds inner_written index_cells (layout_of sub location order size g) a b
holds_encoded index_cells inner_written index_written sub location order size g a b law h =
    let by = h.holds in
    record {
      numbers = h.numbers;
      told = numbers_of_index index_cells index_written sub g location size b h.numbers law by.long_enough by.counted by.below by.index;
      stand = by.stand;
    }

-- a shard that is compacted from one that holds an array is an encoding of it in order `C`
pub encoding_of_compacted : (index : Meaning) (inner_written : List (List ℕ) → List ℕ → Type 0)
    (sub : List ℕ) (location : ShardingIndexLocation) (order : SubchunkWriteOrder) (size : ℕ) (g : ArraySpec) (a : List (List ℕ)) (old new : List ℕ)
    → Holds inner_written index.cells (layout_of sub location order size g) a old
    → IsCompacted index (layout_of sub location order size g) old new
    → IsEncoding inner_written index.written (layout_of sub location C size g) a new
encoding_of_compacted index inner_written sub location order size g a old new h c =
    let l : Layout = layout_of sub location order size g in
    let same : c.old_numbers ≡ h.numbers = some_same c.old_numbers h.numbers (sym c.read.told ∙ h.told) in
    let moved : IsCompaction index.written l old h.numbers new = subst (λ ns. IsCompaction index.written l old ns new) same c.rewritten in
    record {
      numbers = moved.numbers;
      holds = encoding_of_compaction inner_written index.written sub location order size g a old h.numbers new h.stand moved;
    }

-- and the one that is made from scratch, where each codec has one encoding of an array
pub scratch_of_compacted : (index : Meaning) (inner_written : List (List ℕ) → List ℕ → Type 0) (inner_encoding index_encoding : List (List ℕ) → List ℕ)
    (sub : List ℕ) (location : ShardingIndexLocation) (order : SubchunkWriteOrder) (size : ℕ) (g : ArraySpec) (a : List (List ℕ)) (old new : List ℕ)
    → Divides sub g.shape → IsArrayOf g a
    → ((e : List (List ℕ)) (bytes : List ℕ) → IsArrayOf (subchunk_spec sub g) e → inner_written e bytes → bytes ≡ inner_encoding e)
    → ((e : List (List ℕ)) (bytes : List ℕ) → IsArrayOf (index_spec (grid_of g.shape sub)) e → index.written e bytes → bytes ≡ index_encoding e)
    → Holds inner_written index.cells (layout_of sub location order size g) a old
    → IsCompacted index (layout_of sub location order size g) old new
    → new ≡ scratch inner_encoding index_encoding (layout_of sub location order size g) a
scratch_of_compacted index inner_written inner_encoding index_encoding sub location order size g a old new divides array inner_law index_law h c =
    scratch_of_encoding inner_written index.written inner_encoding index_encoding sub location size g a new divides array inner_law index_law
    (encoding_of_compacted index inner_written sub location order size g a old new h c)
