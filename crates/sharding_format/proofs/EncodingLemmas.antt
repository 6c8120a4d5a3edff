-- An index and slices laid end to end are an encoding of a shard.
use Rattle.std.proofs.Common.{◌≡◌, ℕ, ◌+◌, ◌-◌, ◌*◌, ◌<◌, ◌≤◌, inl, inr, false, eqb, List, ◌++◌, length, map, get_or, take, drop, refl, sym, ap, ◌∙◌, subst, arith, IsPermutation, length-append, length-drop}
use Rattle.std.specs.List.{range_with_len, sum_by}
use Rattle.std.proofs.Math.Seq.{take-append_seam, drop-append_seam, drop-append-add}
use Rattle.std.proofs.lemmas.List.{take-append-le, drop-append-le}
use Rattle.std.proofs.lemmas.Bool.{le-leb, cases_lt}
use Rattle.std.proofs.lemmas.List.Sums.{sum_by_more}
use Rattle.std.proofs.lemmas.Bool.Decides.{eqb_tells}
use Rattle.parts_arrays.specs.ArraySpec.{ArraySpec}
use Rattle.parts_row_major.specs.Numbering.{count_of}
use Rattle.parts_subsets.specs.Grid.{grid_of, subchunk}
use Rattle.sharding_format.specs.Cells.{Layout}
use Rattle.sharding_format.specs.Index.{absent_number, slot_of_entry, slot_at, index_part, data_start, data_end, element_of_number}
use Rattle.sharding_format.specs.Encoding.{StandsAt, AreApart, slot_size, BeginsAt, IsEncoding}
use Rattle.sharding_format.specs.Laying.{IsStoredIn, taken_by, IsStoredInOrder, offset_number, size_number, EndsBelow, IsIndexOf, whole_shard}
use Rattle.sharding_format.specs.Serves.{layout_of}
use Rattle.sharding_format.specs.WriteOrder.{numbers_in_order, numbers_before}
use Rattle.sharding_format.specs.WriteOrderLaws.{order_permutes, order_counted, order_below, order_has, before_at}
use Rattle.sharding_format.proofs.LayingLemmas.{sum_take_same, sum_take_grows, sum_of_order, stored_number}
use Rattle.sharding_format.specs.declared.slot.Slot.{Slot}
use Rattle.sharding_format.specs.declared.slot.Slot.TheVariants.{Absent, InRange, Bad}
use Rattle.sharding_format.specs.declared.order.SubchunkWriteOrder.{SubchunkWriteOrder}
use Rattle.sharding_format.specs.declared.location.ShardingIndexLocation.{ShardingIndexLocation}
use Rattle.sharding_format.specs.declared.location.ShardingIndexLocation.TheVariants.{Start, End}

-- how an index and a data part stand in a shard
pub record Whole (location : ShardingIndexLocation) (size : ℕ) (index bytes all : List ℕ) : Type 0 where
  pub len : length all ≡ size + length bytes
  pub index_is : index_part location size all ≡ index
  pub slice : (o n : ℕ) → o + n ≤ length bytes → take n (drop (data_start location size + o) all) ≡ take n (drop o bytes)
  pub inside : data_start location size + length bytes ≤ data_end location size (length all)
  pub start_small : data_start location size ≤ size

plain_plus : (o : ℕ) → 0 + o ≡ o
plain_plus o = omega arith

pub whole_of : (location : ShardingIndexLocation) (size : ℕ) (index bytes : List ℕ) → length index ≡ size → Whole location size index bytes (whole_shard location index bytes)
whole_of Start size index bytes h = record {
  len = omega (arith, length-append index bytes, h);
  index_is = ap (λ n. take n (index ++ bytes)) (sym h) ∙ take-append_seam index bytes;
  slice = λ o n below. ap (λ m. take n (drop (m + o) (index ++ bytes))) (sym h) ∙ ap (take n) (drop-append-add index bytes o);
  inside = omega (arith, length-append index bytes, h);
  start_small = omega arith;
}
whole_of End size index bytes h =
    let before : length (bytes ++ index) - size ≡ length bytes = omega (arith, length-append bytes index, h) in
    record {
      len = omega (arith, length-append bytes index, h);
      index_is = ap (λ n. drop n (bytes ++ index)) before ∙ drop-append_seam bytes index;
      slice = λ o n below. ap (λ m. take n (drop m (bytes ++ index))) (plain_plus o) ∙ ap (take n) (drop-append-le o bytes index (omega arith)) ∙ take-append-le n (drop o bytes) index (omega (arith, length-drop o bytes));
      inside = omega (arith, length-append bytes index, h);
      start_small = omega arith;
    }

-- a slot of the data part in the shard
abbrev pub shifted : ℕ → Slot → Slot
shifted start Absent = Absent
shifted start (InRange offset size) = InRange (start + offset) size
shifted start Bad = Bad

pub other_number : (a b : ℕ) → (¬ (a ≡ b)) → eqb a b ≡ false
other_number a b h = elim (eqb_tells a b) [ inl same ↦ absurd (h same.1) | inr other ↦ other.0 ]

pub shifted_entry : (inner_written : List (List ℕ) → List ℕ → Type 0) (fill : List ℕ) (e : List (List ℕ)) (bytes : List ℕ) (start len : ℕ) (s : Slot)
    → IsStoredIn inner_written fill e bytes s → start + length bytes ≤ len → start + length bytes < absent_number
    → slot_of_entry len (offset_number start s) (size_number s) ≡ shifted start s
shifted_entry inner_written fill e bytes start len Absent h room small = refl
shifted_entry inner_written fill e bytes start len (InRange offset size) h room small =
    rw (
      other_number (start + offset) absent_number (λ same. omega (arith, same, h.2, small)),
      other_number size absent_number (λ same. omega (arith, same, h.2, small)),
      le-leb (start + offset + size) len (omega (arith, h.2, room)),
    ) refl
shifted_entry inner_written fill e bytes start len Bad h room small = absurd h

pub stands_shifted : (inner_written : List (List ℕ) → List ℕ → Type 0) (l : Layout) (e : List (List ℕ)) (index bytes all : List ℕ) (s : Slot)
    → Whole l.location l.index_size index bytes all → IsStoredIn inner_written l.fill e bytes s
    → StandsAt inner_written l all e (shifted (data_start l.location l.index_size) s)
stands_shifted inner_written l e index bytes all Absent w h = h
stands_shifted inner_written l e index bytes all (InRange offset size) w h =
    (h.0, rw (w.slice offset size h.2) h.1, (omega arith, omega (arith, h.2, w.inside)))
stands_shifted inner_written l e index bytes all Bad w h = absurd h

apart_shifted : (start p q : ℕ) (s t : Slot) → BeginsAt p s → BeginsAt q t → p + slot_size s ≤ q → AreApart (shifted start s) (shifted start t)
apart_shifted start p q Absent t h k below = tt
apart_shifted start p q (InRange o n) Absent h k below = tt
apart_shifted start p q (InRange o n) (InRange r m) h k below = λ i from before after inside. omega (arith, h, k, below, from, before, after, inside)
apart_shifted start p q (InRange o n) Bad h k below = tt
apart_shifted start p q Bad t h k below = tt

-- two slots are apart whichever is named first
apart_turned : (s t : Slot) → AreApart s t → AreApart t s
apart_turned Absent Absent h = tt
apart_turned Absent (InRange p m) h = tt
apart_turned Absent Bad h = tt
apart_turned (InRange o n) Absent h = tt
apart_turned (InRange o n) (InRange p m) h = λ i from before after inside. h i after inside from before
apart_turned (InRange o n) Bad h = tt
apart_turned Bad Absent h = tt
apart_turned Bad (InRange p m) h = tt
apart_turned Bad Bad h = tt

pub size_shifted : (start : ℕ) (s : Slot) → slot_size (shifted start s) ≡ slot_size s
size_shifted start Absent = refl
size_shifted start (InRange o n) = refl
size_shifted start Bad = refl

pub begins_shifted : (start p : ℕ) (s : Slot) → BeginsAt p s → BeginsAt (start + p) (shifted start s)
begins_shifted start p Absent h = tt
begins_shifted start p (InRange o n) h = ap (λ (x : ℕ). start + x) h
begins_shifted start p Bad h = tt

-- the slots of two places of an order are apart
module _ (inner_written : List (List ℕ) → List ℕ → Type 0) (fill shape sub : List ℕ) (a : List (List ℕ)) (bytes : List ℕ) (slots : List Slot) (order : List ℕ) (n start : ℕ)
    (counted : length order ≡ n) (h : IsStoredInOrder inner_written fill shape sub a bytes slots order n) where
  abbrev slot_of_position : ℕ → Slot
  slot_of_position i = shifted start (get_or slots (get_or order i 0) Bad)

  apart_in_order : (i j : ℕ) → i < j → j < n → AreApart (slot_of_position i) (slot_of_position j)
  apart_in_order i j before below =
      let f : ℕ → ℕ = λ m. slot_size (get_or slots m Bad) in
      apart_shifted start (taken_by slots (take i order)) (taken_by slots (take j order)) (get_or slots (get_or order i 0) Bad) (get_or slots (get_or order j 0) Bad)
      (h.begins i (omega arith)) (h.begins j below)
      (omega (arith, sum_by_more f order i 0 (omega arith), sum_take_grows f order (i + 1) j (omega arith)))

  pub apart_positions : (i j : ℕ) → i < n → j < n → ¬ (i ≡ j) → AreApart (slot_of_position i) (slot_of_position j)
  apart_positions i j i_below j_below other =
      elim (cases_lt i j) [
        | inl less ↦ apart_in_order i j less j_below
        | inr more ↦ apart_turned (slot_of_position j) (slot_of_position i) (apart_in_order j i (omega arith) i_below)
      ]

-- the shard is an encoding of the array
pub encoded_shard : (inner_written index_written : List (List ℕ) → List ℕ → Type 0) (sub : List ℕ) (location : ShardingIndexLocation) (order : SubchunkWriteOrder) (size : ℕ) (g : ArraySpec) (a : List (List ℕ)) (bytes index all : List ℕ) (slots : List Slot)
    → IsStoredInOrder inner_written g.fill g.shape sub a bytes slots (numbers_in_order order (grid_of g.shape sub)) (count_of (grid_of g.shape sub))
    → IsIndexOf index_written (data_start location size) slots index
    → length index ≡ size → size + length bytes < absent_number → all ≡ whole_shard location index bytes
    → IsEncoding inner_written index_written (layout_of sub location order size g) a all
unfolding slot_at
encoded_shard inner_written index_written sub location order size g a bytes index all slots h i sized small is =
    let l : Layout = layout_of sub location order size g in
    let n : ℕ = count_of (grid_of g.shape sub) in
    let numbers : List ℕ = numbers_in_order order (grid_of g.shape sub) in
    let permutes : IsPermutation (range_with_len 0 n) numbers = order_permutes order (grid_of g.shape sub) in
    let counted : length numbers ≡ n = order_counted n numbers permutes in
    let start : ℕ = data_start location size in
    let w : Whole location size index bytes all = subst (Whole location size index bytes) (sym is) (whole_of location size index bytes sized) in
    let in_slots : (k : ℕ) → k < n → k < length slots = λ k below. omega (arith, below, h.counted, counted) in
    let stored_slices : (k : ℕ) → k < n → IsStoredIn inner_written g.fill (subchunk g.shape sub a k) bytes (get_or slots k Bad) =
    λ k below. stored_number inner_written g.fill g.shape sub a bytes slots numbers n k permutes h below in
    let at : (k : ℕ) → k < n → slot_at (length all) i.numbers k ≡ shifted start (get_or slots k Bad) =
    λ k below. rw (i.are.offsets k (in_slots k below), i.are.sizes k (in_slots k below))
    (shifted_entry inner_written g.fill (subchunk g.shape sub a k) bytes start (length all) (get_or slots k Bad) (stored_slices k below)
    (omega (arith, w.len, w.start_small)) (omega (arith, small, w.start_small))) in
    let size_of : ℕ → ℕ = λ j. slot_size (slot_at (length all) i.numbers j) in
    let sized_as : (j : ℕ) → j < n → size_of j ≡ slot_size (get_or slots j Bad) =
    λ j below. ap slot_size (at j below) ∙ size_shifted start (get_or slots j Bad) in
    let sums : (k : ℕ) → k ≤ n → sum_by size_of (take k numbers) ≡ taken_by slots (take k numbers) =
    λ k upto. sum_take_same size_of (λ j. slot_size (get_or slots j Bad)) numbers k (omega (arith, counted))
    (λ j below. sized_as (get_or numbers j 0) (order_below n numbers j permutes (omega arith))) in
    record {
      numbers = i.numbers;
      holds = record {
        long_enough = omega (arith, w.len);
        counted = i.are.counted ∙ ap (λ m. 2 * m) (h.counted ∙ counted);
        below = i.below;
        index = subst (index_written (map element_of_number i.numbers)) (sym w.index_is) i.written;
        stand = λ k below. subst (StandsAt inner_written l all (subchunk g.shape sub a k)) (sym (at k below))
            (stands_shifted inner_written l (subchunk g.shape sub a k) index bytes all (get_or slots k Bad) w (stored_slices k below));
        apart = λ j k before below.
            let j_in : j < n = omega arith in
            let of_j = order_has n numbers j permutes j_in in
            let of_k = order_has n numbers k permutes below in
            let other : ¬ (of_j.position ≡ of_k.position) = λ same. omega (arith, of_j.is, of_k.is, ap (λ m. get_or numbers m 0) same) in
            subst (λ s. AreApart s (slot_at (length all) i.numbers k)) (sym (at j j_in))
            (subst (λ t. AreApart (shifted start (get_or slots j Bad)) t) (sym (at k below))
            (subst (λ m. AreApart (shifted start (get_or slots j Bad)) (shifted start (get_or slots m Bad))) of_k.is
            (subst (λ m. AreApart (shifted start (get_or slots m Bad)) (shifted start (get_or slots (get_or numbers of_k.position 0) Bad))) of_j.is
            (apart_positions inner_written g.fill g.shape sub a bytes slots numbers n start counted h of_j.position of_k.position
            (omega (arith, of_j.inside)) (omega (arith, of_k.inside)) other))));
        filled = omega (arith, sum_of_order size_of n numbers permutes, sums n (omega arith), h.filled, w.len);
        in_order = λ ordered k below.
            let found = order_has n numbers k permutes below in
            let inside : found.position < n = omega (arith, found.inside) in
            let before : numbers_before k numbers ≡ take found.position numbers = before_at n numbers found.position k permutes inside found.is in
            let begins : BeginsAt (taken_by slots (take found.position numbers)) (get_or slots k Bad) =
            subst (λ m. BeginsAt (taken_by slots (take found.position numbers)) (get_or slots m Bad)) found.is (h.begins found.position inside) in
            subst (λ p. BeginsAt (start + p) (slot_at (length all) i.numbers k)) (sym (ap (sum_by size_of) before ∙ sums found.position (omega arith)))
            (subst (BeginsAt (start + taken_by slots (take found.position numbers))) (sym (at k below)) (begins_shifted start (taken_by slots (take found.position numbers)) (get_or slots k Bad) begins));
      };
    }

pub start_small : (location : ShardingIndexLocation) (size : ℕ) → data_start location size ≤ size
start_small Start size = omega arith
start_small End size = omega arith

-- the slots' numbers fit
ends_stored : (inner_written : List (List ℕ) → List ℕ → Type 0) (fill : List ℕ) (e : List (List ℕ)) (bytes : List ℕ) (start : ℕ) (s : Slot)
    → IsStoredIn inner_written fill e bytes s → start + length bytes < absent_number → EndsBelow start s
ends_stored inner_written fill e bytes start Absent h small = tt
ends_stored inner_written fill e bytes start (InRange o n) h small = omega (arith, h.2, small)
ends_stored inner_written fill e bytes start Bad h small = absurd h

pub room_stored : (inner_written : List (List ℕ) → List ℕ → Type 0) (fill shape sub : List ℕ) (a : List (List ℕ)) (bytes : List ℕ) (slots : List Slot) (order : List ℕ) (n size : ℕ) (location : ShardingIndexLocation)
    → IsPermutation (range_with_len 0 n) order → IsStoredInOrder inner_written fill shape sub a bytes slots order n → size + length bytes < absent_number
    → (k : ℕ) → k < length slots → EndsBelow (data_start location size) (get_or slots k Bad)
room_stored inner_written fill shape sub a bytes slots order n size location permutes h small k below =
    ends_stored inner_written fill (subchunk shape sub a k) bytes (data_start location size) (get_or slots k Bad)
    (stored_number inner_written fill shape sub a bytes slots order n k permutes h (omega (arith, below, h.counted, order_counted n order permutes)))
    (omega (arith, small, start_small location size))
