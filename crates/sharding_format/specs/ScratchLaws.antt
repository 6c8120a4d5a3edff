-- An encoding in an order that leaves one place for each subchunk, by codecs of which each has one encoding of an array, is the
-- one shard in this order; in order `C` this is the shard that is made from scratch.
use Rattle.std.proofs.Common.{◌≡◌, ℕ, zero, suc, ◌+◌, ◌-◌, ◌*◌, ◌<◌, ◌≤◌, Bool, true, false, ◌==◌, ◌&&◌, ◌||◌, nat_le, if◌then◌else◌, IsTrue, IsPermutation, Decides, List, [], ◌∷◌, ◌++◌, length, map, get_or, take, drop, refl, sym, ap, ◌∙◌, subst, arith, length-drop, length-take}
use Rattle.std.specs.List.{All, flat_map, range_with_len, sum_by}
use Rattle.std.specs.Str.{bytes_eq}
use Rattle.std.proofs.lemmas.List.{take-append-drop, drop-drop, drop-take, take-take}
use Rattle.std.proofs.lemmas.List.Elements.{All-head, All-tail, All-take, All-from_get_or}
use Rattle.std.proofs.lemmas.List.Sorted.{sum_by-IsPermutation}
use Rattle.std.proofs.lemmas.List.Sums.{sum_by-cons}
use Rattle.std.proofs.lemmas.Bool.{and_parts, eqb-true, false_from_ne_true}
use Rattle.std.proofs.lemmas.Bool.Decides.{Decides-by_and}
use Rattle.std.proofs.lemmas.Slice.Eq.{bytes_eq-Decides}
use Rattle.parts_errors.specs.Words.{Written}
use Rattle.parts_arrays.specs.ArraySpec.{ArraySpec, IsArrayOf}
use Rattle.parts_row_major.specs.Numbering.{count_of}
use Rattle.parts_subsets.specs.Grid.{grid_of, Divides, subchunk}
use Rattle.sharding_format.specs.Index.{absent_number, slot_of_entry, slot_at, index_part, data_start, data_end, index_spec, element_of_number}
use Rattle.sharding_format.specs.Cells.{Layout}
use Rattle.sharding_format.specs.Encoding.{IsAllFill, StandsAt, IsEncoding, slot_size, BeginsAt}
use Rattle.sharding_format.specs.Laying.{whole_shard}
use Rattle.sharding_format.specs.Laws.{IsArrayOf-index, IsArrayOf-subchunk}
use Rattle.sharding_format.specs.Scratch.{is_all_fill, part_of, part_at, entry_at, ordered_shard, scratch}
use Rattle.sharding_format.specs.WriteOrder.{is_ordered, numbers_in_order, numbers_before}
use Rattle.sharding_format.specs.WriteOrderLaws.{order_permutes, order_counted, order_below, order_has, before_at}
use Rattle.sharding_format.specs.Serves.{subchunk_spec, layout_of}
use Rattle.sharding_format.specs.declared.slot.Slot.{Slot}
use Rattle.sharding_format.specs.declared.slot.Slot.TheVariants.{Absent, InRange, Bad}
use Rattle.sharding_format.specs.declared.order.SubchunkWriteOrder.{SubchunkWriteOrder}
use Rattle.sharding_format.specs.declared.order.SubchunkWriteOrder.TheVariants.{C}
use Rattle.sharding_format.specs.declared.location.ShardingIndexLocation.{ShardingIndexLocation}
use Rattle.sharding_format.specs.declared.location.ShardingIndexLocation.TheVariants.{Start, End}

-- what makes a sharding codec's encodings one
pub record IsFunctional (order : SubchunkWriteOrder) (inner_functional index_functional : Bool) : Type 0 where
  pub ordered : IsTrue (is_ordered order)
  pub inner : IsTrue inner_functional
  pub index : IsTrue index_functional

pub functional_parts : (order : SubchunkWriteOrder) (inner index : Bool) → IsTrue (is_ordered order && (inner && index))
    → IsFunctional order inner index
functional_parts order inner index h =
    let parts = and_parts (is_ordered order) (inner && index) h in
    let codecs = and_parts inner index parts.1 in
    record { ordered = parts.0; inner = codecs.0; index = codecs.1 }

zero_plus : (k : ℕ) → 0 + k ≡ k
zero_plus k = omega arith

plus_zero : (s : ℕ) → s + 0 ≡ s
plus_zero s = omega arith

plus_next : (s k : ℕ) → s + suc k ≡ s + 1 + k
plus_next s k = omega arith

-- sums of equal terms
sums_same : (f h : ℕ → ℕ) (xs : List ℕ) → All (λ k. f k ≡ h k) xs → sum_by f xs ≡ sum_by h xs
sums_same f h [] each = refl
sums_same f h (x ∷ xs) each =
    omega (
      arith,
      All-head (λ k. f k ≡ h k) x xs each,
      sums_same f h xs (All-tail (λ k. f k ≡ h k) x xs each),
      sum_by-cons f x xs,
      sum_by-cons h x xs,
    )

empty : (xs : List ℕ) → length xs ≡ 0 → xs ≡ []
empty [] h = refl
empty (x ∷ xs) h = absurd (omega arith)

one_later : (i : ℕ) → suc i ≡ 1 + i
one_later i = omega arith

-- parts that lie end to end in the order of a list, and fill another one, are this one
joined_parts : (part : ℕ → List ℕ) (ks : List ℕ) (all : List ℕ)
    → ((i : ℕ) → i < length ks
    → take (length (part (get_or ks i 0))) (drop (sum_by (λ j. length (part j)) (take i ks)) all) ≡ part (get_or ks i 0))
    → length all ≡ sum_by (λ j. length (part j)) ks
    → all ≡ flat_map part ks
joined_parts part [] all each filled = empty all filled
joined_parts part (k ∷ ks) all each filled =
    let len : ℕ → ℕ = λ j. length (part j) in
    let here : take (len k) all ≡ part k = each 0 (omega arith) in
    let rest : drop (len k) all ≡ flat_map part ks =
    joined_parts part ks (drop (len k) all)
    (λ i below.
    let at : ℕ = get_or ks i 0 in
    ap (take (len at)) (drop-drop (sum_by len (take i ks)) (len k) all ∙ ap (λ m. drop m all) (sym (sum_by-cons len k (take i ks))))
    ∙ each (suc i) (omega arith))
    (omega (arith, length-drop (len k) all, filled, sum_by-cons len k ks)) in
    sym (take-append-drop (len k) all) ∙ ap (λ xs. xs ++ drop (len k) all) here ∙ ap (λ xs. part k ++ xs) rest

two_more : (k : ℕ) → 2 * suc k ≡ suc (suc (2 * k))
two_more k = omega arith

two_and_one_more : (k : ℕ) → 2 * suc k + 1 ≡ suc (suc (2 * k + 1))
two_and_one_more k = omega arith

-- numbers that are pairs, one after the other
joined_entries : (entry : ℕ → List ℕ) (n s : ℕ) (ns : List ℕ) → length ns ≡ 2 * n
    → ((k : ℕ) → k < n → entry (s + k) ≡ get_or ns (2 * k) 0 ∷ get_or ns (2 * k + 1) 0 ∷ [])
    → ns ≡ flat_map entry (range_with_len s n)
joined_entries entry zero s ns len each = empty ns len
joined_entries entry (suc n) s [] len each = absurd (omega arith)
joined_entries entry (suc n) s (x ∷ []) len each = absurd (omega arith)
joined_entries entry (suc n) s (x ∷ y ∷ ns) len each =
    let here : entry s ≡ x ∷ y ∷ [] = subst (λ j. entry j ≡ x ∷ y ∷ []) (plus_zero s) (each 0 (omega arith)) in
    let rest : ns ≡ flat_map entry (range_with_len (s + 1) n) =
    joined_entries entry n (s + 1) ns (omega arith)
    (λ k below. subst (λ j. entry j ≡ get_or ns (2 * k) 0 ∷ get_or ns (2 * k + 1) 0 ∷ []) (plus_next s k)
    (rw (two_and_one_more k, two_more k) at (each (suc k) (omega arith)))) in
    ap (λ xs. x ∷ y ∷ xs) rest ∙ ap (λ xs. xs ++ flat_map entry (range_with_len (s + 1) n)) (sym here)

-- whether all is fill is tested
all_fill_tells : (fill : List ℕ) (elements : List (List ℕ)) → Decides (is_all_fill fill elements) (IsAllFill fill elements)
all_fill_tells fill elements = Decides-by_and (λ e. bytes_eq e fill) (λ e. e ≡ fill) (is_all_fill fill) (λ e. bytes_eq-Decides e fill)
    refl (λ _ _. refl) elements

some_not_fill : (fill : List ℕ) (elements : List (List ℕ)) → ¬ (IsAllFill fill elements) → is_all_fill fill elements ≡ false
some_not_fill fill elements h = false_from_ne_true (is_all_fill fill elements) (λ t. h ((all_fill_tells fill elements).0 t))

-- the numbers of a slot
abbrev IsEntryOf : ℕ → ℕ → Slot → Type 0
IsEntryOf x y Absent = (x ≡ absent_number) × (y ≡ absent_number)
IsEntryOf x y (InRange offset size) = (x ≡ offset) × (y ≡ size)
IsEntryOf x y Bad = Unit {0}

entry_by_tests : (x_absent y_absent inside : Bool) (x y : ℕ) → (x_absent ≡ true → x ≡ absent_number) → (y_absent ≡ true → y ≡ absent_number)
    → IsEntryOf x y (if x_absent && y_absent then Absent else (if x_absent || y_absent then Bad else (if inside then InRange x y else Bad)))
entry_by_tests true true inside x y hx hy = (hx refl, hy refl)
entry_by_tests true false inside x y hx hy = tt
entry_by_tests false true inside x y hx hy = tt
entry_by_tests false false true x y hx hy = (refl, refl)
entry_by_tests false false false x y hx hy = tt

entry_of_slot : (len x y : ℕ) → IsEntryOf x y (slot_of_entry len x y)
entry_of_slot len x y =
    entry_by_tests (x == absent_number) (y == absent_number) (nat_le (x + y) len) x y (λ t. eqb-true x absent_number t)
    (λ t. eqb-true y absent_number t)

-- the part of a shard that is no index
abbrev data_part : ShardingIndexLocation → ℕ → List ℕ → List ℕ
data_part Start size bytes = drop size bytes
data_part End size bytes = take (length bytes - size) bytes

whole_rebuilt : (location : ShardingIndexLocation) (size : ℕ) (b : List ℕ)
    → whole_shard location (index_part location size b) (data_part location size b) ≡ b
whole_rebuilt Start size b = take-append-drop size b
whole_rebuilt End size b = take-append-drop (length b - size) b

length-data_part : (location : ShardingIndexLocation) (size : ℕ) (b : List ℕ) → length (data_part location size b) ≡ length b - size
length-data_part Start size b = length-drop size b
length-data_part End size b = omega (arith, length-take (length b - size) b)

inside_data : (location : ShardingIndexLocation) (size len n : ℕ) → n ≤ data_end location size len → n ≤ len
inside_data Start size len n h = h
inside_data End size len n h = omega arith

-- a slice of the data part is one of the shard
slice_of_data : (location : ShardingIndexLocation) (size : ℕ) (b : List ℕ) (write_offset n : ℕ)
    → data_start location size + write_offset + n ≤ data_end location size (length b)
    → take n (drop write_offset (data_part location size b)) ≡ take n (drop (data_start location size + write_offset) b)
slice_of_data Start size b write_offset n h = ap (take n) (drop-drop write_offset size b)
slice_of_data End size b write_offset n h =
    let room : write_offset + (length b - size - write_offset) ≡ length b - size = omega arith in
    let cut : drop write_offset (take (length b - size) b) ≡ take (length b - size - write_offset) (drop write_offset b) =
    ap (λ m. drop write_offset (take m b)) (sym room) ∙ drop-take write_offset (length b - size - write_offset) b in
    let same : write_offset ≡ 0 + write_offset = omega arith in
    ap (take n) cut ∙ take-take n (length b - size - write_offset) (drop write_offset b) (omega arith) ∙ ap (λ m. take n (drop m b)) same

-- where a subchunk stands, its slice is its part
part_of_standing : (inner_written : Written) (inner_encoding : List (List ℕ) → List ℕ) (l : Layout) (b : List ℕ)
    (e : List (List ℕ)) (s : Slot)
    → ((bytes : List ℕ) → inner_written e bytes → bytes ≡ inner_encoding e)
    → StandsAt inner_written l b e s
    → slot_size s ≡ length (part_of inner_encoding l.fill e)
part_of_standing inner_written inner_encoding l b e Absent law h = rw ((all_fill_tells l.fill e).1 h) refl
part_of_standing inner_written inner_encoding l b e (InRange offset size) law h =
    let inside = inside_data l.location l.index_size (length b) (offset + size) h.2.1 in
    rw (some_not_fill l.fill e h.0) (omega (
      arith,
      inside,
      ap length (law (take size (drop offset b)) h.1),
      length-take size
          (drop offset b),
      length-drop offset b,
    ))
part_of_standing inner_written inner_encoding l b e Bad law h = absurd h

slice_of_standing : (inner_written : Written) (inner_encoding : List (List ℕ) → List ℕ) (l : Layout)
    (b : List ℕ) (e : List (List ℕ)) (s : Slot) (write_offset : ℕ)
    → ((bytes : List ℕ) → inner_written e bytes → bytes ≡ inner_encoding e)
    → StandsAt inner_written l b e s
    → BeginsAt (data_start l.location l.index_size + write_offset) s
    → take (slot_size s) (drop write_offset (data_part l.location l.index_size b)) ≡ part_of inner_encoding l.fill e
slice_of_standing inner_written inner_encoding l b e Absent write_offset law h begins = rw ((all_fill_tells l.fill e).1 h) refl
slice_of_standing inner_written inner_encoding l b e (InRange offset size) write_offset law h begins =
    rw (some_not_fill l.fill e h.0)
    (slice_of_data l.location l.index_size b write_offset size (omega (arith, h.2.1, begins))
    ∙ ap (λ m. take size (drop m b)) (sym begins) ∙ law (take size (drop offset b)) h.1)
slice_of_standing inner_written inner_encoding l b e Bad write_offset law h begins = absurd h

entry_of_standing : (inner_written : Written) (l : Layout) (b : List ℕ) (e : List (List ℕ)) (s : Slot)
    (write_offset size x y : ℕ)
    → StandsAt inner_written l b e s → BeginsAt write_offset s → IsEntryOf x y s → slot_size s ≡ size
    → (if is_all_fill l.fill e then absent_number ∷ absent_number ∷ [] else write_offset ∷ size ∷ []) ≡ x ∷ y ∷ []
entry_of_standing inner_written l b e Absent write_offset size x y h begins told sized = rw ((all_fill_tells l.fill e).1 h) (cc (told.0, told.1))
entry_of_standing inner_written l b e (InRange o n) write_offset size x y h begins told sized = rw (some_not_fill l.fill e h.0)
    (cc (told.0, told.1))
entry_of_standing inner_written l b e Bad write_offset size x y h begins told sized = absurd h

-- the encoding is the one shard in its order
pub ordered_of_encoding : (inner_written index_written : Written)
    (inner_encoding index_encoding : List (List ℕ) → List ℕ)
    (sub : List ℕ) (location : ShardingIndexLocation) (order : SubchunkWriteOrder) (size : ℕ) (g : ArraySpec) (a : List (List ℕ)) (b : List ℕ)
    → Divides sub g.shape → IsArrayOf g a → IsTrue (is_ordered order)
    → ((e : List (List ℕ)) (bytes : List ℕ) → IsArrayOf (subchunk_spec sub g) e → inner_written e bytes → bytes ≡ inner_encoding e)
    → ((e : List (List ℕ)) (bytes : List ℕ) → IsArrayOf (index_spec (grid_of g.shape sub)) e → index_written e bytes
    → bytes ≡ index_encoding e)
    → IsEncoding inner_written index_written (layout_of sub location order size g) a b
    → b ≡ ordered_shard inner_encoding index_encoding (layout_of sub location order size g) a
unfolding slot_at
ordered_of_encoding inner_written index_written inner_encoding index_encoding sub location order size g a b divides array ordered
    inner_law index_law h =
    let l : Layout = layout_of sub location order size g in
    let n : ℕ = count_of (grid_of g.shape sub) in
    let numbers : List ℕ = numbers_in_order order (grid_of g.shape sub) in
    let permutes : IsPermutation (range_with_len 0 n) numbers = order_permutes order (grid_of g.shape sub) in
    let counted : length numbers ≡ n = order_counted n numbers permutes in
    let by = h.holds in
    let slot : ℕ → Slot = λ k. slot_at (length b) h.numbers k in
    let part : ℕ → List ℕ = part_at inner_encoding l a in
    let start : ℕ = data_start location size in
    let len : ℕ → ℕ = λ j. length (part j) in
    let law : (k : ℕ) → k < n → (bytes : List ℕ) → inner_written (subchunk g.shape sub a k) bytes
    → bytes ≡ inner_encoding (subchunk g.shape sub a k) =
    λ k below bytes written. inner_law (subchunk g.shape sub a k) bytes (IsArrayOf-subchunk sub g a k divides array below) written in
    let sized : (k : ℕ) → k < n → slot_size (slot k) ≡ len k =
    λ k below. part_of_standing inner_written inner_encoding l b (subchunk g.shape sub a k) (slot k) (law k below) (by.stand k below) in
    let all_sized : All (λ k. slot_size (slot k) ≡ len k) numbers =
    All-from_get_or (λ k. slot_size (slot k) ≡ len k) numbers 0 (λ i below.
    sized (get_or numbers i 0) (order_below n numbers i permutes (omega (arith, counted)))) in
    let sums : (i : ℕ) → sum_by (λ j. slot_size (slot j)) (take i numbers) ≡ sum_by len (take i numbers) =
    λ i. sums_same (λ j. slot_size (slot j)) len (take i numbers) (All-take (λ k. slot_size (slot k) ≡ len k) i numbers all_sized) in
    let begins : (i k : ℕ) → i < n → get_or numbers i 0 ≡ k → k < n → BeginsAt (start + sum_by len (take i numbers)) (slot k) =
    λ i k inside is below.
    subst (λ m. BeginsAt (start + m) (slot k))
    (ap (sum_by (λ j. slot_size (slot j))) (before_at n numbers i k permutes inside is) ∙ sums i) (by.in_order ordered k below) in
    let total : sum_by (λ j. slot_size (slot j)) (range_with_len 0 n) ≡ sum_by len numbers =
    sym (sum_by-IsPermutation (λ j. slot_size (slot j)) (range_with_len 0 n) numbers permutes)
    ∙ sums_same (λ j. slot_size (slot j)) len numbers all_sized in
    let stored : data_part location size b ≡ flat_map part numbers =
    joined_parts part numbers (data_part location size b)
    (λ i inside.
    let i_below : i < n = omega (arith, counted) in
    let k : ℕ = get_or numbers i 0 in
    let below : k < n = order_below n numbers i permutes i_below in
    rw (← sized k below)
    (slice_of_standing inner_written inner_encoding l b (subchunk g.shape sub a k) (slot k)
    (sum_by len (take i numbers)) (law k below) (by.stand k below) (begins i k i_below refl below)))
    (omega (arith, length-data_part location size b, by.filled, total)) in
    let entries : h.numbers ≡ flat_map (entry_at inner_encoding l numbers a) (range_with_len 0 n) =
    joined_entries (entry_at inner_encoding l numbers a) n 0 h.numbers by.counted
    (λ k below.
    let found = order_has n numbers k permutes below in
    let inside : found.position < n = omega (arith, found.inside, counted) in
    let write_offset : ℕ = start + sum_by len (numbers_before k numbers) in
    let begun : BeginsAt write_offset (slot k) =
    rw (before_at n numbers found.position k permutes inside found.is) (begins found.position k inside found.is below) in
    rw (zero_plus k)
    (entry_of_standing inner_written l b (subchunk g.shape sub a k) (slot k) write_offset (len k)
    (get_or h.numbers (2 * k) 0) (get_or h.numbers (2 * k + 1) 0) (by.stand k below) begun
    (entry_of_slot (length b) (get_or h.numbers (2 * k) 0) (get_or h.numbers (2 * k + 1) 0)) (sized k below))) in
    let index : index_part location size b ≡ index_encoding (map element_of_number h.numbers) =
    index_law (map element_of_number h.numbers) (index_part location size b) (IsArrayOf-index sub g h.numbers by.counted) by.index in
    sym (whole_rebuilt location size b)
    ∙ ap (λ d. whole_shard location (index_part location size b) d) stored
    ∙ ap (λ i. whole_shard location i (flat_map part numbers))
    (index ∙ ap (λ ns. index_encoding (map element_of_number ns)) entries)

-- in order `C` it is the shard that is made from scratch
pub scratch_of_encoding : (inner_written index_written : Written)
    (inner_encoding index_encoding : List (List ℕ) → List ℕ)
    (sub : List ℕ) (location : ShardingIndexLocation) (size : ℕ) (g : ArraySpec) (a : List (List ℕ)) (b : List ℕ)
    → Divides sub g.shape → IsArrayOf g a
    → ((e : List (List ℕ)) (bytes : List ℕ) → IsArrayOf (subchunk_spec sub g) e → inner_written e bytes → bytes ≡ inner_encoding e)
    → ((e : List (List ℕ)) (bytes : List ℕ) → IsArrayOf (index_spec (grid_of g.shape sub)) e → index_written e bytes
    → bytes ≡ index_encoding e)
    → IsEncoding inner_written index_written (layout_of sub location C size g) a b
    → b ≡ scratch inner_encoding index_encoding (layout_of sub location C size g) a
scratch_of_encoding inner_written index_written inner_encoding index_encoding sub location size g a b divides array inner_law index_law h =
    ordered_of_encoding inner_written index_written inner_encoding index_encoding sub location C size g a b divides array refl
    inner_law index_law h
