-- An encoding of an array stands for its cells.
use Rattle.std.proofs.Common.{IfSome, ◌≡◌, ℕ, ◌+◌, ◌*◌, ◌^◌, ◌<◌, ◌≤◌, List, [], ◌∷◌, Option, Some, None, length, map, get_or, take, drop, refl, sym, ap, ◌∙◌, arith, true, nat_lt, if◌then◌else◌, false, subst, length-take, length-drop}
use Rattle.parts_arrays.specs.declared.data_type.DataTypeSize.{DataTypeSize}
use Rattle.std.proofs.lemmas.List.{ext_get_or, length-map, get_or-map}
use Rattle.std.proofs.lemmas.List.Elements.{All-get_or, All-from_get_or, All-map}
use Rattle.std.proofs.lemmas.List.FromFn.{get_or-map-range_with_len, length-map-range_with_len, length-range_with_len, get_or-range_with_len}
use Rattle.std.proofs.lemmas.Nat.{from_le_bytes-to_le_bytes_8}
use Rattle.std.proofs.lemmas.Bool.{le-leb}
use Rattle.std.specs.List.{All, range_with_len}
use Rattle.parts_arrays.specs.ArraySpec.{ArraySpec, IsArrayOf}
use Rattle.parts_arrays.specs.Types.{size_of, FitsKind}
use Rattle.parts_row_major.specs.Numbering.{count_of}
use Rattle.codec_traits.specs.CellLaws.{all_there-map_some}
use Rattle.parts_subsets.specs.Grid.{grid_of, Divides, subchunk_number, position_number, cell_number, subchunk}
use Rattle.codec_traits.specs.Meanings.{Meaning}
use Rattle.sharding_format.specs.Index.{slot_at, index_part, data_end, index_spec, index_shape, number_of_element, element_of_number, numbers_in_index}
use Rattle.sharding_format.specs.declared.slot.Slot.{Slot}
use Rattle.sharding_format.specs.declared.slot.Slot.TheVariants.{Absent, InRange, Bad}
use Rattle.sharding_format.specs.Cells.{Layout, cell_in, cell_by, shard_cells}
use Rattle.sharding_format.specs.Compacting.{IsMoved, IsCompacted}
use Rattle.sharding_format.specs.Encoding.{StandsAt, IsEncodingBy, IsEncoding, slot_size}
use Rattle.sharding_format.specs.Serves.{subchunk_spec, layout_of, bound_of, shard_representation}
use Rattle.sharding_format.specs.declared.order.SubchunkWriteOrder.{SubchunkWriteOrder}
use Rattle.codec_traits.specs.Representations.{IsWithin}
use Rattle.codec_traits.specs.declared.representation.BytesRepresentation.{BytesRepresentation}
use Rattle.codec_traits.specs.declared.representation.BytesRepresentation.TheVariants.{FixedSize, BoundedSize, UnboundedSize}
use Rattle.sharding_format.specs.declared.location.ShardingIndexLocation.TheVariants.{Start, End}
use Rattle.std.proofs.lemmas.List.Sums.{sum_by-le}
use Rattle.parts_errors.specs.Words.{CellsOf, Written}
use Rattle.sharding_format.specs.declared.location.ShardingIndexLocation.{ShardingIndexLocation}
use Rattle.parts_subsets.proofs.GridLaws.{subchunk_number-below, position_number-below, cell_number-below, cell_number-located, length-subchunk, get_or-subchunk}

numbers_back : (ns : List ℕ) → All (λ n. n < 2 ^ 64) ns → map number_of_element (map element_of_number ns) ≡ ns
numbers_back ns h =
    ext_get_or 0 _ _ (length-map (map element_of_number ns) number_of_element ∙ length-map ns element_of_number)
    (λ i below.
    let in_ns : i < length ns = omega (arith, length-map (map element_of_number ns) number_of_element, length-map ns element_of_number) in
    let in_es : i < length (map element_of_number ns) = omega (arith, length-map ns element_of_number) in
    get_or-map number_of_element (map element_of_number ns) i (element_of_number 0) 0 in_es
    ∙ ap number_of_element (get_or-map element_of_number ns i 0 (element_of_number 0) in_ns)
    ∙ from_le_bytes-to_le_bytes_8 (get_or ns i 0) (All-get_or (λ n. n < 2 ^ 64) ns i 0 in_ns h))

pub count-append_two : (grid : List ℕ) → count_of (index_shape grid) ≡ 2 * count_of grid
count-append_two [] = refl
count-append_two (n ∷ grid) = omega (arith, ap (λ t. n * t) (count-append_two grid))

-- the elements of an index are an array of its array spec
pub IsArrayOf-index : (sub : List ℕ) (g : ArraySpec) (ns : List ℕ) → length ns ≡ 2 * count_of (grid_of g.shape sub)
    → IsArrayOf (index_spec (grid_of g.shape sub)) (map element_of_number ns)
IsArrayOf-index sub g ns h = record {
  counted = length-map ns element_of_number ∙ h ∙ sym (count-append_two (grid_of g.shape sub));
  fitting = All-map (λ e. length e ≡ 8) element_of_number ns (λ k d below. refl);
}

pub IsArrayOf-subchunk : (sub : List ℕ) (g : ArraySpec) (a : List (List ℕ)) (k : ℕ) → Divides sub g.shape → IsArrayOf g a
    → k < count_of (grid_of g.shape sub) → IsArrayOf (subchunk_spec sub g) (subchunk g.shape sub a k)
IsArrayOf-subchunk sub g a k divides array below = record {
  counted = length-subchunk g.shape sub a k;
  fitting = All-from_get_or (FitsKind (size_of g.data_type)) (subchunk g.shape sub a k) [] (λ p hp.
      let in_subchunk : p < count_of sub = omega (arith, length-subchunk g.shape sub a k) in
      let inside = cell_number-below g.shape sub divides k p below in_subchunk in
      let fits = All-get_or (FitsKind (size_of g.data_type)) a (cell_number g.shape sub k p) [] (omega (arith, inside, array.counted))
      array.fitting in
      rw (get_or-subchunk g.shape sub a k p [] in_subchunk) fits);
}

-- an index that encodes numbers gives them
pub numbers_of_index : (index_cells : CellsOf) (index_written : Written)
    (sub : List ℕ) (g : ArraySpec) (location : ShardingIndexLocation) (size : ℕ) (b ns : List ℕ)
    → ((e : List (List ℕ)) (bytes : List ℕ) → IsArrayOf (index_spec (grid_of g.shape sub)) e → index_written e bytes
    → index_cells bytes ≡ map Some e)
    → size ≤ length b → length ns ≡ 2 * count_of (grid_of g.shape sub) → All (λ n. n < 2 ^ 64) ns
    → index_written (map element_of_number ns) (index_part location size b)
    → numbers_in_index index_cells location size b ≡ Some ns
unfolding numbers_in_index
numbers_of_index index_cells index_written sub g location size b ns law long_enough counted below written =
    let cells = law (map element_of_number ns) (index_part location size b) (IsArrayOf-index sub g ns counted) written in
    rw (le-leb size (length b) long_enough, cells, all_there-map_some (map element_of_number ns), numbers_back ns below) refl

-- the index of an encoding gives its numbers
numbers_of_encoding : (index_cells : CellsOf) (index_written : Written)
    (inner_written : Written)
    (sub : List ℕ) (g : ArraySpec) (l : Layout) (a : List (List ℕ)) (b ns : List ℕ)
    → grid_of l.shape l.sub ≡ grid_of g.shape sub
    → ((e : List (List ℕ)) (bytes : List ℕ) → IsArrayOf (index_spec (grid_of g.shape sub)) e → index_written e bytes
    → index_cells bytes ≡ map Some e)
    → IsEncodingBy inner_written index_written l a b ns
    → numbers_in_index index_cells l.location l.index_size b ≡ Some ns
numbers_of_encoding index_cells index_written inner_written sub g l a b ns same law h =
    numbers_of_index index_cells index_written sub g l.location l.index_size b ns law h.long_enough
    (h.counted ∙ ap (λ t. 2 * count_of t) same) h.below h.index

-- a subchunk that stands somewhere gives its cells
pub cell_of_standing : (inner_cells : CellsOf) (inner_written : Written)
    (sub_g : ArraySpec) (l : Layout) (b : List ℕ) (e : List (List ℕ)) (s : Slot) (p : ℕ)
    → ((e : List (List ℕ)) (bytes : List ℕ) → IsArrayOf sub_g e → inner_written e bytes → inner_cells bytes ≡ map Some e)
    → IsArrayOf sub_g e
    → p < length e
    → StandsAt inner_written l b e s
    → cell_in inner_cells l.fill b s p ≡ Some (get_or e p [])
cell_of_standing inner_cells inner_written sub_g l b e Absent p law array below h =
    ap Some (sym (All-get_or (λ x. x ≡ l.fill) e p [] below h))
cell_of_standing inner_cells inner_written sub_g l b e (InRange offset size) p law array below h =
    rw (law e (take size (drop offset b)) array h.1) (get_or-map Some e p [] None below)
cell_of_standing inner_cells inner_written sub_g l b e Bad p law array below h = absurd h

pub cells_of_encoding : (inner_cells index_cells : CellsOf) (inner_written index_written : Written)
    (sub : List ℕ) (location : ShardingIndexLocation) (order : SubchunkWriteOrder) (size : ℕ) (g : ArraySpec) (a : List (List ℕ)) (b : List ℕ)
    → Divides sub g.shape
    → IsArrayOf g a
    → ((e : List (List ℕ)) (bytes : List ℕ) → IsArrayOf (subchunk_spec sub g) e → inner_written e bytes → inner_cells bytes ≡ map Some e)
    → ((e : List (List ℕ)) (bytes : List ℕ) → IsArrayOf (index_spec (grid_of g.shape sub)) e → index_written e bytes
    → index_cells bytes ≡ map Some e)
    → IsEncoding inner_written index_written (layout_of sub location order size g) a b
    → shard_cells inner_cells index_cells (layout_of sub location order size g) b ≡ map Some a
unfolding shard_cells
cells_of_encoding inner_cells index_cells inner_written index_written sub location order size g a b divides array inner_law index_law h =
    let l : Layout = layout_of sub location order size g in
    let ns = h.numbers in
    let by = h.holds in
    let told : numbers_in_index index_cells l.location l.index_size b ≡ Some ns =
    numbers_of_encoding index_cells index_written inner_written sub g l a b ns refl index_law by in
    rw told
    (ext_get_or None _ _ (length-map-range_with_len (cell_by inner_cells l b (Some ns)) 0 (count_of g.shape) ∙ sym array.counted
    ∙ sym (length-map a Some))
    (λ i below.
    let in_l : i < count_of g.shape = omega (arith, length-map-range_with_len (cell_by inner_cells l b (Some ns)) 0 (count_of g.shape)) in
    let in_a : i < length a = omega (arith, array.counted) in
    let k = subchunk_number g.shape sub i in
    let p = position_number g.shape sub i in
    let e = subchunk g.shape sub a k in
    let k_below = subchunk_number-below g.shape sub divides i in_l in
    let p_below = position_number-below g.shape sub divides i in_l in
    get_or-map-range_with_len (cell_by inner_cells l b (Some ns)) 0 (count_of g.shape) i i None in_l (omega arith)
    ∙ cell_of_standing inner_cells inner_written (subchunk_spec sub g) l b e (slot_at (length b) ns k) p inner_law
    (IsArrayOf-subchunk sub g a k divides array k_below)
    (omega (arith, p_below, length-subchunk g.shape sub a k)) (by.stand k k_below)
    ∙ ap Some (get_or-subchunk g.shape sub a k p [] p_below ∙ ap (λ j. get_or a j []) (cell_number-located g.shape sub divides i in_l))
    ∙ sym (get_or-map Some a i [] None in_a)))

pub length-shard_cells : (inner_cells index_cells : CellsOf) (l : Layout) (b : List ℕ)
    → length (shard_cells inner_cells index_cells l b) ≡ count_of l.shape
unfolding shard_cells
length-shard_cells inner_cells index_cells l b = length-map-range_with_len
    (cell_by inner_cells l b (numbers_in_index index_cells l.location l.index_size b)) 0 (count_of l.shape)

IsWithin-bound_of : (m n : ℕ) → n ≤ m → IsWithin (bound_of m) n
IsWithin-bound_of m n h = elim (nat_lt m (2 ^ 64)) as (λ t. IsWithin (if t then Some (BoundedSize m) else None) n) [ true ↦ h | false ↦ tt ]

inside_data : (location : ShardingIndexLocation) (size len n : ℕ) → n ≤ data_end location size len → n ≤ len
inside_data Start size len n h = h
inside_data End size len n h = omega arith

zero_plus : (i : ℕ) → i ≡ 0 + i
zero_plus i = omega arith

-- a subchunk that stands somewhere is no longer than its bound
size_of_standing : (inner_written : Written) (sub_g : ArraySpec) (l : Layout) (b : List ℕ) (e : List (List ℕ))
    (s : Slot) (m : ℕ)
    → ((e : List (List ℕ)) (bytes : List ℕ) → IsArrayOf sub_g e → inner_written e bytes → length bytes ≤ m)
    → IsArrayOf sub_g e → StandsAt inner_written l b e s → slot_size s ≤ m
size_of_standing inner_written sub_g l b e Absent m law array h = omega arith
size_of_standing inner_written sub_g l b e (InRange offset size) m law array h =
    let inside : offset + size ≤ length b = inside_data l.location l.index_size (length b) (offset + size) h.2.1 in
    omega (arith, law e (take size (drop offset b)) array h.1, length-take size (drop offset b), length-drop offset b)
size_of_standing inner_written sub_g l b e Bad m law array h = absurd h

pub length_of_encoding : (inner_written index_written : Written)
    (sub : List ℕ) (location : ShardingIndexLocation) (order : SubchunkWriteOrder) (size : ℕ) (g : ArraySpec) (a : List (List ℕ)) (b : List ℕ)
    (m : ℕ)
    → Divides sub g.shape → IsArrayOf g a
    → ((e : List (List ℕ)) (bytes : List ℕ) → IsArrayOf (subchunk_spec sub g) e → inner_written e bytes → length bytes ≤ m)
    → IsEncoding inner_written index_written (layout_of sub location order size g) a b
    → length b ≤ count_of (grid_of g.shape sub) * m + size
length_of_encoding inner_written index_written sub location order size g a b m divides array law h =
    let l : Layout = layout_of sub location order size g in
    let n = count_of (grid_of g.shape sub) in
    let f : ℕ → ℕ = λ k. slot_size (slot_at (length b) h.numbers k) in
    let each : All (λ k. f k ≤ m) (range_with_len 0 n) =
    All-from_get_or (λ k. f k ≤ m) (range_with_len 0 n) 0 (λ i below.
    let in_n : i < n = omega (arith, length-range_with_len 0 n) in
    rw (get_or-range_with_len 0 n i 0 in_n)
    (size_of_standing inner_written (subchunk_spec sub g) l b (subchunk g.shape sub a i) (slot_at (length b) h.numbers (0 + i)) m law
    (IsArrayOf-subchunk sub g a i divides array in_n)
    (subst (λ j. StandsAt inner_written l b (subchunk g.shape sub a i) (slot_at (length b) h.numbers j)) (zero_plus i)
    (h.holds.stand i in_n)))) in
    let total = rw (length-range_with_len 0 n) at (sum_by-le f m (range_with_len 0 n) each) in
    omega (arith, total, h.holds.filled)

pub shard_bounded : (inner_written index_written : Written) (told : Option BytesRepresentation)
    (sub : List ℕ) (location : ShardingIndexLocation) (order : SubchunkWriteOrder) (size : ℕ) (g : ArraySpec) (a : List (List ℕ)) (b : List ℕ)
    → Divides sub g.shape → IsArrayOf g a
    → ((e : List (List ℕ)) (bytes : List ℕ) → IsArrayOf (subchunk_spec sub g) e → inner_written e bytes → IsWithin told (length bytes))
    → IsEncoding inner_written index_written (layout_of sub location order size g) a b
    → IsWithin (shard_representation told (count_of (grid_of g.shape sub)) size) (length b)
shard_bounded inner_written index_written None sub location order size g a b divides array law h = tt
shard_bounded inner_written index_written (Some (FixedSize m)) sub location order size g a b divides array law h =
    IsWithin-bound_of _ (length b) (length_of_encoding inner_written index_written sub location order size g a b m divides array
    (λ e bytes array written. omega (arith, law e bytes array written)) h)
shard_bounded inner_written index_written (Some (BoundedSize m)) sub location order size g a b divides array law h =
    IsWithin-bound_of _ (length b) (length_of_encoding inner_written index_written sub location order size g a b m divides array law h)
shard_bounded inner_written index_written (Some UnboundedSize) sub location order size g a b divides array law h = tt

fitting_in : (inner_cells : CellsOf) (k : DataTypeSize) (fill b : List ℕ) (n : ℕ) (s : Slot) (p : ℕ) → FitsKind k fill → p < n
    → ((x : List ℕ) (j : ℕ) → j < n → IfSome (get_or (inner_cells x) j None) (FitsKind k))
    → IfSome (cell_in inner_cells fill b s p) (FitsKind k)
fitting_in inner_cells k fill b n Absent p fits below law = fits
fitting_in inner_cells k fill b n (InRange offset size) p fits below law = law (take size (drop offset b)) p below
fitting_in inner_cells k fill b n Bad p fits below law = tt

fitting_by : (inner_cells : CellsOf) (k : DataTypeSize) (l : Layout) (b : List ℕ) (numbers : Option (List ℕ)) (i : ℕ)
    → FitsKind k l.fill → position_number l.shape l.sub i < count_of l.sub
    → ((x : List ℕ) (j : ℕ) → j < count_of l.sub → IfSome (get_or (inner_cells x) j None) (FitsKind k))
    → IfSome (cell_by inner_cells l b numbers i) (FitsKind k)
fitting_by inner_cells k l b None i fits below law = tt
fitting_by inner_cells k l b (Some numbers) i fits below law = fitting_in inner_cells k l.fill b (count_of l.sub) _ _ fits below law

-- the cells that are there fit the type
pub shard_cells_fitting : (inner_cells index_cells : CellsOf) (sub : List ℕ) (location : ShardingIndexLocation)
    (order : SubchunkWriteOrder) (size : ℕ) (g : ArraySpec) (b : List ℕ) (i : ℕ)
    → FitsKind (size_of g.data_type) g.fill → Divides sub g.shape → i < count_of g.shape
    → ((x : List ℕ) (j : ℕ) → j < count_of sub → IfSome (get_or (inner_cells x) j None) (FitsKind (size_of g.data_type)))
    → IfSome (get_or (shard_cells inner_cells index_cells (layout_of sub location order size g) b) i None) (FitsKind (size_of g.data_type))
unfolding shard_cells
shard_cells_fitting inner_cells index_cells sub location order size g b i fits divides below law =
    let l : Layout = layout_of sub location order size g in
    rw (get_or-map-range_with_len (cell_by inner_cells l b (numbers_in_index index_cells l.location l.index_size b)) 0
    (count_of g.shape) i i None below (omega arith))
    (fitting_by inner_cells (size_of g.data_type) l b (numbers_in_index index_cells l.location l.index_size b) i fits
    (position_number-below g.shape sub divides i below) law)

-- a slot that is moved gives the same cells
cell_of_moved : (inner_cells : CellsOf) (fill old new : List ℕ) (s t : Slot) (write_offset p : ℕ)
    → IsMoved old s write_offset new t → cell_in inner_cells fill new t p ≡ cell_in inner_cells fill old s p
cell_of_moved inner_cells fill old new Absent t write_offset p h = rw h refl
cell_of_moved inner_cells fill old new (InRange offset size) t write_offset p h = rw (h.0, h.1) refl
cell_of_moved inner_cells fill old new Bad t write_offset p h = absurd h

-- a compacted shard stands for the same cells
pub cells_of_compacted : (inner_cells : CellsOf) (index : Meaning)
    (sub : List ℕ) (location : ShardingIndexLocation) (order : SubchunkWriteOrder) (size : ℕ) (g : ArraySpec) (old new : List ℕ)
    → Divides sub g.shape
    → ((e : List (List ℕ)) (bytes : List ℕ) → IsArrayOf (index_spec (grid_of g.shape sub)) e → index.written e bytes
    → index.cells bytes ≡ map Some e)
    → IsCompacted index (layout_of sub location order size g) old new
    → shard_cells inner_cells index.cells (layout_of sub location order size g) new ≡ shard_cells inner_cells index.cells
    (layout_of sub location order size g) old
unfolding shard_cells
cells_of_compacted inner_cells index sub location order size g old new divides index_law h =
    let l : Layout = layout_of sub location order size g in
    let n = count_of g.shape in
    let r = h.rewritten in
    let told : numbers_in_index index.cells location size new ≡ Some r.numbers =
    numbers_of_index index.cells index.written sub g location size new r.numbers index_law (omega (arith, r.long)) r.counted r.below
    r.index in
    rw (told, h.read.told)
    (ext_get_or None _ _ (length-map-range_with_len (cell_by inner_cells l new (Some r.numbers)) 0 n
    ∙ sym (length-map-range_with_len (cell_by inner_cells l old (Some h.old_numbers)) 0 n))
    (λ i below.
    let in_l : i < n = omega (arith, length-map-range_with_len (cell_by inner_cells l new (Some r.numbers)) 0 n) in
    let k = subchunk_number g.shape sub i in
    get_or-map-range_with_len (cell_by inner_cells l new (Some r.numbers)) 0 n i i None in_l (omega arith)
    ∙ cell_of_moved inner_cells g.fill old new (slot_at (length old) h.old_numbers k) (slot_at (length new) r.numbers k) _
    (position_number g.shape sub i)
    (r.moved k (subchunk_number-below g.shape sub divides i in_l))
    ∙ sym (get_or-map-range_with_len (cell_by inner_cells l old (Some h.old_numbers)) 0 n i i None in_l (omega arith))))
