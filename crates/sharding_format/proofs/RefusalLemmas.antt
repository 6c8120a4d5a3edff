-- A refusal of a shard's bytes is one that the codec laws allow.
use Rattle.std.proofs.Common.{◌≡◌, ◌≢◌, ℕ, ◌*◌, ◌^◌, ◌<◌, ◌≤◌, nat_le, true, false, List, Option, Some, None, IfSome, ◌⊎◌, inl, inr, length, get_or, map, take, drop, refl, sym, ap, ◌∙◌, arith, if◌then◌else◌}
use Rattle.std.specs.Option.{option_map}
use Rattle.std.proofs.lemmas.Bool.{lt-leb}
use Rattle.std.proofs.lemmas.Bool.Decides.{leb_tells}
use Rattle.std.proofs.lemmas.List.FromFn.{get_or-map-range_with_len, length-map-range_with_len}
use Rattle.parts_arrays.specs.ArraySpec.{ArraySpec}
use Rattle.parts_row_major.specs.Numbering.{count_of}
use Rattle.parts_arrays.specs.Arrays.{Array}
use Rattle.parts_arrays.specs.Types.{FitsKind}
use Rattle.parts_arrays.specs.declared.data_type.DataTypeSize.TheVariants.{Fixed}
use Rattle.parts_errors.specs.Order.{◌or◌then◌, ◌or_as◌then◌, done, RefusedBy}
use Rattle.parts_errors.specs.declared.error.CodecError.{CodecError}
use Rattle.parts_errors.specs.declared.error.CodecError.TheVariants.{OutOfMemory, TooLarge, Fault, Damaged}
use Rattle.codec_traits.specs.Meanings.{Meaning}
use Rattle.codec_traits.specs.Cells.{all_there}
use Rattle.codec_traits.specs.Refusals.{AreTooLong, AreDamaged, MayRefuseDecode}
use Rattle.sharding_format.proofs.CellLemmas.{damaged_position, damaged_at, not_too_long, too_long_among}
use Rattle.sharding_format.specs.declared.location.ShardingIndexLocation.{ShardingIndexLocation}
use Rattle.sharding_format.specs.declared.order.SubchunkWriteOrder.{SubchunkWriteOrder}
use Rattle.sharding_format.specs.declared.slot.Slot.{Slot}
use Rattle.sharding_format.specs.declared.slot.Slot.TheVariants.{Absent, InRange, Bad}
use Rattle.parts_subsets.specs.Grid.{grid_of, Divides, subchunk_number, position_number, cell_number}
use Rattle.parts_subsets.proofs.GridLaws.{cell_number-below, subchunk_number-cell_number, position_number-cell_number}
use Rattle.sharding_format.specs.Laws.{count-append_two}
use Rattle.codec_traits.specs.CellLaws.{all_there-map_some}
use Rattle.sharding_format.specs.Index.{slot_at, index_part, index_shape, number_of_element, numbers_in_index}
use Rattle.sharding_format.specs.Cells.{Layout, cell_in, cell_by, shard_cells}
use Rattle.sharding_format.specs.Serves.{fixed_size, layout_of, layout, ShardServes}
use Rattle.sharding_format.specs.steps.Decoding.{IsDecoded}
use Rattle.sharding_format.specs.DecodeRefusals.{stored_refusal, HasArray, RefusesSubchunk, slot_by, IndexRefusals, SubchunkRefusals, DecodeRefusals}

-- how stored bytes can be refused
abbrev pub StoredRefused : List (Option (List ℕ)) → CodecError → Type 0
StoredRefused cells e = ((e ≡ TooLarge) × (AreTooLong cells ⊎ AreDamaged cells)) ⊎ ((e ≡ Damaged) × AreDamaged cells)

pub passed_refusal : (cells : List (Option (List ℕ))) (inner e : CodecError) → MayRefuseDecode cells inner → inner ≢ OutOfMemory → e ≡ stored_refusal inner → StoredRefused cells e
passed_refusal cells OutOfMemory e h no_memory is = absurd (no_memory refl)
passed_refusal cells TooLarge e h no_memory is = inl (is, h)
passed_refusal cells Fault e h no_memory is = absurd h
passed_refusal cells _ e h no_memory is = inr (is, h)

-- a subchunk that was decoded has an array
pub HasArray-decoded : (inner_cells : List ℕ → List (Option (List ℕ))) (sub_g : ArraySpec) (b : List ℕ) (s : Slot) (o : Option Array) → IsDecoded inner_cells sub_g b s o → HasArray inner_cells b s
HasArray-decoded inner_cells sub_g b Absent o h = tt
HasArray-decoded inner_cells sub_g b (InRange offset size) None h = absurd h
HasArray-decoded inner_cells sub_g b (InRange offset size) (Some a) h = rw (h.1, all_there-map_some a.elements) refl
HasArray-decoded inner_cells sub_g b Bad o h = absurd h

pub cell_by_slot : (inner_cells : List ℕ → List (Option (List ℕ))) (l : Layout) (b : List ℕ) (numbers : Option (List ℕ)) (i : ℕ)
    → cell_by inner_cells l b numbers i ≡ cell_in inner_cells l.fill b (slot_by (length b) numbers (subchunk_number l.shape l.sub i)) (position_number l.shape l.sub i)
cell_by_slot inner_cells l b None i = refl
cell_by_slot inner_cells l b (Some numbers) i = refl

module _ (inner_cells index_cells : List ℕ → List (Option (List ℕ))) (sub : List ℕ) (location : ShardingIndexLocation) (order : SubchunkWriteOrder) (size : ℕ) (g : ArraySpec) (b : List ℕ) (divides : Divides sub g.shape) where
  -- the shard's cell at place p of subchunk k
  pub cell_here : (k p : ℕ) → k < count_of (grid_of g.shape sub) → p < count_of sub
      → get_or (shard_cells inner_cells index_cells (layout_of sub location order size g) b) (cell_number g.shape sub k p) None
      ≡ cell_in inner_cells g.fill b (slot_by (length b) (numbers_in_index index_cells location size b) k) p
  unfolding shard_cells
  cell_here k p hk hp =
      let l : Layout = layout_of sub location order size g in
      let numbers : Option (List ℕ) = numbers_in_index index_cells l.location l.index_size b in
      let i : ℕ = cell_number g.shape sub k p in
      get_or-map-range_with_len (cell_by inner_cells l b numbers) 0 (count_of g.shape) i i None (cell_number-below g.shape sub divides k p hk hp) (omega arith)
      ∙ cell_by_slot inner_cells l b numbers i
      ∙ ap (λ j. cell_in inner_cells g.fill b (slot_by (length b) numbers j) (position_number g.shape sub i)) (subchunk_number-cell_number g.shape sub divides k p hk hp)
      ∙ ap (cell_in inner_cells g.fill b (slot_by (length b) numbers k)) (position_number-cell_number g.shape sub divides k p hk hp)

  pub cells_counted : length (shard_cells inner_cells index_cells (layout_of sub location order size g) b) ≡ count_of g.shape
  unfolding shard_cells
  cells_counted =
      let l : Layout = layout_of sub location order size g in
      length-map-range_with_len (cell_by inner_cells l b (numbers_in_index index_cells l.location l.index_size b)) 0 (count_of g.shape)

  -- a place of a subchunk that has no cell damages the shard
  pub damaged_cell : (k p : ℕ) → k < count_of (grid_of g.shape sub) → p < count_of sub
      → cell_in inner_cells g.fill b (slot_by (length b) (numbers_in_index index_cells location size b) k) p ≡ None
      → AreDamaged (shard_cells inner_cells index_cells (layout_of sub location order size g) b)
  damaged_cell k p hk hp none =
      damaged_at _ (cell_number g.shape sub k p) (omega (arith, cells_counted, cell_number-below g.shape sub divides k p hk hp)) (cell_here k p hk hp ∙ none)

  -- a slice that is too long makes the shard too long
  pub long_slice : (k offset n : ℕ) → k < count_of (grid_of g.shape sub) → slot_by (length b) (numbers_in_index index_cells location size b) k ≡ InRange offset n
      → length (inner_cells (take n (drop offset b))) ≡ count_of sub → AreTooLong (inner_cells (take n (drop offset b)))
      → AreTooLong (shard_cells inner_cells index_cells (layout_of sub location order size g) b)
  long_slice k offset n hk is counted =
      let cells : List (Option (List ℕ)) = inner_cells (take n (drop offset b)) in
      let position : (p : ℕ) → p < length cells → p < count_of sub = λ p below. omega (arith, counted) in
      too_long_among cells (shard_cells inner_cells index_cells (layout_of sub location order size g) b) (cell_number g.shape sub k)
      (λ p below. omega (arith, cells_counted, cell_number-below g.shape sub divides k p hk (position p below)))
      (λ p q p_in q_in same.
      sym (position_number-cell_number g.shape sub divides k p hk (position p p_in)) ∙ ap (position_number g.shape sub) same ∙ position_number-cell_number g.shape sub divides k q hk (position q q_in))
      (λ p below. cell_here k p hk (position p below) ∙ ap (λ s. cell_in inner_cells g.fill b s p) is)

  -- a slice that is damaged damages the shard
  pub damaged_slice : (k offset n : ℕ) → k < count_of (grid_of g.shape sub) → slot_by (length b) (numbers_in_index index_cells location size b) k ≡ InRange offset n
      → length (inner_cells (take n (drop offset b))) ≡ count_of sub → AreDamaged (inner_cells (take n (drop offset b)))
      → AreDamaged (shard_cells inner_cells index_cells (layout_of sub location order size g) b)
  damaged_slice k offset n hk is counted d =
      let position = damaged_position (inner_cells (take n (drop offset b))) d in
      damaged_cell k position.0 hk (omega (arith, position.1.0, counted)) (ap (λ s. cell_in inner_cells g.fill b s position.0) is ∙ position.1.1)

  bad_stored : (k offset n : ℕ) (e : CodecError) → k < count_of (grid_of g.shape sub) → slot_by (length b) (numbers_in_index index_cells location size b) k ≡ InRange offset n
      → length (inner_cells (take n (drop offset b))) ≡ count_of sub → StoredRefused (inner_cells (take n (drop offset b))) e
      → MayRefuseDecode (shard_cells inner_cells index_cells (layout_of sub location order size g) b) e
  bad_stored k offset n e hk is counted h =
      let damaged = damaged_slice k offset n hk is counted in
      elim h [
        | inl large ↦ rw large.0 (elim large.1 [ inl long ↦ inl (long_slice k offset n hk is counted long) | inr d ↦ inr (damaged d) ])
        | inr d ↦ rw d.0 (damaged d.1)
      ]

  -- the refusal of a subchunk is one that the laws allow
  pub bad_subchunk : (inner_decode : List ℕ → CodecError → Type 0) (k : ℕ) (s : Slot) (e : CodecError) → k < count_of (grid_of g.shape sub) → 0 < count_of sub
      → ((x : List ℕ) → length (inner_cells x) ≡ count_of sub) → slot_by (length b) (numbers_in_index index_cells location size b) k ≡ s
      → RefusesSubchunk inner_decode inner_cells b s k e → MayRefuseDecode (shard_cells inner_cells index_cells (layout_of sub location order size g) b) e
  bad_subchunk inner_decode k Absent e hk pos counted is h = absurd h
  bad_subchunk inner_decode k (InRange offset n) e hk pos counted is h =
      bad_stored k offset n e hk is (counted (take n (drop offset b))) (passed_refusal (inner_cells (take n (drop offset b))) h.inner e h.lawful h.no_memory h.passed_on)
  bad_subchunk inner_decode k Bad e hk pos counted is h = rw h (damaged_cell k 0 hk pos (ap (λ s. cell_in inner_cells g.fill b s 0) is))

  -- without an index the shard is damaged
  pub no_index : 0 < count_of (grid_of g.shape sub) → 0 < count_of sub → numbers_in_index index_cells location size b ≡ None
      → AreDamaged (shard_cells inner_cells index_cells (layout_of sub location order size g) b)
  no_index some pos none = damaged_cell 0 0 some pos (ap (λ o. cell_in inner_cells g.fill b (slot_by (length b) o 0) 0) none)

pub short_index : (index_cells : List ℕ → List (Option (List ℕ))) (location : ShardingIndexLocation) (size : ℕ) (b : List ℕ) → (¬ (size ≤ length b)) → numbers_in_index index_cells location size b ≡ None
unfolding numbers_in_index
short_index index_cells location size b h = rw (lt-leb size (length b) (omega arith)) refl

pub long_enough : (index_cells : List ℕ → List (Option (List ℕ))) (location : ShardingIndexLocation) (size : ℕ) (b ns : List ℕ) → numbers_in_index index_cells location size b ≡ Some ns → size ≤ length b
long_enough index_cells location size b ns told =
    elim (leb_tells size (length b)) [
      | inl below ↦ below.1
      | inr above ↦
          let none : numbers_in_index index_cells location size b ≡ None = short_index index_cells location size b (λ h. omega (arith, above.1, h)) in
          cc
    ]

pub damaged_index : (index_cells : List ℕ → List (Option (List ℕ))) (location : ShardingIndexLocation) (size : ℕ) (b : List ℕ) → AreDamaged (index_cells (index_part location size b)) → numbers_in_index index_cells location size b ≡ None
unfolding numbers_in_index
damaged_index index_cells location size b h =
    elim (nat_le size (length b)) as (λ t. (if t then option_map (map number_of_element) (all_there (index_cells (index_part location size b))) else None) ≡ None) [ true ↦ rw h refl | false ↦ refl ]

-- the cells of an index are never too long
pub index_short : (index_cells : List ℕ → List (Option (List ℕ))) (grid : List ℕ)
    → ((x : List ℕ) → length (index_cells x) ≡ count_of (index_shape grid))
    → ((x : List ℕ) (i : ℕ) → i < count_of (index_shape grid) → IfSome (get_or (index_cells x) i None) (FitsKind (Fixed 8)))
    → 16 * count_of grid < 2 ^ 64 → (x : List ℕ) → ¬ (AreTooLong (index_cells x))
index_short index_cells grid counted fits room x =
    not_too_long 8 (index_cells x) (λ i below. fits x i (omega (arith, counted x))) (omega (arith, counted x, count-append_two grid, room))

-- a refusal by the tests is one that the codec laws allow
may_refuse : (inner index : Meaning) (sub : List ℕ) (location : ShardingIndexLocation) (order : SubchunkWriteOrder) (size : ℕ)
    (g : ArraySpec) (b : List ℕ) (e : CodecError)
    → Divides sub g.shape → 0 < count_of (grid_of g.shape sub) → 0 < count_of sub
    → ((x : List ℕ) → length (inner.cells x) ≡ count_of sub) → ((x : List ℕ) → ¬ (AreTooLong (index.cells x)))
    → RefusedBy (DecodeRefusals inner index (layout_of sub location order size g) b) e
    → MayRefuseDecode (shard_cells inner.cells index.cells (layout_of sub location order size g) b) e
may_refuse inner index sub location order size g b e divides some pos counted short h =
    let none = no_index inner.cells index.cells sub location order size g b divides some pos in
    let part : List ℕ = index_part location size b in
    elim h [
      | inl memory ↦ rw memory tt
      | inr refusals ↦ elim refusals [
        | inl too_short ↦ rw too_short.1 (none (short_index index.cells location size b too_short.0))
        | inr after_length ↦ elim after_length.1 [
          | inl found ↦ elim (passed_refusal (index.cells part) found.inner e found.lawful found.no_memory found.passed_on) [
            | inl large ↦ rw large.0 (elim large.1 [ inl long ↦ absurd (short _ long) | inr d ↦ inr (none (damaged_index index.cells location size b d)) ])
            | inr d ↦ rw d.0 (none (damaged_index index.cells location size b d.1))
          ]
          | inr after_index ↦ elim after_index.1 [
            | inl one ↦ bad_subchunk inner.cells index.cells sub location order size g b divides inner.decode_refusals one.0 _ e one.1.0 pos counted refl one.1.2
            | inr after_subchunks ↦ rw after_subchunks.1.0 (inl after_subchunks.1.1)
          ]
        ]
      ]
    ]

-- the same where the codec serves, by the laws of its parts
pub lawful : (inner index : Meaning) (sub : List ℕ)
    (location : ShardingIndexLocation) (order : SubchunkWriteOrder) (g : ArraySpec) (b : List ℕ) (e : CodecError)
    → ShardServes inner index sub g → 0 < count_of (grid_of g.shape sub) → 0 < count_of sub
    → ((x : List ℕ) → inner.serves → length (inner.cells x) ≡ count_of sub)
    → ((x : List ℕ) → index.serves → length (index.cells x) ≡ count_of (index_shape (grid_of g.shape sub)))
    → ((x : List ℕ) (i : ℕ) → index.serves → i < count_of (index_shape (grid_of g.shape sub)) → IfSome (get_or (index.cells x) i None) (FitsKind (Fixed 8)))
    → RefusedBy (DecodeRefusals inner index (layout sub location order index.representation g) b) e
    → MayRefuseDecode (shard_cells inner.cells index.cells (layout sub location order index.representation g) b) e
lawful inner index sub location order g b e serves some pos counted index_counted index_fitting h =
    may_refuse inner index sub location order (fixed_size index.representation) g b e serves.divides some pos
    (λ x. counted x serves.inner_served)
    (index_short index.cells (grid_of g.shape sub) (λ x. index_counted x serves.index_served.served) (λ x i below. index_fitting x i serves.index_served.served below) serves.index_fits)
    h

-- the tests of the index come first
pub index_first : (inner index : Meaning) (l : Layout) (b : List ℕ) (e : CodecError)
    → RefusedBy (IndexRefusals index.decode_refusals index.cells l.location l.index_size b done) e → RefusedBy (DecodeRefusals inner index l b) e
index_first inner index l b e h =
    elim h [
      | inl memory ↦ inl memory
      | inr refusals ↦ inr (elim refusals [
        | inl too_short ↦ inl too_short
        | inr after_length ↦ inr (after_length.0, elim after_length.1 [ inl found ↦ inl found | inr nothing ↦ absurd nothing.1 ])
      ])
    ]

-- and those of the subchunks after them
pub subchunks_next : (inner index : Meaning) (l : Layout) (b ns : List ℕ) (n : ℕ) (e : CodecError)
    → numbers_in_index index.cells l.location l.index_size b ≡ Some ns → n ≡ count_of (grid_of l.shape l.sub)
    → RefusedBy (SubchunkRefusals inner.decode_refusals inner.cells b (Some ns) n done) e → RefusedBy (DecodeRefusals inner index l b) e
subchunks_next inner index l b ns n e told same h =
    elim h [
      | inl memory ↦ inl memory
      | inr refusals ↦ elim refusals [
        | inl one ↦ inr (inr (long_enough index.cells l.location l.index_size b ns told, inr (rw told refl, inl (rw (told, ← same) one))))
        | inr nothing ↦ absurd nothing.1
      ]
    ]

-- the first subchunk that is refused
pub one_refused : (inner_decode : List ℕ → CodecError → Type 0) (inner_cells : List ℕ → List (Option (List ℕ))) (sub_g : ArraySpec) (b ns : List ℕ) (subchunks : List (Option Array)) (n k : ℕ) (e : CodecError)
    → k < n → ((j : ℕ) → j < k → IsDecoded inner_cells sub_g b (slot_at (length b) ns j) (get_or subchunks j None))
    → RefusedBy (RefusesSubchunk inner_decode inner_cells b (slot_at (length b) ns k) k) e → RefusedBy (SubchunkRefusals inner_decode inner_cells b (Some ns) n done) e
one_refused inner_decode inner_cells sub_g b ns subchunks n k e below earlier h =
    elim h [
      | inl memory ↦ inl memory
      | inr refused ↦ inr (inl (k, (below, (λ j before. HasArray-decoded inner_cells sub_g b (slot_at (length b) ns j) (get_or subchunks j None) (earlier j before)), refused)))
    ]
