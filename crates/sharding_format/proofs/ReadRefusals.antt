-- A refusal of a read of some cells of a shard is one that the codec laws allow.
use Rattle.std.proofs.Common.{◌≡◌, ◌≢◌, ℕ, zero, suc, ◌*◌, ◌^◌, ◌<◌, ◌≤◌, ◌==◌, Bool, true, false, cond, IsTrue, List, [], ◌∷◌, Option, Some, None, IfSome, ◌⊎◌, inl, inr, length, get_or, map, take, drop, refl, sym, ap, ◌∙◌, arith}
use Rattle.std.specs.List.{All, filter}
use Rattle.std.proofs.lemmas.Bool.{eqb-true}
use Rattle.std.proofs.lemmas.List.{length-map, get_or-map}
use Rattle.std.proofs.lemmas.List.Elements.{All-get_or, filter_passes}
use Rattle.std.proofs.lemmas.List.Sums.{length-filter, count_by-le-length}
use Rattle.parts_arrays.specs.ArraySpec.{ArraySpec}
use Rattle.parts_subsets.specs.Selections.{Selection, MatchesSubset, LiesWithin, SelectionRefusals}
use Rattle.parts_row_major.proofs.NumberingLaws.{number_below}
use Rattle.parts_subsets.proofs.SelectionLemmas.{inside_within}
use Rattle.parts_arrays.specs.Types.{byte_size, FitsKind}
use Rattle.parts_row_major.specs.Numbering.{count_of, number_of, IsInside}
use Rattle.parts_subsets.specs.Grid.{grid_of, Divides, subchunk_number, position_number}
use Rattle.parts_errors.specs.Order.{◌or◌then◌, ◌or_as◌then◌, done, RefusedBy}
use Rattle.parts_arrays.specs.declared.data_type.DataTypeSize.{DataTypeSize}
use Rattle.parts_arrays.specs.declared.data_type.DataTypeSize.TheVariants.{Fixed, Variable}
use Rattle.parts_errors.specs.declared.error.CodecError.{CodecError}
use Rattle.parts_errors.specs.declared.error.CodecError.TheVariants.{OutOfMemory, TooLarge, Fault, Damaged}
use Rattle.codec_traits.specs.Meanings.{Meaning}
use Rattle.codec_traits.specs.Cells.{all_there, cell_length}
use Rattle.codec_traits.specs.Refusals.{AreTooLong, AreDamaged, MayRefuseDecode}
use Rattle.storage_handles.specs.Handles.{HandleState, MayFault}
use Rattle.codec_traits.specs.Reads.{cells_at, MayRefuseRead}
use Rattle.storage_handles.specs.Objects.{interval_part, HasInterval, ObjectRefusals, IntervalRefusals}
use Rattle.storage_handles.specs.declared.bytes.Interval.{Interval}
use Rattle.sharding_format.specs.Index.{index_shape, numbers_in_index}
use Rattle.sharding_format.specs.Cells.{Layout, cell_in, cell_by, shard_cells}
use Rattle.sharding_format.specs.Serves.{fixed_size, layout_of, layout, ShardServes}
use Rattle.sharding_format.specs.DecodeRefusals.{stored_refusal, slot_by, IndexRefusals}
use Rattle.sharding_format.specs.ReadRefusals.{AnswerRefusals, numbers_of, positions_in, cells_of_positions, RefusesPositions, ReadRefusals}
use Rattle.sharding_format.specs.declared.location.ShardingIndexLocation.{ShardingIndexLocation}
use Rattle.sharding_format.specs.declared.order.SubchunkWriteOrder.{SubchunkWriteOrder}
use Rattle.sharding_format.specs.declared.slot.Slot.{Slot}
use Rattle.sharding_format.specs.declared.slot.Slot.TheVariants.{Absent, InRange, Bad}
use Rattle.sharding_format.proofs.CellLemmas.{damaged_position, damaged_at, too_long_among}
use Rattle.codec_traits.proofs.ReadLemmas.{sum_alike}
use Rattle.sharding_format.proofs.LayingLemmas.{sum_same}
use Rattle.sharding_format.proofs.RefusalLemmas.{cell_by_slot, damaged_cell, damaged_slice, long_slice, lawful, index_first}
use Rattle.sharding_format.proofs.ReadLemmas.{requested_by, too_long_together}

-- where the element with a rank among those that pass a test stands in a list
spot : (ℕ → Bool) → List ℕ → ℕ → ℕ
spot p [] j = 0
spot p (x ∷ xs) zero = cond (p x) 0 (suc (spot p xs zero))
spot p (x ∷ xs) (suc j) = cond (p x) (suc (spot p xs j)) (suc (spot p xs (suc j)))

record IsSpot (p : ℕ → Bool) (xs : List ℕ) (j i : ℕ) : Type 0 where
  below : i < length xs
  same : get_or xs i 0 ≡ get_or (filter p xs) j 0
  rank : length (filter p (take i xs)) ≡ j

next_spot : (p : ℕ → Bool) (x : ℕ) (xs : List ℕ) (t : Bool) → p x ≡ t → ((j : ℕ) → j < length (filter p xs) → IsSpot p xs j (spot p xs j))
    → (j : ℕ) → j < length (filter p (x ∷ xs)) → IsSpot p (x ∷ xs) j (spot p (x ∷ xs) j)
unfolding spot
next_spot p x xs true is rest zero below = record { below = rw is (omega arith); same = rw is refl; rank = rw is refl }
next_spot p x xs true is rest (suc j) below =
    let h = rest j (omega (arith, rw is at below)) in
    record { below = rw is (omega (arith, h.below)); same = rw is h.same; rank = rw (is, is) (ap suc h.rank) }
next_spot p x xs false is rest zero below =
    let h = rest zero (rw is at below) in
    record { below = rw is (omega (arith, h.below)); same = rw is h.same; rank = rw (is, is) h.rank }
next_spot p x xs false is rest (suc j) below =
    let h = rest (suc j) (rw is at below) in
    record { below = rw is (omega (arith, h.below)); same = rw is h.same; rank = rw (is, is) h.rank }

spot_found : (p : ℕ → Bool) (xs : List ℕ) (j : ℕ) → j < length (filter p xs) → IsSpot p xs j (spot p xs j)
spot_found p [] j below = absurd (omega arith)
spot_found p (x ∷ xs) j below = next_spot p x xs (p x) refl (λ i h. spot_found p xs i h) j below

-- how stored bytes can be refused of which some cells are read
abbrev pub ReadRefused : (cells requested : List (Option (List ℕ))) → CodecError → Type 0
ReadRefused cells requested e =
    ((e ≡ TooLarge) × ((2 ^ 64 ≤ length requested) ⊎ (AreTooLong requested ⊎ (AreTooLong cells ⊎ AreDamaged cells)))) ⊎ ((e ≡ Damaged) × AreDamaged cells)

passed_read : (cells requested : List (Option (List ℕ))) (inner e : CodecError) → MayRefuseRead cells requested inner → inner ≢ OutOfMemory → e ≡ stored_refusal inner → ReadRefused cells requested e
passed_read cells requested OutOfMemory e h no_memory is = absurd (no_memory refl)
passed_read cells requested TooLarge e h no_memory is = inl (is, h)
passed_read cells requested Fault e h no_memory is = absurd h
passed_read cells requested _ e h no_memory is = inr (is, h)

-- how bytes may be refused that are decoded whole, they may be where some of their cells are read
as_read : (cells requested : List (Option (List ℕ))) (e : CodecError) → MayRefuseDecode cells e → MayRefuseRead cells requested e
as_read cells requested OutOfMemory h = tt
as_read cells requested TooLarge h = inr (inr h)
as_read cells requested Fault h = absurd h
as_read cells requested _ h = h

module _ (inner_cells index_cells : List ℕ → List (Option (List ℕ))) (sub : List ℕ) (location : ShardingIndexLocation) (order : SubchunkWriteOrder) (size : ℕ) (g : ArraySpec) (b : List ℕ) (divides : Divides sub g.shape)
    (points : List (List ℕ)) (inside : All (λ point. IsInside point g.shape) points) where
  abbrev cells : List (Option (List ℕ))
  cells = shard_cells inner_cells index_cells (layout_of sub location order size g) b

  abbrev requested : List (Option (List ℕ))
  requested = cells_at cells g.shape points

  abbrev numbers : List ℕ
  numbers = numbers_of g.shape points

  abbrev slot : ℕ → Slot
  slot k = slot_by (length b) (numbers_in_index index_cells location size b) k

  requested_counted : length requested ≡ length numbers
  requested_counted = length-map points (λ point. get_or cells (number_of point g.shape) None) ∙ sym (length-map points (λ point. number_of point g.shape))

  requested_at : (i : ℕ) → i < length numbers → get_or requested i None ≡ cell_in inner_cells g.fill b (slot (subchunk_number g.shape sub (get_or numbers i 0))) (position_number g.shape sub (get_or numbers i 0))
  requested_at i below =
      let l : Layout = layout_of sub location order size g in
      let index : Option (List ℕ) = numbers_in_index index_cells location size b in
      ap (λ t. get_or t i None) (requested_by inner_cells index_cells l b points inside)
      ∙ get_or-map (cell_by inner_cells l b index) numbers i 0 None below
      ∙ cell_by_slot inner_cells l b index (get_or numbers i 0)

  few_positions : (part : List (Option (List ℕ))) (k : ℕ) → length (cells_of_positions part (positions_in g.shape sub numbers k)) ≤ length requested
  few_positions part k =
      let p : ℕ → Bool = λ i. subchunk_number g.shape sub i == k in
      omega (
        arith,
        length-map (positions_in g.shape sub numbers k) (λ position. get_or part position None),
        length-map (filter p numbers) (position_number g.shape sub),
        length-filter p numbers,
        count_by-le-length p numbers,
        requested_counted,
      )

  -- the requested cells of a subchunk are among all asked ones
  long_positions : (k offset n : ℕ) → slot k ≡ InRange offset n → AreTooLong (cells_of_positions (inner_cells (take n (drop offset b))) (positions_in g.shape sub numbers k)) → AreTooLong requested
  long_positions k offset n is =
      let part : List (Option (List ℕ)) = inner_cells (take n (drop offset b)) in
      let at : ℕ → Option (List ℕ) = λ position. get_or part position None in
      let p : ℕ → Bool = λ i. subchunk_number g.shape sub i == k in
      let passing : List ℕ = filter p numbers in
      let positions : List ℕ = map (position_number g.shape sub) passing in
      let few : length (map at positions) ≡ length passing = length-map positions at ∙ length-map passing (position_number g.shape sub) in
      too_long_among (map at positions) requested (spot p numbers)
      (λ j below. omega (arith, (spot_found p numbers j (omega (arith, few))).below, requested_counted))
      (λ i j i_in j_in same.
      sym (spot_found p numbers i (omega (arith, few))).rank ∙ ap (λ s. length (filter p (take s numbers))) same ∙ (spot_found p numbers j (omega (arith, few))).rank)
      (λ j below.
      let h = spot_found p numbers j (omega (arith, few)) in
      let here : subchunk_number g.shape sub (get_or passing j 0) ≡ k = eqb-true _ k (All-get_or (λ x. p x ≡ true) passing j 0 (omega (arith, few)) (filter_passes p numbers)) in
      requested_at (spot p numbers j) h.below
      ∙ ap (λ x. cell_in inner_cells g.fill b (slot (subchunk_number g.shape sub x)) (position_number g.shape sub x)) h.same
      ∙ ap (λ s. cell_in inner_cells g.fill b s (position_number g.shape sub (get_or passing j 0))) (ap slot here ∙ is)
      ∙ sym (get_or-map at positions j 0 None (omega (arith, few, length-map positions at)) ∙ ap at (get_or-map (position_number g.shape sub) passing j 0 0 (omega (arith, few)))))

  stored_read : (k offset n : ℕ) (e : CodecError) → k < count_of (grid_of g.shape sub) → slot k ≡ InRange offset n → length (inner_cells (take n (drop offset b))) ≡ count_of sub
      → ReadRefused (inner_cells (take n (drop offset b))) (cells_of_positions (inner_cells (take n (drop offset b))) (positions_in g.shape sub numbers k)) e → MayRefuseRead cells requested e
  stored_read k offset n e hk is counted h =
      let damaged = damaged_slice inner_cells index_cells sub location order size g b divides k offset n hk is counted in
      elim h [
        | inl large ↦ rw large.0 (elim large.1 [
          | inl many ↦ inl (omega (arith, few_positions (inner_cells (take n (drop offset b))) k))
          | inr long ↦ inr (elim long [
            | inl positions ↦ inl (long_positions k offset n is positions)
            | inr whole ↦ inr (elim whole [ inl slice ↦ inl (long_slice inner_cells index_cells sub location order size g b divides k offset n hk is counted slice) | inr d ↦ inr (damaged d) ])
          ])
        ])
        | inr d ↦ rw d.0 (damaged d.1)
      ]

  -- the refusal of a subchunk's places is one that the laws allow
  pub bad_positions : (inner_read : List ℕ → List (List ℕ) → CodecError → Type 0) (k : ℕ) (s : Slot) (e : CodecError) → k < count_of (grid_of g.shape sub) → 0 < count_of sub
      → ((x : List ℕ) → length (inner_cells x) ≡ count_of sub) → slot k ≡ s
      → RefusesPositions inner_read inner_cells sub b s (positions_in g.shape sub numbers k) k e → MayRefuseRead cells requested e
  bad_positions inner_read k Absent e hk pos counted is h = absurd h
  bad_positions inner_read k (InRange offset n) e hk pos counted is h =
      let slice : List ℕ = take n (drop offset b) in
      stored_read k offset n e hk is (counted slice) (passed_read (inner_cells slice) (cells_of_positions (inner_cells slice) (positions_in g.shape sub numbers k)) h.1.inner e h.1.lawful h.1.no_memory h.1.passed_on)
  bad_positions inner_read k Bad e hk pos counted is h = rw h.1 (damaged_cell inner_cells index_cells sub location order size g b divides k 0 hk pos (ap (λ s. cell_in inner_cells g.fill b s 0) is))

-- a refusal by the tests is one that the laws allow
pub may_refuse_read : (inner index : Meaning) (sub : List ℕ) (location : ShardingIndexLocation) (order : SubchunkWriteOrder) (g : ArraySpec) (b : List ℕ)
    (points : List (List ℕ)) (e : CodecError)
    → ShardServes inner index sub g → 0 < count_of (grid_of g.shape sub) → 0 < count_of sub
    → ((x : List ℕ) → inner.serves → length (inner.cells x) ≡ count_of sub)
    → ((x : List ℕ) → index.serves → length (index.cells x) ≡ count_of (index_shape (grid_of g.shape sub)))
    → ((x : List ℕ) (i : ℕ) → index.serves → i < count_of (index_shape (grid_of g.shape sub)) → IfSome (get_or (index.cells x) i None) (FitsKind (Fixed 8)))
    → All (λ point. IsInside point g.shape) points
    → ReadRefusals inner index (layout sub location order index.representation g) b points e
    → MayRefuseRead (shard_cells inner.cells index.cells (layout sub location order index.representation g) b)
    (cells_at (shard_cells inner.cells index.cells (layout sub location order index.representation g) b) g.shape points) e
may_refuse_read inner index sub location order g b points e serves some pos counted index_counted index_fitting inside h =
    let l : Layout = layout sub location order index.representation g in
    let cells : List (Option (List ℕ)) = shard_cells inner.cells index.cells l b in
    let untested : Meaning = record inner { decode_refusals = λ x r. ⊥ } in
    let by_index : IndexRefusals index.decode_refusals index.cells location (fixed_size index.representation) b done e → MayRefuseRead cells (cells_at cells g.shape points) e = λ refused.
    as_read cells (cells_at cells g.shape points) e
    (lawful untested index sub location order g b e (record { supported = serves.supported; fill_fits = serves.fill_fits; same_axes = serves.same_axes; divides = serves.divides; cells_fit = serves.cells_fit; bytes_fit = serves.bytes_fit; index_fits = serves.index_fits; index_served = serves.index_served; inner_served = serves.inner_served }) some pos counted index_counted index_fitting
    (index_first untested index l b e (inr refused))) in
    elim h [
      | inl short ↦ by_index (inl short)
      | inr long_enough ↦ elim long_enough.1 [
        | inl damaged ↦ by_index (inr (long_enough.0, inl damaged))
        | inr there ↦ elim there.1 [
          | inl one ↦
              bad_positions inner.cells index.cells sub location order (fixed_size index.representation) g b serves.divides points inside (AnswerRefusals inner.answerable inner.read_refusals) one.0 _ e one.1.0 pos (λ x. counted x serves.inner_served) refl one.1.2
          | inr lengths ↦ rw lengths.1.0 (inr (inl lengths.1.1))
        ]
      ]
    ]

-- also where the bytes stand in an interval of an object
pub object_lawful : (old new : HandleState) (interval : Interval) (refusals : List ℕ → CodecError → Type 0) (cells requested : List (Option (List ℕ))) (e : CodecError)
    → (refusals (interval_part interval old.contents) e → MayRefuseRead cells requested e) → RefusedBy (ObjectRefusals old new (IntervalRefusals interval old.contents refusals)) e
    → IsTrue old.transparent → HasInterval interval old.contents → MayFault old new e ⊎ MayRefuseRead cells requested e
object_lawful old new interval refusals cells requested e step h t there =
    elim h [
      | inl memory ↦ inr (rw memory tt)
      | inr checked ↦ elim (checked t) [
        | inl fault ↦ inl fault
        | inr found ↦ elim found [ inl outside ↦ absurd (outside.0 there) | inr read ↦ inr (step read.1) ]
      ]
    ]

none_or_some : {A : Type 0} (o : Option A) → (o ≡ None) ⊎ (o ≢ None)
none_or_some None = inl refl
none_or_some (Some x) = inr (λ e. cc)

sized_cell : (n : ℕ) (o : Option (List ℕ)) → o ≢ None → IfSome o (FitsKind (Fixed n)) → cell_length o ≡ n
sized_cell n None some fits = absurd (some refl)
sized_cell n (Some e) some fits = fits

-- requested cells of one size that have too many bytes together are too long, or some cell isn't there
too_many_bytes : (kind : DataTypeSize) (cells : List (Option (List ℕ))) (shape : List ℕ) (points : List (List ℕ)) → All (λ point. IsInside point shape) points → length cells ≡ count_of shape
    → ((i : ℕ) → i < count_of shape → IfSome (get_or cells i None) (FitsKind kind)) → 2 ^ 64 ≤ length points * byte_size kind → AreTooLong (cells_at cells shape points) ⊎ AreDamaged cells
too_many_bytes Variable cells shape points inside counted fits big = absurd (omega arith)
too_many_bytes (Fixed n) cells shape points inside counted fits big =
    let cell : List ℕ → Option (List ℕ) = λ point. get_or cells (number_of point shape) None in
    let requested : List (Option (List ℕ)) = map cell points in
    let many : length requested ≡ length points = length-map points cell in
    let at : (i : ℕ) → i < length points → get_or requested i None ≡ cell (get_or points i []) = λ i below. get_or-map cell points i [] None below in
    let placed : (i : ℕ) → i < length points → number_of (get_or points i []) shape < count_of shape = λ i below. number_below (get_or points i []) shape (inside i [] below) in
    elim (none_or_some (all_there requested)) [
      | inl none ↦
          let position = damaged_position requested none in
          let below : position.0 < length points = omega (arith, position.1.0, many) in
          inr (damaged_at cells (number_of (get_or points position.0 []) shape) (omega (arith, placed position.0 below, counted)) (sym (at position.0 below) ∙ position.1.1))
      | inr some ↦
          let same = sum_same (λ i. cell_length (get_or requested i None)) (λ i. n) (length requested) (λ i below.
          sized_cell n (get_or requested i None) (λ none. some (damaged_at requested i below none)) (rw (at i (omega (arith, many))) (fits (number_of (get_or points i []) shape) (placed i (omega (arith, many)))))) in
          inl (too_long_together requested (omega (arith, same, sum_alike (λ i. n) n 0 (length requested) (λ i le below. refl), ap (λ k. k * n) many, big)))
    ]

-- a refusal of what is asked is one that the laws allow
pub requested_refused : (kind : DataTypeSize) (cells : List (Option (List ℕ))) (shape : List ℕ) (selection : Selection) (e : CodecError)
    → length cells ≡ count_of shape → ((i : ℕ) → i < count_of shape → IfSome (get_or cells i None) (FitsKind kind))
    → MatchesSubset selection → selection.axes ≡ length shape → LiesWithin selection.subset selection.points shape
    → SelectionRefusals shape selection (length selection.points * byte_size kind < 2 ^ 64 or TooLarge then done) e → MayRefuseRead cells (cells_at cells shape selection.points) e
requested_refused kind cells shape selection e counted fits by_subset axes within h =
    elim h [
      | inl other ↦ absurd (other.0 axes)
      | inr next ↦ elim next.1 [
        | inl outside ↦ absurd (outside.0 within)
        | inr there ↦ elim there.1 [
          | inl many ↦ rw many.1 (inl (omega (arith, many.0, length-map selection.points (λ point. get_or cells (number_of point shape) None))))
          | inr few ↦ elim few.1 [
            | inl big ↦
                rw big.1 (inr (elim (too_many_bytes kind cells shape selection.points (inside_within shape selection by_subset within) counted fits (omega (arith, big.0))) [
                  | inl long ↦ inl long
                  | inr d ↦ inr (inr d)
                ]))
            | inr nothing ↦ absurd nothing.1
          ]
        ]
      ]
    ]
