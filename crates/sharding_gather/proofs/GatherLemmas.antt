-- The requested cells put together.
use Rattle.std.proofs.Common.{◌≡◌, ◌≢◌, ℕ, ◌^◌, ◌<◌, ◌≤◌, List, [], ◌∷◌, Option, Some, None, ◌⊎◌, inl, inr, length, map, get_or, take, drop, refl, sym, ap, ◌∙◌, arith}
use Rattle.std.specs.List.{All, range_with_len}
use Rattle.std.proofs.lemmas.List.{ext_get_or, length-map, get_or-map}
use Rattle.std.proofs.lemmas.List.Elements.{All-get_or, All-from_get_or}
use Rattle.std.proofs.lemmas.List.FromFn.{get_or-map-range_with_len, length-map-range_with_len}
use Rattle.parts_arrays.specs.Arrays.{Array}
use Rattle.parts_arrays.specs.Types.{FitsKind}
use Rattle.parts_arrays.specs.declared.data_type.DataTypeSize.{DataTypeSize}
use Rattle.codec_traits.specs.Cells.{cell_length}
use Rattle.codec_traits.specs.Refusals.{AreTooLong}
use Rattle.codec_traits.specs.CellLaws.{all_there-map_some}
use Rattle.sharding_format.specs.Index.{slot_at}
use Rattle.sharding_format.specs.Cells.{cell_in, indexed_cell}
use Rattle.sharding_format.specs.steps.Decoding.{IsChunkOf, element_at, IsPartOf}
use Rattle.sharding_format.specs.ReadRefusals.{positions_in, HasPositions}
use Rattle.sharding_gather.specs.steps.Grouping.{AreGrouped, lists_of, standing_at}
use Rattle.sharding_format.specs.steps.Reading.{IsReadAt}
use Rattle.sharding_gather.specs.steps.Gathering.{AreRead, element_read, bytes_read}
use Rattle.sharding_gather.specs.declared.grouping.Grouping.{Grouping}
use Rattle.sharding_format.specs.declared.slot.Slot.{Slot}
use Rattle.sharding_format.specs.declared.slot.Slot.TheVariants.{Absent, InRange, Bad}
use Rattle.sharding_format.proofs.LayingLemmas.{sum_same}
use Rattle.sharding_format.proofs.ReadLemmas.{too_long_together}

-- what was read of a subchunk has an element at each rank
pub IsChunkOf-part : (kind : DataTypeSize) (n rank : ℕ) (o : Option Array) → rank < n → IsPartOf kind n o → IsChunkOf kind rank o
IsChunkOf-part kind n rank None below h = tt
IsChunkOf-part kind n rank (Some a) below h =
    let inside : rank < length a.elements = omega (arith, h.0) in
    (inside, All-get_or (FitsKind kind) a.elements rank [] inside h.1)

fits_chunk : (kind : DataTypeSize) (fill : List ℕ) (rank : ℕ) (o : Option Array) → FitsKind kind fill → IsChunkOf kind rank o → FitsKind kind (element_at fill o rank)
fits_chunk kind fill rank None fits h = fits
fits_chunk kind fill rank (Some a) fits h = h.1

-- the element at a rank is the cell at the place of this rank
pub cell_of_part : (inner_cells : List ℕ → List (Option (List ℕ))) (fill b : List ℕ) (s : Slot) (positions : List ℕ) (o : Option Array) (rank : ℕ)
    → IsReadAt inner_cells b s positions o → rank < length positions → cell_in inner_cells fill b s (get_or positions rank 0) ≡ Some (element_at fill o rank)
cell_of_part inner_cells fill b Absent positions None rank h below = refl
cell_of_part inner_cells fill b Absent positions (Some a) rank h below = absurd h
cell_of_part inner_cells fill b (InRange offset size) positions None rank h below = absurd h
cell_of_part inner_cells fill b (InRange offset size) positions (Some a) rank h below =
    let cell : ℕ → Option (List ℕ) = λ position. get_or (inner_cells (take size (drop offset b))) position None in
    let inside : rank < length a.elements = omega (arith, ap length h, length-map positions cell, length-map {B = Option (List ℕ)} a.elements Some) in
    sym (get_or-map cell positions rank 0 None below) ∙ ap (λ t. get_or t rank None) h ∙ get_or-map Some a.elements rank [] None inside
cell_of_part inner_cells fill b Bad positions o rank h below = absurd h

-- the places of a subchunk that was read are there
HasPositions-read : (inner_cells : List ℕ → List (Option (List ℕ))) (b : List ℕ) (s : Slot) (positions : List ℕ) (o : Option Array) → IsReadAt inner_cells b s positions o → HasPositions inner_cells b s positions
HasPositions-read inner_cells b Absent positions o h = tt
HasPositions-read inner_cells b (InRange offset size) positions None h = absurd h
HasPositions-read inner_cells b (InRange offset size) positions (Some a) h = rw (h, all_there-map_some a.elements) refl
HasPositions-read inner_cells b Bad positions o h = absurd h

-- and no places are there in any subchunk
HasPositions-none : (inner_cells : List ℕ → List (Option (List ℕ))) (b : List ℕ) (s : Slot) → HasPositions inner_cells b s []
HasPositions-none inner_cells b Absent = tt
HasPositions-none inner_cells b (InRange offset size) = refl
HasPositions-none inner_cells b Bad = refl

none_or_some : (xs : List ℕ) → (xs ≡ []) ⊎ (xs ≢ [])
none_or_some [] = inl refl
none_or_some (x ∷ xs) = inr (λ e. cc)

-- of each group the places are there that stand in it
pub AreRead-parts : (shape sub numbers : List ℕ) (kind : DataTypeSize) (groups : Grouping) (parts : List (Option Array)) → AreGrouped shape sub numbers groups → length parts ≡ length groups.subchunks.items
    → ((j : ℕ) → j < length parts → IsPartOf kind (length (get_or (lists_of groups) j [])) (get_or parts j None)) → AreRead kind groups parts
AreRead-parts shape sub numbers kind groups parts grouped many read = record {
  below = λ i below.
      let stands = grouped.each i (omega (arith, grouped.counted)) in
      omega (arith, stands.group_below);
  each = λ i below.
      let stands = grouped.each i (omega (arith, grouped.counted)) in
      let at = standing_at groups i in
      IsChunkOf-part kind (length (get_or (lists_of groups) at.group [])) at.rank (get_or parts at.group None) stands.rank_below (read at.group (omega (arith, stands.group_below)));
}

module _ (groups : Grouping) (parts : List (Option Array)) (fill : List ℕ) (elements : List (List ℕ)) (is : elements ≡ map (element_read groups parts fill) (range_with_len 0 (length groups.standings.items))) where
  -- as many elements as cells are asked
  pub elements_counted : length elements ≡ length groups.standings.items
  elements_counted = ap length is ∙ length-map-range_with_len (element_read groups parts fill) 0 (length groups.standings.items)

  element_at_position : (i : ℕ) → i < length groups.standings.items → get_or elements i [] ≡ element_read groups parts fill i
  element_at_position i below =
      ap (λ t. get_or t i []) is ∙ get_or-map-range_with_len (element_read groups parts fill) 0 (length groups.standings.items) i i [] below (omega arith)

  -- each of which fits
  pub elements_fitting : (kind : DataTypeSize) → FitsKind kind fill → AreRead kind groups parts → All (FitsKind kind) elements
  elements_fitting kind fits read =
      All-from_get_or (FitsKind kind) elements [] (λ i below.
      let inside : i < length groups.standings.items = omega (arith, elements_counted) in
      let at = standing_at groups i in
      rw (element_at_position i inside) (fits_chunk kind fill at.rank (get_or parts at.group None) fits (read.each i inside)))

module _ (inner_cells : List ℕ → List (Option (List ℕ))) (shape sub fill b index numbers : List ℕ) (size : ℕ) (groups : Grouping) (parts : List (Option Array))
    (sized : length b ≡ size) (grouped : AreGrouped shape sub numbers groups) (many : length parts ≡ length groups.subchunks.items)
    (read : (j : ℕ) → j < length parts → IsReadAt inner_cells b (slot_at size index (get_or groups.subchunks.items j 0)) (get_or (lists_of groups) j []) (get_or parts j None)) where
  -- the element that was read of an asked cell is the cell's
  cell_read : (i : ℕ) → i < length numbers → indexed_cell inner_cells shape sub fill b index (get_or numbers i 0) ≡ Some (element_read groups parts fill i)
  cell_read i below =
      let at = standing_at groups i in
      let stands = grouped.each i below in
      rw (sized, ← stands.subchunk, ← stands.position)
      (cell_of_part inner_cells fill b (slot_at size index (get_or groups.subchunks.items at.group 0)) (get_or (lists_of groups) at.group []) (get_or parts at.group None) at.rank
      (read at.group (omega (arith, stands.group_below))) stands.rank_below)

  pub cells_read : (elements : List (List ℕ)) → elements ≡ map (element_read groups parts fill) (range_with_len 0 (length groups.standings.items)) → map (indexed_cell inner_cells shape sub fill b index) numbers ≡ map Some elements
  cells_read elements is =
      let cell : ℕ → Option (List ℕ) = indexed_cell inner_cells shape sub fill b index in
      let counted = elements_counted groups parts fill elements is in
      ext_get_or None _ _ (length-map numbers cell ∙ sym grouped.counted ∙ sym counted ∙ sym (length-map elements Some))
      (λ i below.
      let inside : i < length numbers = omega (arith, length-map numbers cell) in
      get_or-map cell numbers i 0 None inside
      ∙ cell_read i inside
      ∙ ap Some (sym (element_at_position groups parts fill elements is i (omega (arith, grouped.counted))))
      ∙ sym (get_or-map Some elements i [] None (omega (arith, counted, grouped.counted))))

  -- elements that are too long together
  pub too_long_read : 2 ^ 64 ≤ bytes_read groups parts fill (length groups.standings.items) → AreTooLong (map (indexed_cell inner_cells shape sub fill b index) numbers)
  too_long_read long =
      let cell : ℕ → Option (List ℕ) = indexed_cell inner_cells shape sub fill b index in
      let cells : List (Option (List ℕ)) = map cell numbers in
      let n : ℕ = length numbers in
      let counted = length-map numbers cell in
      let same = sum_same (λ i. cell_length (get_or cells i None)) (λ i. length (element_read groups parts fill i)) n (λ i below. ap cell_length (get_or-map cell numbers i 0 None below ∙ cell_read i below)) in
      let few = ap (bytes_read groups parts fill) grouped.counted in
      too_long_together cells (rw counted (omega (arith, same, few, long)))

  -- all requested cells are there
  pub positions_read : (k : ℕ) → HasPositions inner_cells b (slot_at (length b) index k) (positions_in shape sub numbers k)
  positions_read k = elim (none_or_some (positions_in shape sub numbers k)) [
    | inl none ↦ rw (sized, none) (HasPositions-none inner_cells b (slot_at size index k))
    | inr some ↦
        let used = grouped.used.all k some in
        let j = used.0 in
        let positions : get_or (lists_of groups) j [] ≡ positions_in shape sub numbers k =
        ap (λ t. get_or t j []) grouped.positions ∙ get_or-map (positions_in shape sub numbers) groups.subchunks.items j 0 [] used.1 ∙ ap (positions_in shape sub numbers) used.2 in
        rw sized (HasPositions-read inner_cells b (slot_at size index k) (positions_in shape sub numbers k) (get_or parts j None) (rw (positions, used.2) at (read j (omega (arith, used.1)))))
  ]
