-- The steps of decoding a shard.
use Rattle.std.proofs.Common.{◌≡◌, ℕ, ◌+◌, ◌<◌, List, [], ◌∷◌, ◌++◌, Option, Some, None, length, map, get_or, refl, sym, ap, ◌∙◌, arith}
use Rattle.std.proofs.lemmas.List.Elements.{All-get_or, All-from_get_or}
use Rattle.std.proofs.lemmas.List.FromFn.{map-range_with_len_more, get_or-map-range_with_len, length-map-range_with_len}
use Rattle.std.specs.List.{range_with_len}
use borrow.Author.Count.{below_more}
use Rattle.std.proofs.Math.ListN.{get_or-append}
use Rattle.std.proofs.lemmas.List.{get_or_push, length_push, ext_get_or, length-map, get_or-map}
use Rattle.parts_row_major.specs.Numbering.{count_of}
use Rattle.parts_arrays.specs.Arrays.{Array}
use Rattle.parts_arrays.specs.ArraySpec.{ArraySpec, IsArrayOf}
use Rattle.parts_arrays.specs.Types.{size_of, FitsKind}
use Rattle.parts_arrays.specs.declared.data_type.DataTypeSize.{DataTypeSize}
use Rattle.sharding_format.specs.declared.location.ShardingIndexLocation.{ShardingIndexLocation}
use Rattle.sharding_format.specs.declared.order.SubchunkWriteOrder.{SubchunkWriteOrder}
use Rattle.sharding_format.specs.declared.slot.Slot.{Slot}
use Rattle.sharding_format.specs.declared.slot.Slot.TheVariants.{Absent, InRange, Bad}
use Rattle.parts_subsets.specs.Grid.{grid_of, Divides, subchunk_number, position_number}
use Rattle.sharding_format.specs.Index.{slot_at, numbers_in_index}
use Rattle.sharding_format.specs.Cells.{Layout, cell_in, cell_by, shard_cells}
use Rattle.sharding_format.specs.Serves.{subchunk_spec, layout_of}
use Rattle.parts_subsets.proofs.GridLaws.{subchunk_number-below, position_number-below}
use Rattle.sharding_format.specs.steps.Decoding.{IsDecoded, IsPartOf, IsChunkOf, element_at, element_in}

pub IsChunkOf-chunk : (kind : DataTypeSize) (sub : List ℕ) (p : ℕ) (o : Option Array) → p < count_of sub → IsPartOf kind (count_of sub) o → IsChunkOf kind p o
IsChunkOf-chunk kind sub p None below h = tt
IsChunkOf-chunk kind sub p (Some a) below h =
    let inside : p < length a.elements = omega (arith, h.0) in
    (inside, All-get_or (FitsKind kind) a.elements p [] inside h.1)

pub IsPartOf-decoded : (inner_cells : List ℕ → List (Option (List ℕ))) (sub_g : ArraySpec) (b : List ℕ) (s : Slot) (o : Option Array) → IsDecoded inner_cells sub_g b s o → IsPartOf (size_of sub_g.data_type) (count_of sub_g.shape) o
IsPartOf-decoded inner_cells sub_g b s None h = tt
IsPartOf-decoded inner_cells sub_g b Absent (Some a) h = absurd h
IsPartOf-decoded inner_cells sub_g b (InRange offset size) (Some a) h = (h.0.counted, h.0.fitting)
IsPartOf-decoded inner_cells sub_g b Bad (Some a) h = absurd h

pub gathered_more : (f : ℕ → List ℕ) (xs ys : List (List ℕ)) (e : List ℕ) (i : ℕ) → xs ≡ map f (range_with_len 0 i) → ys ≡ xs ++ e ∷ [] → e ≡ f i
    → ys ≡ map f (range_with_len 0 (i + 1))
gathered_more f xs ys e i h k m = k ∙ ap (λ t. t ++ e ∷ []) h ∙ ap (λ t. map f (range_with_len 0 i) ++ t ∷ []) m ∙ sym (map-range_with_len_more f 0 i i (omega arith))

pub counted_more : (xs ys : List (Option Array)) (x : Option Array) (k : ℕ) → length xs ≡ k → ys ≡ xs ++ x ∷ [] → length ys ≡ k + 1
counted_more xs ys x k len grown = rw grown (omega (arith, length_push xs x))

-- one more item has been found
pub each_more : (P : ℕ → Option Array → Type 0) (xs ys : List (Option Array)) (x : Option Array) (k : ℕ) → length xs ≡ k
    → ((j : ℕ) → j < k → P j (get_or xs j None)) → ys ≡ xs ++ x ∷ [] → P k x → (j : ℕ) → j < k + 1 → P j (get_or ys j None)
each_more P xs ys x k len each grown here =
    below_more (λ j. P j (get_or ys j None)) k
    (λ j below. rw (grown, get_or-append xs (x ∷ []) None j (omega arith)) (each j below))
    (rw (grown, get_or_push xs x None k len) here)

pub cell_of_decoded : (inner_cells : List ℕ → List (Option (List ℕ))) (sub_g : ArraySpec) (fill b : List ℕ) (s : Slot) (o : Option Array) (p : ℕ)
    → IsDecoded inner_cells sub_g b s o → p < count_of sub_g.shape → cell_in inner_cells fill b s p ≡ Some (element_at fill o p)
cell_of_decoded inner_cells sub_g fill b Absent None p h below = refl
cell_of_decoded inner_cells sub_g fill b Absent (Some a) p h below = absurd h
cell_of_decoded inner_cells sub_g fill b (InRange offset size) None p h below = absurd h
cell_of_decoded inner_cells sub_g fill b (InRange offset size) (Some a) p h below =
    rw h.1 (get_or-map Some a.elements p [] None (omega (arith, h.0.counted)))
cell_of_decoded inner_cells sub_g fill b Bad o p h below = absurd h

fits_decoded : (inner_cells : List ℕ → List (Option (List ℕ))) (sub_g : ArraySpec) (fill b : List ℕ) (s : Slot) (o : Option Array) (p : ℕ)
    → FitsKind (size_of sub_g.data_type) fill → IsDecoded inner_cells sub_g b s o → p < count_of sub_g.shape → FitsKind (size_of sub_g.data_type) (element_at fill o p)
fits_decoded inner_cells sub_g fill b s None p fits h below = fits
fits_decoded inner_cells sub_g fill b Absent (Some a) p fits h below = absurd h
fits_decoded inner_cells sub_g fill b (InRange offset size) (Some a) p fits h below =
    All-get_or (FitsKind (size_of sub_g.data_type)) a.elements p [] (omega (arith, h.0.counted)) h.0.fitting
fits_decoded inner_cells sub_g fill b Bad (Some a) p fits h below = absurd h

module _ (inner_cells index_cells : List ℕ → List (Option (List ℕ))) (sub : List ℕ) (location : ShardingIndexLocation) (order : SubchunkWriteOrder) (size : ℕ) (g : ArraySpec) (b ns : List ℕ) (subchunks : List (Option Array)) (elements : List (List ℕ))
    (divides : Divides sub g.shape) (each : (k : ℕ) → k < count_of (grid_of g.shape sub) → IsDecoded inner_cells (subchunk_spec sub g) b (slot_at (length b) ns k) (get_or subchunks k None))
    (is : elements ≡ map (element_in subchunks g.fill g.shape sub) (range_with_len 0 (count_of g.shape))) where
  gathered_count : length elements ≡ count_of g.shape
  gathered_count = ap length is ∙ length-map-range_with_len (element_in subchunks g.fill g.shape sub) 0 (count_of g.shape)

  gathered_at : (i : ℕ) → i < count_of g.shape → get_or elements i [] ≡ element_in subchunks g.fill g.shape sub i
  gathered_at i below = ap (λ t. get_or t i []) is ∙ get_or-map-range_with_len (element_in subchunks g.fill g.shape sub) 0 (count_of g.shape) i i [] below (omega arith)

  -- the decoded subchunks, gathered, are an array of the shard's array spec
  pub IsArrayOf-gathered : FitsKind (size_of g.data_type) g.fill → IsArrayOf g elements
  IsArrayOf-gathered fits = record {
    counted = gathered_count;
    fitting = All-from_get_or (FitsKind (size_of g.data_type)) elements [] (λ i below.
        let inside : i < count_of g.shape = omega (arith, gathered_count) in
        let k = subchunk_number g.shape sub i in
        rw (gathered_at i inside) (fits_decoded inner_cells (subchunk_spec sub g) g.fill b (slot_at (length b) ns k) (get_or subchunks k None) (position_number g.shape sub i) fits
        (each k (subchunk_number-below g.shape sub divides i inside)) (position_number-below g.shape sub divides i inside)));
  }

  -- and its elements are the shard's cells
  pub cells-gathered : numbers_in_index index_cells location size b ≡ Some ns → shard_cells inner_cells index_cells (layout_of sub location order size g) b ≡ map Some elements
  unfolding shard_cells
  cells-gathered told =
      let l : Layout = layout_of sub location order size g in
      let cell : ℕ → Option (List ℕ) = cell_by inner_cells l b (Some ns) in
      rw told (ext_get_or None _ _ (length-map-range_with_len cell 0 (count_of g.shape) ∙ sym gathered_count ∙ sym (length-map elements Some))
      (λ i below.
      let inside : i < count_of g.shape = omega (arith, length-map-range_with_len cell 0 (count_of g.shape)) in
      let k = subchunk_number g.shape sub i in
      get_or-map-range_with_len cell 0 (count_of g.shape) i i None inside (omega arith)
      ∙ cell_of_decoded inner_cells (subchunk_spec sub g) g.fill b (slot_at (length b) ns k) (get_or subchunks k None) (position_number g.shape sub i)
      (each k (subchunk_number-below g.shape sub divides i inside)) (position_number-below g.shape sub divides i inside)
      ∙ ap Some (sym (gathered_at i inside))
      ∙ sym (get_or-map Some elements i [] None (omega (arith, gathered_count)))))
