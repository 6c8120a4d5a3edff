-- The subset of a subchunk, found axis by axis, lies in the shape that is cut.
use Rattle.std.proofs.Common.{◌≡◌, ℕ, ◌+◌, ◌*◌, ◌^◌, ◌<◌, ◌≤◌, inl, inr, List, length, get_or, sym, ◌∙◌, arith}
use Rattle.std.proofs.lemmas.List.{ext_get_or}
use Rattle.std.proofs.lemmas.List.Elements.{AllZip-get_or}
use Rattle.parts_errors.specs.Order.{done, RefusedBy}
use Rattle.parts_row_major.specs.Numbering.{count_of, AllPositive, zip_with, point_of}
use Rattle.parts_row_major.specs.Subsets.{Subset, IsSubset}
use Rattle.parts_subsets.specs.Grid.{Divides, grid_of, subset_of_subchunk, subchunk}
use Rattle.parts_arrays.specs.Types.{size_of, HasElements}
use Rattle.parts_arrays.specs.Arrays.{Array, extracted}
use Rattle.parts_subsets.specs.SubsetRefusals.{SubsetRefusals}
use Rattle.parts_arrays.specs.Refusals.{ValidRefusals}
use Rattle.parts_arrays.specs.declared.data_type.DataType.{DataType}
use Rattle.parts_errors.specs.declared.error.CodecError.{CodecError}
use Rattle.parts_errors.specs.declared.error.CodecError.TheVariants.{OutOfMemory}
use Rattle.parts_row_major.proofs.NumberingLaws.{length-point_of}
use Rattle.parts_row_major.proofs.SubsetLaws.{length-zip_with, get_or-zip_with}
use Rattle.parts_subsets.proofs.GridLaws.{count-positive, count-grid, positive_factor, at_least, length-grid, axis_le_count, subset_of_subchunk-axes, subset_of_subchunk-is_subset, subset_of_subchunk-lies_in}
use Rattle.parts_arrays.proofs.GridArrays.{extracted-subset_of_subchunk}
use Rattle.sharding_format.specs.Grids.{SubchunkSubsetRefusals}

-- two lists joined number by number
pub zip_with-from_each : (f : ℕ → ℕ → ℕ) (xs ys zs : List ℕ) → length xs ≡ length ys → length zs ≡ length xs
    → ((k : ℕ) → k < length xs → get_or zs k 0 ≡ f (get_or xs k 0) (get_or ys k 0)) → zs ≡ zip_with f xs ys
zip_with-from_each f xs ys zs same counted each =
    ext_get_or 0 zs (zip_with f xs ys) (counted ∙ sym (length-zip_with f xs ys same)) (λ k below.
    each k (omega arith) ∙ sym (get_or-zip_with f xs ys k (omega arith) (omega arith)))

-- no start of a subset passes 64 bits
pub product_fits : (point sub : List ℕ) (k : ℕ) → length point ≡ length sub → k < length sub → IsSubset (zip_with ◌*◌ point sub) sub → get_or point k 0 * get_or sub k 0 < 2 ^ 64
product_fits point sub k same below subset =
    omega (
      arith,
      get_or-zip_with ◌*◌ point sub k (omega arith) below,
      length-zip_with ◌*◌ point sub same,
      AllZip-get_or (λ first len. first + len < 2 ^ 64) (zip_with ◌*◌ point sub) sub k 0 0 subset (omega (arith, length-zip_with ◌*◌ point sub same)),
    )

-- the coordinate of a subchunk has as many axes as the subchunk
pub length-point : (grid sub point : List ℕ) (k : ℕ) → length grid ≡ length sub → point ≡ point_of k grid → length point ≡ length sub
length-point grid sub point k same is = rw is (length-point_of k grid ∙ same)

-- a shape that fits has no more subchunks than cells
pub grid_le_count : (shape sub : List ℕ) → AllPositive shape → Divides sub shape → count_of (grid_of shape sub) ≤ count_of shape
grid_le_count shape sub positive divides =
    let cells = count-grid shape sub divides in
    let positions = positive_factor (count_of (grid_of shape sub)) (count_of sub) (count_of shape) (count-positive shape positive) (sym cells) in
    omega (arith, cells, at_least (count_of (grid_of shape sub)) (count_of sub) positions)

module _ (shape sub : List ℕ) (k : ℕ) (positive : AllPositive shape) (divides : Divides sub shape) (fits : count_of shape < 2 ^ 64) (below : k < count_of (grid_of shape sub)) where
  -- the subset of a subchunk is refused only for memory
  pub subset_refused : (e : CodecError) → length shape ≡ length sub → RefusedBy (SubchunkSubsetRefusals (grid_of shape sub) sub k) e → e ≡ OutOfMemory
  subset_refused e same h =
      let axes : length (grid_of shape sub) ≡ length sub = length-grid shape sub divides ∙ same in
      let few : count_of (grid_of shape sub) < 2 ^ 64 = omega (arith, grid_le_count shape sub positive divides, fits) in
      let subset = subset_of_subchunk-is_subset shape sub k divides below (λ axis lt. omega (arith, axis_le_count shape axis positive lt, fits)) in
      elim h [
        | inl memory ↦ memory
        | inr refusals ↦ elim refusals [
          | inl other ↦ absurd (other.0 axes)
          | inr after_axes ↦ elim after_axes.1 [
            | inl many ↦ absurd (many.0 few)
            | inr after_count ↦ elim after_count.1 [
              | inl ends ↦ absurd (ends.0 (λ _. subset))
              | inr nothing ↦ absurd nothing.1
            ]
          ]
        ]
      ]

  -- and so is the array of its cells
  pub part_refused : (array : Array) (data_type : DataType) (subset : Subset) (e : CodecError) → length shape ≡ length sub → HasElements data_type → array.kind ≡ size_of data_type
      → length array.elements ≡ count_of shape → subset ≡ subset_of_subchunk shape sub k
      → RefusedBy (SubsetRefusals subset shape (ValidRefusals array (count_of shape) data_type done)) e → e ≡ OutOfMemory
  part_refused array data_type subset e same supported kind counted is h =
      let refusals = rw is at h in
      let axes : length (subset_of_subchunk shape sub k).start ≡ length shape = subset_of_subchunk-axes shape sub k divides ∙ sym same in
      elim refusals [
        | inl memory ↦ memory
        | inr refusals ↦ elim refusals [
          | inl other ↦ absurd (other.0 axes)
          | inr after_axes ↦ elim after_axes.1 [
            | inl outside ↦ absurd (outside.0 (subset_of_subchunk-lies_in shape sub k divides below))
            | inr after_subset ↦ elim after_subset.1 [
              | inl many ↦ absurd (many.0 fits)
              | inr after_count ↦ elim after_count.1 [
                | inl none ↦ absurd (none.0 supported)
                | inr after_type ↦ elim after_type.1 [
                  | inl wrong ↦ absurd (wrong.0 kind)
                  | inr after_kind ↦ elim after_kind.1 [
                    | inl few ↦ absurd (few.0 counted)
                    | inr nothing ↦ absurd nothing.1
                  ]
                ]
              ]
            ]
          ]
        ]
      ]

-- the cells of a subchunk's subset
pub extracted_subset : (array part : Array) (shape sub : List ℕ) (subset : Subset) (k : ℕ) → subset ≡ subset_of_subchunk shape sub k → part ≡ extracted array subset shape → part.elements ≡ subchunk shape sub array.elements k
extracted_subset array part shape sub subset k is found = rw (found, is) (extracted-subset_of_subchunk array shape sub k)
