-- The elements of a subset of an array: how many they are, that they fit, and that nothing but memory refuses them.
use Rattle.std.proofs.Common.{◌≡◌, ℕ, ◌+◌, ◌^◌, ◌<◌, inl, inr, List, [], length, get_or, ap, ◌∙◌, arith}
use Rattle.std.specs.List.{All}
use Rattle.std.proofs.lemmas.List.{length-map, get_or-map}
use Rattle.std.proofs.lemmas.List.Elements.{length_all_zip, All-get_or, All-from_get_or}
use Rattle.std.proofs.lemmas.List.FromFn.{get_or-map-range_with_len, length-map-range_with_len}
use Rattle.parts_row_major.specs.Numbering.{count_of}
use Rattle.parts_row_major.specs.Subsets.{Subset, IsSubset, LiesIn, IsServed, number_in, numbers_in}
use Rattle.parts_arrays.specs.Types.{size_of, FitsKind, HasElements}
use Rattle.parts_arrays.specs.Arrays.{Array, element_of, extracted}
use Rattle.parts_errors.specs.Order.{done, RefusedBy}
use Rattle.parts_subsets.specs.SubsetRefusals.{SubsetRefusals}
use Rattle.parts_arrays.specs.Refusals.{ValidRefusals}
use Rattle.parts_arrays.specs.declared.data_type.DataType.{DataType}
use Rattle.parts_arrays.specs.declared.data_type.DataTypeSize.{DataTypeSize}
use Rattle.parts_errors.specs.declared.error.CodecError.{CodecError}
use Rattle.parts_errors.specs.declared.error.CodecError.TheVariants.{OutOfMemory}
use Rattle.parts_row_major.proofs.SubsetLaws.{lies_in_length}
use Rattle.parts_row_major.proofs.PieceLaws.{number_in_below}

-- there are as many as the subset has points
pub counted : (array : Array) (subset : Subset) (shape : List ℕ) → length (extracted array subset shape).elements ≡ count_of subset.shape
counted array subset shape = length-map (numbers_in subset shape) (element_of array) ∙ length-map-range_with_len (number_in subset shape) 0 (count_of subset.shape)

-- each is the array's at the point's number
pub element_at : (array : Array) (subset : Subset) (shape : List ℕ) (r : ℕ) → r < count_of subset.shape
    → get_or (extracted array subset shape).elements r [] ≡ get_or array.elements (number_in subset shape r) []
element_at array subset shape r lt =
    get_or-map (element_of array) (numbers_in subset shape) r 0 [] (omega (arith, lt, length-map-range_with_len (number_in subset shape) 0 (count_of subset.shape)))
    ∙ ap (element_of array) (get_or-map-range_with_len (number_in subset shape) 0 (count_of subset.shape) r r 0 lt (omega arith))

-- they fit what all elements of the array fit
pub fitting : (kind : DataTypeSize) (array : Array) (subset : Subset) (shape : List ℕ) → LiesIn subset shape → length array.elements ≡ count_of shape → All (FitsKind kind) array.elements
    → All (FitsKind kind) (extracted array subset shape).elements
fitting kind array subset shape inside all fits =
    All-from_get_or (FitsKind kind) (extracted array subset shape).elements [] (λ r lt.
    let below : r < count_of subset.shape = omega (arith, lt, counted array subset shape) in
    let within = number_in_below subset shape r inside below in
    rw (element_at array subset shape r below) (All-get_or (FitsKind kind) array.elements (number_in subset shape r) [] (omega (arith, within, all)) fits))

-- tests that are passed
pub subset_passes : (subset : Subset) (shape : List ℕ) (later : CodecError → Type 0) (e : CodecError) → length subset.start ≡ length shape → LiesIn subset shape → count_of shape < 2 ^ 64
    → RefusedBy (SubsetRefusals subset shape later) e → RefusedBy later e
subset_passes subset shape later e axes inside fits h =
    elim h [
      | inl memory ↦ inl memory
      | inr refusals ↦ elim refusals [
        | inl other ↦ absurd (other.0 axes)
        | inr after_axes ↦ elim after_axes.1 [
          | inl outside ↦ absurd (outside.0 inside)
          | inr after_subset ↦ elim after_subset.1 [ inl many ↦ absurd (many.0 fits) | inr rest ↦ inr rest.1 ]
        ]
      ]
    ]

pub valid_passes : (array : Array) (n : ℕ) (data_type : DataType) (later : CodecError → Type 0) (e : CodecError) → HasElements data_type → array.kind ≡ size_of data_type → length array.elements ≡ n
    → RefusedBy (ValidRefusals array n data_type later) e → RefusedBy later e
valid_passes array n data_type later e supported kind counted h =
    elim h [
      | inl memory ↦ inl memory
      | inr refusals ↦ elim refusals [
        | inl none ↦ absurd (none.0 supported)
        | inr after_type ↦ elim after_type.1 [
          | inl wrong ↦ absurd (wrong.0 kind)
          | inr after_kind ↦ elim after_kind.1 [ inl few ↦ absurd (few.0 counted) | inr rest ↦ inr rest.1 ]
        ]
      ]
    ]

-- a subset of an array that is sound is taken out but for want of memory
pub taken_refused : (array : Array) (subset : Subset) (shape : List ℕ) (data_type : DataType) (e : CodecError) → IsSubset subset.start subset.shape → IsServed subset shape → HasElements data_type
    → array.kind ≡ size_of data_type → length array.elements ≡ count_of shape → RefusedBy (SubsetRefusals subset shape (ValidRefusals array (count_of shape) data_type done)) e → e ≡ OutOfMemory
taken_refused array subset shape data_type e well served supported kind all h =
    let axes = length_all_zip (λ begin len. begin + len < 2 ^ 64) subset.start subset.shape well in
    elim (valid_passes array (count_of shape) data_type done e supported kind all
    (subset_passes subset shape (ValidRefusals array (count_of shape) data_type done) e (lies_in_length subset.start subset.shape shape axes served.0) served.0 served.1 h)) [
      | inl memory ↦ memory
      | inr nothing ↦ absurd nothing
    ]

-- and so is it written over a subset of another
pub put_refused : (old part : Array) (subset : Subset) (shape : List ℕ) (data_type : DataType) (e : CodecError) → IsSubset subset.start subset.shape → IsServed subset shape → HasElements data_type
    → old.kind ≡ size_of data_type → length old.elements ≡ count_of shape → part.kind ≡ size_of data_type → length part.elements ≡ count_of subset.shape
    → RefusedBy (SubsetRefusals subset shape (ValidRefusals old (count_of shape) data_type (ValidRefusals part (count_of subset.shape) data_type done))) e → e ≡ OutOfMemory
put_refused old part subset shape data_type e well served supported kind all part_kind all_part h =
    let axes = length_all_zip (λ begin len. begin + len < 2 ^ 64) subset.start subset.shape well in
    let of_part = ValidRefusals part (count_of subset.shape) data_type done in
    let first = subset_passes subset shape (ValidRefusals old (count_of shape) data_type of_part) e (lies_in_length subset.start subset.shape shape axes served.0) served.0 served.1 h in
    elim (valid_passes part (count_of subset.shape) data_type done e supported part_kind all_part (valid_passes old (count_of shape) data_type of_part e supported kind all first)) [
      | inl memory ↦ memory
      | inr nothing ↦ absurd nothing
    ]
