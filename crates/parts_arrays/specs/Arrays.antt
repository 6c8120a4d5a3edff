-- Arrays of elements, each a list of bytes.
use Rattle.std.specs.Prelude.{◌≡◌, ℕ, ◌+◌, ◌-◌, ◌/◌, ◌%◌, ◌<◌, ◌≤◌, Bool, ◌==◌, List, [], ◌∷◌, map, length, slice_index, slice_index_or, slice_range, Option, Some, None}
use Rattle.std.specs.List.{range_with_len}
use Rattle.std.specs.Ordering.{on, eq_of_both}
use Rattle.std.specs.Cmp.Lexicographic.{pointwise}
use Rattle.parts_errors.specs.Words.{Bytes, Elements}
use Rattle.parts_row_major.specs.Numbering.{count_of}
use Rattle.parts_row_major.specs.Subsets.{Subset, number_in, numbers_in}
use Rattle.parts_row_major.specs.Pieces.{pieces, IsUpdated}
use Rattle.parts_arrays.specs.declared.data_type.DataTypeSize.{DataTypeSize}
use Rattle.parts_arrays.specs.declared.data_type.DataTypeSize.TheVariants as size
use Rattle.parts_arrays.specs.declared.array_bytes.Held.{Held}
use Rattle.parts_arrays.specs.declared.array_bytes.Held.TheVariants as held

-- an array: its elements in row-major order, of one fixed length or each of its own
pub record Array : Type 0 where
  pub kind : DataTypeSize
  pub elements : Elements

-- the element with a number
abbrev pub element_of : Array → ℕ → Bytes
element_of array i = slice_index_or array.elements i []

-- whole elements of one size that isn't 0
abbrev pub IsWhole : ℕ → Bytes → Type 0
IsWhole n bytes = (0 < n) × (length bytes % n ≡ 0)

-- the array of elements of one size
abbrev pub fixed_array : ℕ → Bytes → Array
fixed_array n bytes = record { kind = size.Fixed n; elements = pieces n (length bytes / n) bytes }

-- the part of a list between two neighbouring offsets
abbrev pub part : Bytes → List ℕ → ℕ → Bytes
part bytes offsets i = slice_range bytes (slice_index offsets i) (slice_index offsets (i + 1))

-- the parts of a list between neighbouring offsets
abbrev pub parts : List ℕ → Bytes → Elements
parts offsets bytes = map (part bytes offsets) (range_with_len 0 (length offsets - 1))

-- the array of elements that lie between neighbouring offsets
abbrev pub variable_array : List ℕ → Bytes → Array
variable_array offsets bytes = record { kind = size.Variable; elements = parts offsets bytes }

-- offsets begin at 0, never fall and end at the number of bytes
pub record AreOffsets (offsets : List ℕ) (size : ℕ) : Type 0 where
  pub some : 0 < length offsets
  pub begins : slice_index offsets 0 ≡ 0
  pub rises : (i : ℕ) → i + 1 < length offsets → slice_index offsets i ≤ slice_index offsets (i + 1)
  pub ends : slice_index offsets (length offsets - 1) ≡ size

-- the array that bytes are, by how they are held
abbrev pub array_of : Held → Bytes → Array
array_of (held.Fixed n) bytes = fixed_array n bytes
array_of (held.Variable offsets) bytes = variable_array offsets.items bytes

-- the bytes can be held so
abbrev pub IsHeld : Held → Bytes → Type 0
IsHeld (held.Fixed n) bytes = IsWhole n bytes
IsHeld (held.Variable offsets) bytes = AreOffsets offsets.items (length bytes)

-- the elements of an array at the points of a subset, in row-major order of the subset
abbrev pub extracted : Array → Subset → List ℕ → Array
extracted array subset shape = record { kind = array.kind; elements = map (element_of array) (numbers_in subset shape) }

-- the new array has the update's elements at the points of the subset, and the old ones elsewhere
pub record IsOverlaid (subset : Subset) (shape : List ℕ) (old update new : Array) : Type 0 where
  pub same_kind : new.kind ≡ old.kind
  pub same_count : length new.elements ≡ length old.elements
  pub elements : IsUpdated (count_of subset.shape) (number_in subset shape) (element_of old) (element_of update) (element_of new)

-- which of the update's elements goes to each place, where any does
abbrev pub SourcesAre : Subset → List ℕ → List (Option ℕ) → Type 0
SourcesAre subset shape sources =
    IsUpdated (count_of subset.shape) (number_in subset shape) (λ i. None) (λ k. Some k) (λ i. slice_index_or sources i None)

-- the update's part where the place has a source, and the array's own part where it has none
abbrev pub chosen : Bytes → List ℕ → Bytes → List ℕ → Option ℕ → ℕ → Bytes
chosen bytes offsets update update_offsets None i = part bytes offsets i
chosen bytes offsets update update_offsets (Some k) i = part update update_offsets k

-- how elements lie among their bytes: the size of each, or the offsets between them
abbrev pub held_layout : Held → DataTypeSize × List ℕ
held_layout (held.Fixed n) = (size.Fixed n, [])
held_layout (held.Variable offsets) = (size.Variable, offsets.items)

-- the size of a kind's elements, where it has one
abbrev pub size_list : DataTypeSize → List ℕ
size_list (size.Fixed n) = n ∷ []
size_list size.Variable = []

-- whether two arrays have one kind and the same elements
abbrev pub same_array : Array → Array → Bool
same_array = eq_of_both (on (λ array. size_list array.kind) (pointwise ◌==◌)) (on (λ array. array.elements) (pointwise (pointwise ◌==◌)))
