-- The elements of a chunk that reaches past the end of the array (Zarr V3 core, "Regular grids").
use Rattle.std.specs.Prelude.{◌≡◌, ◌≢◌, ◌<◌, ℕ, List, length, replicate}
use Rattle.parts_errors.specs.Words.{Bytes}
use Rattle.parts_row_major.specs.Numbering.{count_of}
use Rattle.parts_row_major.specs.Subsets.{Subset, number_in}
use Rattle.parts_arrays.specs.Arrays.{Array, element_of}
use Rattle.parts_arrays.specs.declared.data_type.DataTypeSize.TheVariants.{Fixed}

-- the subset of this shape at the start of a chunk
abbrev pub at_start : List ℕ → Subset
at_start shape = record { start = replicate (length shape) 0; shape = shape }

-- elements that have a shape stand at the start of a chunk, and each other element of the chunk is the fill value
pub record ArePadded (fill : Bytes) (shape chunk : List ℕ) (elements padded : Array) : Type 0 where
  pub kind : padded.kind ≡ Fixed (length fill)
  pub counted : length padded.elements ≡ count_of chunk
  pub in_array : (k : ℕ) → k < count_of shape → element_of padded (number_in (at_start shape) chunk k) ≡ element_of elements k
  pub behind : (i : ℕ) → i < count_of chunk → ((k : ℕ) → k < count_of shape → number_in (at_start shape) chunk k ≢ i)
      → element_of padded i ≡ fill
