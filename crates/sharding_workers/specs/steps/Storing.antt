-- What is to be stored of the subchunks of an array, by their numbers.
use Rattle.std.specs.Prelude.{◌<◌, ℕ, List, length, slice_index_or}
use Rattle.parts_errors.specs.Words.{Written}
use Rattle.parts_row_major.specs.Numbering.{count_of}
use Rattle.parts_subsets.specs.Grid.{subchunk}
use Rattle.parts_arrays.specs.ArraySpec.{ArraySpec}
use Rattle.codec_traits.specs.Meanings.{Meaning}
use Rattle.sharding_format.specs.Encoding.{IsStored}
use Rattle.sharding_layout.specs.steps.Cutting.{CanBeCut}
use Rattle.sharding_layout.specs.declared.laying.CutArray.{CutArray}
use Rattle.sharding_subchunks.specs.steps.Inner.{spec_of_subchunks, inner_meaning}
use Rattle.sharding_subchunks.specs.declared.subchunks.Subchunks.{Subchunks}
use Rattle.sharding_subchunks.specs.declared.encoded.Stored.{Stored}

-- the inner codec serves the subchunks into which an array is cut, of which this is a number
pub record CanStore {I : Type 0} (meaning : I → ArraySpec → Meaning) (s : Subchunks I) (array : CutArray) (number : ℕ) : Type 0 where
  pub serves : (inner_meaning meaning s).serves
  pub cut : CanBeCut (spec_of_subchunks s) array
  pub below : number < count_of array.grid.now

-- this is what is to be stored of the first subchunks of an array
abbrev pub AreStored : Written → List ℕ → List ℕ → List ℕ → List (List ℕ) → List Stored → Type 0
AreStored inner_written fill shape sub a stored = (k : ℕ) (d : Stored) → k < length stored
    → IsStored inner_written fill (subchunk shape sub a k) (slice_index_or stored k d).present (slice_index_or stored k d).bytes.items
