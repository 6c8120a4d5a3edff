-- Subchunks that are rows of the bytes of their array.
use Rattle.std.specs.Prelude.{◌≡◌, ◌*◌, ◌<◌, ℕ, List, length}
use Rattle.parts_errors.specs.Words.{Written}
use Rattle.parts_row_major.specs.Pieces.{piece}
use Rattle.parts_subsets.specs.Grid.{subchunk}
use Rattle.parts_arrays.specs.Arrays.{IsWhole, fixed_array}

-- bytes are cut into n rows of one size: the elements of each are a subchunk of the array, and its bytes are an encoding of them
pub record ArePlainRows (inner_written : Written) (fill shape sub : List ℕ) (a : List (List ℕ)) (bytes : List ℕ) (size n : ℕ) : Type 0 where
  pub some : 0 < size
  pub counted : length bytes ≡ n * size
  pub whole : (k : ℕ) → k < n → IsWhole (length fill) (piece size bytes k)
  pub elements : (k : ℕ) → k < n → subchunk shape sub a k ≡ (fixed_array (length fill) (piece size bytes k)).elements
  pub written : (k : ℕ) → k < n → inner_written (subchunk shape sub a k) (piece size bytes k)
