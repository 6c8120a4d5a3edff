-- Subchunks that lie in their shape as one row after the other.
use Rattle.std.specs.Prelude.{◌≡◌, ◌<◌, ℕ, List, length, drop}
use Rattle.parts_row_major.specs.Numbering.{count_of}

-- the subchunks of a shape follow one another in it, each of so many elements: all axes but the first are whole in the subchunk shape
pub record FollowBy (shape sub : List ℕ) (positions : ℕ) : Type 0 where
  pub axes : 0 < length shape
  pub follow : drop 1 shape ≡ drop 1 sub
  pub positions_are : positions ≡ count_of sub
