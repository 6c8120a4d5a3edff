-- The numbers of a grid whose coordinates have only some low bits, along the Z-curve.
use Rattle.std.specs.Prelude.{◌<◌, ℕ, ◌+◌, ◌*◌, ◌/◌, ◌%◌, ◌^◌, nat_lt, List, [], ◌∷◌, map, length, slice_index}
use Rattle.std.specs.List.{AllByRecursion, Contains, filter}
use Rattle.parts_row_major.specs.Numbering.{count_of, point_of}
use Rattle.sharding_format.specs.WriteOrder.{interleaved_bits}

-- bits as one number, the first the highest
abbrev pub binary : List ℕ → ℕ
binary [] = 0
binary (bit ∷ bits) = bit * 2 ^ length bits + binary bits

-- the Morton code of a coordinate: its interleaved bits as one number
unfoldable pub morton_code : List ℕ → ℕ
morton_code point = binary (interleaved_bits 64 point)

-- of each entry in a list the first comes before the second by a number
abbrev pub Ascends : (ℕ → ℕ) → List ℕ → Type 0
Ascends code [] = Unit {0}
Ascends code (x ∷ xs) = AllByRecursion (λ y. code x < code y) xs × Ascends code xs

-- the numbers, of those in a list that have room for it, of the coordinates that lie `step` further along an axis of this length
abbrev pub moved : (step stride len : ℕ) → List ℕ → List ℕ
moved step stride len numbers = map (λ k. k + step * stride) (filter (λ k. nat_lt ((k / stride) % len + step) len) numbers)

-- a coordinate has no bit from `bit` on along the axes before `axis`, and none after `bit` along the others
pub record IsReached (bit axis : ℕ) (point : List ℕ) : Type 0 where
  pub front : (y : ℕ) → y < axis → slice_index point y < 2 ^ bit
  pub every : (y : ℕ) → slice_index point y < 2 ^ (bit + 1)

-- the list has just the numbers of such coordinates, along the Z-curve
pub record AreReached (grid : List ℕ) (bit axis : ℕ) (numbers : List ℕ) : Type 0 where
  pub inside : AllByRecursion (λ k. (k < count_of grid) × IsReached bit axis (point_of k grid)) numbers
  pub ascends : Ascends (λ k. morton_code (point_of k grid)) numbers
  pub all : (k : ℕ) → k < count_of grid → IsReached bit axis (point_of k grid) → Contains numbers k
