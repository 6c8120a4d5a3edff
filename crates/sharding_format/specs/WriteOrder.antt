-- In which order the subchunks of a shard are written: in order `C` by their row-major numbers, in order `Morton` along the Z-curve
-- of the grid.
use Rattle.std.specs.Prelude.{ℕ, zero, suc, Bool, true, false, if◌then◌else◌, ◌==◌, List, [], ◌∷◌, ◌++◌, map}
use Rattle.std.specs.Int.{bit_at}
use Rattle.std.specs.List.{range_with_len, before_first}
use Rattle.std.specs.Ordering.{is_lt, nat_cmp}
use Rattle.std.specs.Cmp.Lexicographic.{slice_cmp}
use Rattle.parts_row_major.specs.Numbering.{count_of, point_of}
use Rattle.sharding_format.specs.declared.order.SubchunkWriteOrder.{SubchunkWriteOrder}
use Rattle.sharding_format.specs.declared.order.SubchunkWriteOrder.TheVariants.{C, Unordered, Morton}

-- whether the order leaves one place for each subchunk
abbrev pub is_ordered : SubchunkWriteOrder → Bool
is_ordered C = true
is_ordered Unordered = false
is_ordered Morton = true

-- the lowest n bits of each number of a coordinate: from the highest bit down, and of one bit the axes in their order
abbrev pub interleaved_bits : ℕ → List ℕ → List ℕ
interleaved_bits zero point = []
interleaved_bits (suc n) point = map (λ x. bit_at x n) point ++ interleaved_bits n point

-- one coordinate of the grid comes before another on the Z-curve: at the first of their interleaved bits that differs it has 0
unfoldable pub is_before : List ℕ → List ℕ → Bool
is_before p q = is_lt (slice_cmp nat_cmp (interleaved_bits 64 p) (interleaved_bits 64 q))

-- a number put into a sorted list, in front of the first that it comes before
abbrev pub put_in : (ℕ → ℕ → Bool) → ℕ → List ℕ → List ℕ
put_in before k [] = k ∷ []
put_in before k (j ∷ js) = if before k j then k ∷ j ∷ js else j ∷ put_in before k js

-- the numbers of a list, sorted
abbrev pub sorted_by : (ℕ → ℕ → Bool) → List ℕ → List ℕ
sorted_by before [] = []
sorted_by before (k ∷ ks) = put_in before k (sorted_by before ks)

-- the numbers of the subchunks of a grid, in the order in which they are written; where any order will do, ascending
unfoldable pub numbers_in_order : SubchunkWriteOrder → List ℕ → List ℕ
numbers_in_order C grid = range_with_len 0 (count_of grid)
numbers_in_order Unordered grid = range_with_len 0 (count_of grid)
numbers_in_order Morton grid =
    sorted_by (λ j k. is_before (point_of j grid) (point_of k grid)) (range_with_len 0 (count_of grid))

-- those that come before number k in a list of numbers
abbrev pub numbers_before : ℕ → List ℕ → List ℕ
numbers_before k order = before_first (λ j. j == k) order
