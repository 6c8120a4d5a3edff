-- The points of a transposed array, in the order of the array's elements.
use Rattle.std.specs.Prelude.{ℕ, List, None, length, map}
use Rattle.std.specs.List.{range_with_len}
use Rattle.parts_row_major.specs.Numbering.{count_of, point_of}
use Rattle.parts_subsets.specs.Selections.{Selection}
use Rattle.array_codecs.specs.AxisOrders.{permuted}

-- in row-major order of an array of a shape, where each element stands in the transposed one
abbrev pub moved_selection : List ℕ → List ℕ → Selection
moved_selection order shape = record {
  axes = length order;
  subset = None;
  points = map (λ i. permuted order (point_of i shape)) (range_with_len 0 (count_of shape));
}
