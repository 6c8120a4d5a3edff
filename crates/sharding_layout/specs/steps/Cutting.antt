-- Arrays that can be cut into the subchunks of a shard.
use Rattle.std.specs.Prelude.{◌≡◌, ◌^◌, ◌<◌, IfSome, length}
use Rattle.parts_row_major.specs.Numbering.{count_of}
use Rattle.parts_subsets.specs.Grid.{Divides, grid_of}
use Rattle.parts_arrays.specs.ArraySpec.{ArraySpec, array_spec, IsArrayOf}
use Rattle.parts_arrays.specs.Types.{size_of, HasElements}
use Rattle.sharding_layout.specs.Rows.{FollowBy}
use Rattle.sharding_layout.specs.declared.laying.CutArray.{CutArray}

-- the elements are an array of the shape and of the subchunks' type; the subchunks divide the shape into the grid, and follow one another
-- as `in_row` tells
pub record CanBeCut (sub_g : ArraySpec) (cut : CutArray) : Type 0 where
  pub supported : HasElements sub_g.data_type
  pub kind : cut.array.now.kind ≡ size_of sub_g.data_type
  pub array : IsArrayOf (array_spec cut.shape.now sub_g.data_type sub_g.fill) cut.array.now.elements
  pub fits : count_of cut.shape.now < 2 ^ 64
  pub axes : length cut.shape.now ≡ length sub_g.shape
  pub divides : Divides sub_g.shape cut.shape.now
  pub grid : cut.grid.now ≡ grid_of cut.shape.now sub_g.shape
  pub in_row : IfSome cut.in_row (FollowBy cut.shape.now sub_g.shape)
