-- What is known of a shard before its bytes are looked at.
use Rattle.std.specs.Prelude.{◌≡◌, ◌<◌, ℕ, List}
use Rattle.parts_row_major.specs.Numbering.{count_of}
use Rattle.parts_subsets.specs.Grid.{grid_of}
use Rattle.parts_arrays.specs.ArraySpec.{ArraySpec, array_spec}
use Rattle.codec_traits.specs.Meanings.{Meaning}
use Rattle.sharding_index.specs.Indexes.{IsIndexPlan}
use Rattle.sharding_format.specs.declared.spec.ArraySpecRef.{ArraySpecRef}
use Rattle.sharding_index.specs.declared.plan.Plan.{Plan}

-- the arrays that are asked
abbrev pub spec_of : ArraySpecRef → ArraySpec
spec_of spec = array_spec spec.shape.now spec.data_type.now spec.fill_value.now

-- the counts of a shard's cells and subchunks, and its index
pub record IsPlan (codec : (grid : List ℕ) → Meaning) (shape sub : List ℕ) (plan : Plan) : Type 0 where
  pub cells : plan.cells ≡ count_of shape
  pub grid : plan.index.grid ≡ grid_of shape sub
  pub subchunks : plan.subchunks ≡ count_of (grid_of shape sub)
  pub some : 0 < plan.subchunks
  pub positions : 0 < count_of sub
  pub index : IsIndexPlan codec plan.index
