-- What is known of the index of a shard before its bytes are looked at.
use Rattle.std.specs.Prelude.{◌≡◌, ℕ, List, replicate}
use Rattle.parts_arrays.specs.ArraySpec.{ArraySpec}
use Rattle.codec_traits.specs.Meanings.{Meaning}
use Rattle.sharding_format.specs.Index.{index_shape, index_spec}
use Rattle.sharding_format.specs.Serves.{fixed_size, IndexServes}
use Rattle.sharding_index.specs.declared.index.IndexPlan.{IndexPlan}

-- what an index codec means for the index of a grid
abbrev pub index_meaning : {X : Type 0} → (X → ArraySpec → Meaning) → X → (grid : List ℕ) → Meaning
index_meaning meaning codec grid = meaning codec (index_spec grid)

-- the index codec serves the index of the plan's grid; how many bytes the index has; and what the codec is asked to serve
pub record IsIndexPlan (index : (grid : List ℕ) → Meaning) (plan : IndexPlan) : Type 0 where
  pub serves : IndexServes (index plan.grid)
  pub size : plan.size ≡ fixed_size (index plan.grid).representation
  pub shape : plan.shape ≡ index_shape plan.grid
  pub fill : plan.fill ≡ replicate 8 255
