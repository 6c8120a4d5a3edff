-- A write into a shard that is held open.
use Rattle.std.specs.Prelude.{ℕ, List, Option, Some, None}
use Rattle.parts_errors.specs.Words.{Bytes, Elements, Refusals}
use Rattle.parts_errors.specs.Order.{done}
use Rattle.parts_row_major.specs.Subsets.{Subset}
use Rattle.parts_subsets.specs.Grid.{grid_of}
use Rattle.parts_arrays.specs.ArraySpec.{ArraySpec}
use Rattle.codec_traits.specs.Meanings.{Meaning}
use Rattle.sharding_format.specs.Index.{index_spec}
use Rattle.sharding_format.specs.Serves.{subchunk_spec}
use Rattle.sharding_open.specs.PreparedWrites.{IsWrittenTo, WriteToRefusals}
use Rattle.sharding_codec.specs.declared.codec.ShardingCodec.{ShardingCodec}

-- the second object is the first with an update written over the cells of a subset; beside each stand the numbers of its index
abbrev pub IsWritten : {I X : Type 0} → (I → ArraySpec → Meaning) → (X → ArraySpec → Meaning) → ShardingCodec I X → ArraySpec → Subset
    → Elements
    → Option Bytes → List ℕ → Option Bytes → List ℕ → Type 0
IsWritten inner_meaning index_meaning codec g =
    let inner = inner_meaning codec.inner (subchunk_spec codec.subchunk_shape g) in
    let index = index_meaning codec.index_codec (index_spec (grid_of g.shape codec.subchunk_shape)) in
    IsWrittenTo inner index codec.location (subchunk_spec codec.subchunk_shape g) g

-- the tests of such a write, after those of its arguments
abbrev pub WrittenRefusals : {I X : Type 0} → (I → ArraySpec → Meaning) → (X → ArraySpec → Meaning) → ShardingCodec I X → ArraySpec → Subset
    → Elements
    → Option Bytes → List ℕ → Refusals
WrittenRefusals inner_meaning index_meaning codec g =
    let inner = inner_meaning codec.inner (subchunk_spec codec.subchunk_shape g) in
    let index = index_meaning codec.index_codec (index_spec (grid_of g.shape codec.subchunk_shape)) in
    WriteToRefusals inner index codec.location (subchunk_spec codec.subchunk_shape g) g

-- where what is asked is a subset, its tests
abbrev pub SubsetIndexerRefusals : Option Subset → (Subset → Refusals) → Refusals
SubsetIndexerRefusals None refusals = done
SubsetIndexerRefusals (Some subset) refusals = refusals subset
