-- How a read of a subset of an array is refused.
use Rattle.std.specs.Prelude.{◌≡◌, ◌<◌, ◌^◌, ◌⊎◌, ℕ, length, string_bytes}
use Rattle.parts_errors.specs.Order.{RefusedBy}
use Rattle.parts_errors.specs.declared.error.CodecError.TheVariants.{OutOfMemory}
use Rattle.parts_row_major.specs.Numbering.{count_of}
use Rattle.parts_row_major.specs.Subsets.{Subset, LiesIn, point_in}
use Rattle.sharding_plans.specs.Chunks.{whole_chunks}
use Rattle.array_grid.specs.Cells.{FillRefusals}
use Rattle.array_grid.specs.Parts.{SubsetRefusals}
use Rattle.array_grid.specs.Shards.{ShardingRefusals}
use Rattle.array_store.specs.ArrayWrites.{key_at}
use Rattle.array_store.specs.declared.error.ArrayError.{ArrayError}
use Rattle.array_store.specs.declared.error.ArrayError.TheVariants.{Whole, Chunk}
use Rattle.array_store.specs.declared.format.ArrayFormat.{ArrayFormat}

-- a refusal is for memory, or names the chunk in which a point of the subset lies
abbrev pub IsRefusalIn : ArrayFormat → Subset → ArrayError → Type 0
IsRefusalIn format subset (Whole e) = e ≡ OutOfMemory
IsRefusalIn format subset (Chunk named e) =
    (q : ℕ) × (q < count_of subset.shape) × (string_bytes named ≡ key_at format (point_in subset q))

-- the shape of an array is cut into chunks, whose elements can be counted
abbrev pub IsCut : ArrayFormat → Type 0
IsCut format =
    (length format.shape.now ≡ length format.chunk.now) × (count_of (whole_chunks format.shape.now format.chunk.now) < 2 ^ 64)

-- a read is refused as the chunk grid is, or then as the subset is, or then as the room for its elements is, or then for a chunk
abbrev pub IsReadRefusal : ArrayFormat → Subset → ArrayError → Type 0
IsReadRefusal format subset (Whole e) =
    RefusedBy (ShardingRefusals format.shape.now format.chunk.now) e
    ⊎ (IsCut format × RefusedBy (SubsetRefusals subset format.shape.now) e)
    ⊎ (IsCut format × LiesIn subset format.shape.now × RefusedBy (FillRefusals subset.shape format.fill_value.now) e)
IsReadRefusal format subset (Chunk named e) =
    IsCut format × LiesIn subset format.shape.now × IsRefusalIn format subset (Chunk named e)
