-- A write into a session, before the writing call of its handle.
use Rattle.std.specs.Prelude.{ℕ, List, Option, Some, None, Vec}
use Rattle.std.specs.Global.{Global}
use Rattle.parts_errors.specs.Words.{Bytes, Elements, Refusals}
use Rattle.parts_row_major.specs.Subsets.{Subset}
use Rattle.parts_arrays.specs.ArraySpec.{ArraySpec}
use Rattle.storage_handles.specs.Writes.{bytes_of}
use Rattle.codec_traits.specs.Meanings.{Meaning}
use Rattle.sharding_format.specs.Serves.{fixed_size}
use Rattle.sharding_format.specs.declared.index.ShardIndex.{ShardIndex}
use Rattle.sharding_format.specs.declared.location.ShardingIndexLocation.{ShardingIndexLocation}
use Rattle.sharding_write.specs.Writing.{IsWriteOf, layout_from}
use Rattle.sharding_write.specs.WriteRefusals.{WriteRefusals}
use Rattle.sharding_write.specs.declared.change.Change.{Change}
use Rattle.sharding_write.specs.declared.change.Change.TheVariants.{Erase, Replace, Append}

-- the second object is the first with an update written over the cells of a subset; beside each stand the numbers of its index
abbrev pub IsWrittenTo : (inner index : Meaning) → ShardingIndexLocation → (sub_g g : ArraySpec) → Subset → Elements
    → Option Bytes → List ℕ → Option Bytes → List ℕ → Type 0
IsWrittenTo inner index location sub_g g subset update old numbers new new_numbers =
    let l = layout_from g.shape sub_g location (fixed_size index.representation) in
    IsWriteOf inner index l sub_g subset update old numbers new new_numbers

-- the tests of such a write, after those of its arguments
abbrev pub WriteToRefusals : (inner index : Meaning) → ShardingIndexLocation → (sub_g g : ArraySpec) → Subset → Elements
    → Option Bytes → List ℕ → Refusals
WriteToRefusals inner index location sub_g g subset update old numbers =
    let l = layout_from g.shape sub_g location (fixed_size index.representation) in
    WriteRefusals inner index l sub_g subset update (bytes_of old) numbers

-- the index that a session holds of the object that a change leaves, which has this length and these numbers
abbrev pub cached_after : Change → ℕ → Vec ℕ Global → Option ShardIndex
cached_after Erase len numbers = None
cached_after (Replace shard) len numbers = Some (record { len = len; numbers = numbers })
cached_after (Append slices write_offset index index_offset) len numbers = Some (record { len = len; numbers = numbers })
