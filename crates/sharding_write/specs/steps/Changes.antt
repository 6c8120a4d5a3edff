-- What a write does to an object, when all is read and encoded.
use Rattle.std.specs.Prelude.{Option, Some, None}
use Rattle.parts_errors.specs.Words.{Bytes}
use Rattle.storage_handles.specs.Writes.{bytes_of, written_at}
use Rattle.sharding_write.specs.declared.change.Change.{Change}
use Rattle.sharding_write.specs.declared.change.Change.TheVariants.{Erase, Replace, Append}

-- the object afterwards
abbrev pub object_after : Change → Option Bytes → Option Bytes
object_after Erase old = None
object_after (Replace shard) old = Some shard.items
object_after (Append slices write_offset index index_offset) old =
    Some (written_at index_offset index.items (written_at write_offset slices.items (bytes_of old)))
