-- The elements of the numbers that were passed stand one after the other.
use Rattle.std.proofs.Common.{◌≡◌, ◌*◌, IsTrue, Some, map, length, take}
use Rattle.parts_row_major.specs.Pieces.{pieces}
use Rattle.storage_handles.specs.Handles.{IsRead}
use Rattle.storage_handles.specs.Objects.{interval_part}
use Rattle.sharding_format.specs.Cells.{indexed_cell}
use Rattle.sharding_subchunks.specs.steps.Inner.{inner_meaning}
use Rattle.sharding_subchunks.proofs.stored_shard.StoredShard.plain_cells.Given as goal

abbrev pub invariant-loop-i : goal.invariant-loop-i
invariant-loop-i g l =
    let s = l.self.subchunks in
    let old = g.H.BytesPartialDecoderTraits.state l.fn.handle in
    let inner = inner_meaning g.I.ArrayToBytesCodecTraits.meaning s in
    record {
      handle_read : IsRead old (g.H.BytesPartialDecoderTraits.state l.handle);
      whole : length l.read.items ≡ l.i * length s.fill_value.now;
      are : IsTrue old.transparent
          → map (indexed_cell inner.cells l.self.shape.now s.shape.now s.fill_value.now (interval_part l.self.interval old.contents) l.self.index.now.numbers.items) (take l.i l.numbers)
          ≡ map Some (pieces (length s.fill_value.now) l.i l.read.items);
    }
