-- The subchunks so far, of which a run of the shard is still to be added.
use Rattle.std.proofs.Common.{◌≡◌, ◌≢◌, ◌+◌, ◌*◌, ◌<◌, ◌≤◌, ◌++◌, ℕ, [], length, map, replicate}
use Rattle.std.specs.List.{concat, range_with_len}
use Rattle.parts_row_major.specs.Numbering.{count_of}
use Rattle.parts_subsets.specs.Grid.{grid_of}
use Rattle.sharding_format.specs.Index.{slot_at}
use Rattle.sharding_format.specs.steps.Decoding.{element_in}
use Rattle.sharding_subchunks.specs.steps.DecodedRows.{IsPlainSlot, plain_chunks, bytes_of_run}
use Rattle.sharding_subchunks.proofs.plain_decoded.rows.Given as goal

abbrev pub invariant-loop-k : goal.invariant-loop-k
invariant-loop-k l =
    let fill = l.subchunk.fill.now in
    let numbers = l.index.numbers.items in
    let chunks = plain_chunks (length fill) (count_of l._sub) l.shard numbers (count_of (grid_of l._shape l._sub)) in
    record {
      within : l.run.from + l.run.len ≤ length l.shard;
      plain : (k : ℕ) → k < l.k → IsPlainSlot (length l.shard) l.subchunk.size (slot_at (length l.shard) numbers k);
      made : l.blank.items ≢ [] → l.blank.items ≡ concat (replicate l.subchunk.positions fill);
      stored_slices : l.bytes.items ++ bytes_of_run l.shard l.run ≡ concat (map (element_in chunks fill l._shape l._sub) (range_with_len 0 (l.k * count_of l._sub)));
    }
