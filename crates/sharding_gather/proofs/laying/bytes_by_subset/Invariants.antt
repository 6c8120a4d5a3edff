use Rattle.std.proofs.Common.{◌≡◌, ◌*◌, length}
use Rattle.parts_row_major.specs.Numbering.{count_of}
use Rattle.sharding_gather.proofs.LayingLaws.{IsFilledTo}
use Rattle.sharding_gather.proofs.laying.bytes_by_subset.Given as goal

abbrev pub invariant-loop-k : goal.invariant-loop-k
invariant-loop-k l = record {
  whole : length l.bytes.items ≡ count_of l.shard.shape.now * length l.shard.fill.now;
  so_far : IsFilledTo l.shard.subchunks.now l.shard.fill.now l.shard.shape.now l.shard.sub.now (length l.shard.fill.now) l.k l.bytes.items;
}
