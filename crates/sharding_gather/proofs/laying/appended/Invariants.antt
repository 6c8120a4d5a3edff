use Rattle.std.proofs.Common.{◌≡◌, ◌*◌, map}
use Rattle.std.specs.List.{concat, range_with_len}
use Rattle.parts_row_major.specs.Numbering.{count_of}
use Rattle.sharding_format.specs.steps.Decoding.{element_in}
use Rattle.sharding_gather.proofs.laying.appended.Given as goal

abbrev pub invariant-loop-k : goal.invariant-loop-k
invariant-loop-k l = l.bytes.items ≡ concat (map (element_in l.shard.subchunks.now l.shard.fill.now l.shard.shape.now l.shard.sub.now) (range_with_len 0 (l.k * count_of l.shard.sub.now)))
