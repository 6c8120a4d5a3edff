-- The subchunks so far have been decoded to where they lie.
use Rattle.std.proofs.Common.{◌≡◌, ◌*◌, length}
use Rattle.parts_row_major.specs.Pieces.{piece}
use Rattle.sharding_subchunks.specs.steps.Inner.{inner_meaning}
use Rattle.sharding_subchunks.proofs.WholeLemmas.{IsWholeTo}
use Rattle.sharding_subchunks.proofs.held_shard.HeldShard.whole_bytes.Given as goal

abbrev pub invariant-loop-k : goal.invariant-loop-k
invariant-loop-k g l = let s = l.self.subchunks.now in record {
  whole : length l.whole.items ≡ l.self.cells * length s.fill_value.now;
  so_far : IsWholeTo (inner_meaning g.I.ArrayToBytesCodecTraits.meaning s).cells l.self.shape.now s.shape.now s.fill_value.now l.self.bytes.now l.self.index.now.numbers.items l.k (piece (length s.fill_value.now) l.whole.items);
}
