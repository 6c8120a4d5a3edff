-- The subchunks so far have been put.
use Rattle.sharding_subchunks.specs.steps.Inner.{inner_meaning}
use Rattle.sharding_subchunks.proofs.PutLemmas.{IsTargetPut}
use Rattle.sharding_subchunks.proofs.held_shard.HeldShard.put_plain.Given as goal

abbrev pub invariant-loop-k : goal.invariant-loop-k
invariant-loop-k g l = let s = l.self.subchunks.now in
    IsTargetPut (inner_meaning g.I.ArrayToBytesCodecTraits.meaning s).cells l.self.shape.now s.shape.now s.fill_value.now l.self.bytes.now l.self.index.now.numbers.items l.k l.fn.target l.target
