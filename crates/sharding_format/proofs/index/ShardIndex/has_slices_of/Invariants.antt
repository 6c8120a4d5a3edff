use Rattle.std.proofs.Common.{◌<◌, ℕ}
use Rattle.sharding_format.specs.Index.{slot_at}
use Rattle.sharding_format.specs.steps.Decoding.{IsOfSize}
use Rattle.sharding_format.proofs.index.ShardIndex.has_slices_of.Given as goal

abbrev pub invariant-loop-k : goal.invariant-loop-k
invariant-loop-k l = (k : ℕ) → k < l.k → IsOfSize l.size (slot_at l.self.len l.self.numbers.items k)
