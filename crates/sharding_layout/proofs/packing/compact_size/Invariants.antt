-- The size so far, and no bad entry.
use Rattle.std.proofs.Common.{◌≡◌, ◌+◌, ◌-◌, ◌^◌, ◌<◌, ℕ, min}
use Rattle.sharding_format.specs.Index.{slot_at}
use Rattle.sharding_format.specs.Compacting.{IsGood, present_size}
use Rattle.sharding_layout.proofs.packing.compact_size.Given as goal

abbrev pub invariant-loop-k : goal.invariant-loop-k
invariant-loop-k l = record {
  total : l.total ≡ min (l.index_size + present_size (slot_at l.index.len l.index.numbers.items) l.k) (2 ^ 64 - 1);
  good : (j : ℕ) → j < l.k → IsGood (slot_at l.index.len l.index.numbers.items j);
}
