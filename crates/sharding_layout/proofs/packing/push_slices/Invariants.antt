-- The slices so far stand after the bytes that were there.
use Rattle.std.proofs.Common.{◌≡◌, ◌++◌, length}
use Rattle.sharding_format.specs.Index.{slot_at}
use Rattle.sharding_layout.specs.Repacking.{slices_of}
use Rattle.sharding_layout.proofs.packing.push_slices.Given as goal

abbrev pub invariant-loop-k : goal.invariant-loop-k
invariant-loop-k l = l.shard.items ≡ l.initial.shard.items ++ slices_of l.bytes (slot_at (length l.bytes) l.numbers) l.k
