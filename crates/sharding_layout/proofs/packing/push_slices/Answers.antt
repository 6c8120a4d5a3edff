use Rattle.std.proofs.Common.{length}
use Rattle.sharding_format.specs.Index.{slot_at}
use Rattle.sharding_layout.proofs.RepackingLemmas.{pushed_more}
use Rattle.sharding_layout.proofs.packing.push_slices.Goals as goal

pub loop-k-preserved : goal.loop-k-preserved
loop-k-preserved c =
    pushed_more c.args.shard.now.items c.loop-k.shard.items c.args.bytes.now (slot_at (length c.args.bytes.now) c.args.numbers.now) c.push_slice.new.shard.items c.loop-k.k
    c.loop-k.invariant c.in_ok-push_slice.ensures
