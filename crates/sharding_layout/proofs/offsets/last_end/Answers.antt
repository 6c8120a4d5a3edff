use Rattle.std.proofs.Common.{◌∙◌, ap}
use Rattle.sharding_layout.specs.Offsets.{slot_end}
use Rattle.sharding_layout.proofs.EndLemmas.{last_more}
use Rattle.sharding_layout.proofs.offsets.last_end.Goals as goal

pub loop-k-preserved : goal.loop-k-preserved
loop-k-preserved c =
    last_more c.args.least c.args.cached.now.len c.args.cached.now.numbers.now c.loop-k.k _ _ _ c.loop-k.invariant (c.end_in-end.ensures ∙ ap slot_end c.slot_in.ensures.slot) c.max-last.ensures
