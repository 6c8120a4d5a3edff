-- The slices so far are placed one after the other; the later offsets and all sizes are as they were.
use Rattle.sharding_layout.proofs.RepackingLemmas.{IsPlaced}
use Rattle.sharding_layout.proofs.packing.set_slice_offsets.Given as goal

abbrev pub invariant-loop-k : goal.invariant-loop-k
invariant-loop-k l = IsPlaced l._len l.start l.initial.numbers l.numbers l.write_offset l.k
