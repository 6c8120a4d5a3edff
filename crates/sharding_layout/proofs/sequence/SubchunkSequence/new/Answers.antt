use Rattle.sharding_format.specs.WriteOrder.{numbers_in_order}
use Rattle.sharding_layout.proofs.sequence.SubchunkSequence.new.Goals as goal

pub returns-in-C : goal.returns-in-C
unfolding numbers_in_order
returns-in-C c = rw (c.in-C.is, ← c.requires.count) c.ascending.ensures

pub returns-in-Unordered : goal.returns-in-Unordered
unfolding numbers_in_order
returns-in-Unordered c = rw (c.in-Unordered.is, ← c.requires.count) c.ascending-in-Unordered.ensures
