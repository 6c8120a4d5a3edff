use Rattle.std.proofs.Common.{sym, ap, ◌∙◌, length}
use Rattle.sharding_format.specs.WriteOrderLaws.{order_counted}
use Rattle.sharding_layout.proofs.sequence.SubchunkSequence.len.Goals as goal

pub returns : goal.returns
returns c = sym (ap length (sym c.self.view_is) ∙ order_counted _ _ c.self.invariant)
