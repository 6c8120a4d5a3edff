use Rattle.std.proofs.Common.{◌≡◌, map}
use Rattle.std.specs.List.{range_with_len}
use Rattle.sharding_gather.specs.steps.Gathering.{element_read}
use Rattle.sharding_gather.proofs.requested.put_together.Given as goal

abbrev pub invariant-loop-i : goal.invariant-loop-i
invariant-loop-i l = record {
  kind : l.elements.kind ≡ l.kind;
  elements : l.elements.elements ≡ map (element_read l.groups l.parts l.fill) (range_with_len 0 l.i);
}
