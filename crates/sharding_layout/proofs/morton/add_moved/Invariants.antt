-- The old numbers, and of the first i what lies further along the axis.
use Rattle.std.proofs.Common.{◌≡◌, ◌++◌, take}
use Rattle.sharding_layout.specs.steps.Reached.{moved}
use Rattle.sharding_layout.proofs.morton.add_moved.Given as goal

abbrev pub invariant-loop-i : goal.invariant-loop-i
invariant-loop-i l = record {
  appended : l.numbers.items ≡ l.initial.numbers.items ++ moved l.step l.stride l.length (take l.i l.initial.numbers.items);
}
