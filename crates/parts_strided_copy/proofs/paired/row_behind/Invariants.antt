-- The steps so far are taken.
use Rattle.std.proofs.Common.{◌≡◌, ◌+◌, ◌<◌, drop}
use Rattle.parts_strided_copy.specs.Paired.{rows_along, steps_to}
use Rattle.parts_strided_copy.proofs.paired.row_behind.Given as goal

abbrev pub invariant-loop-i : goal.invariant-loop-i
invariant-loop-i l = record {
  some : 0 < rows_along (drop l.i l.steps);
  into_so_far : l.into + steps_to (λ step. step.into) (drop l.i l.steps) l.rest ≡ steps_to (λ step. step.into) l.steps l.number;
  from_so_far : l.from + steps_to (λ step. step.from) (drop l.i l.steps) l.rest ≡ steps_to (λ step. step.from) l.steps l.number;
}
