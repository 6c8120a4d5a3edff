use Rattle.std.proofs.Common.{◌≡◌, ◌+◌, ◌*◌, ◌<◌, ◌≤◌, arith, length}
use Rattle.std.proofs.lemmas.Nat.{mul-le}
use Rattle.parts_row_major.proofs.NumberingLaws.{both_positive}
use Rattle.parts_strided_copy.specs.Paired.{rows_along, steps_of, steps_to}
use Rattle.parts_strided_copy.specs.declared.paired.RowStep.{RowStep}
use Rattle.parts_strided_copy.proofs.PairedLemmas.{set_row_ends}
use Rattle.parts_strided_copy.proofs.paired.PairedRows.copy.Goals as goal

-- a row lies in the one array
pub overflow_mul-bytes : goal.overflow_mul-bytes
overflow_mul-bytes c =
    let s = c.args.self.now in
    let size = c.args.size in
    let each = both_positive s.run (rows_along (steps_of s)) c.requires.are_rows.some in
    let inner = both_positive s.first.rows (rows_along s.others.items) each.1 in
    let first = s.into + steps_to (λ (step : RowStep). step.into) s.others.items 0 + 0 * s.first.into in
    let ends : (first + s.run) * size ≤ length c.args.output.now =
    set_row_ends (λ (step : RowStep). step.into) s.into s.run s.first s.others.items s.sets 0 size each.0 inner.0 c.requires.are_rows.counted
    (omega (arith, inner.1, c.requires.are_rows.counted)) c.requires.inside 0 inner.0 in
    omega (arith, ends, mul-le s.run size (first + s.run) size (omega arith) (omega arith))
