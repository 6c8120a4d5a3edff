use Rattle.std.proofs.Common.{◌-◌, ◌≡◌, ◌∙◌, ap, arith, drop}
use Rattle.parts_row_major.specs.Numbering.{count_of}
use Rattle.parts_row_major.proofs.RunLaws.{tail_step}
use Rattle.parts_row_major.proofs.RowLaws.{row_set_found}
use Rattle.parts_row_major.proofs.runs.row_set.Goals as goal
use Rattle.parts_row_major.proofs.runs.row_set.Goals.{then-axis-eq0, else-axis-eq0}

pub overflow_mul-result : goal.overflow_mul-result
overflow_mul-result c =
    let le = tail_step c.args.len.now (c.loop-axis.axis - 1) c.loop-axis.axis c.loop-axis.run (omega arith) (omega arith) c.loop-axis.invariant.so_far c.requires.some in
    omega (arith, le)

pub overflow_mul-result-then-len-axis : goal.overflow_mul-result-then-len-axis
overflow_mul-result-then-len-axis c =
    let known = c.loop-axis.invariant in
    let around : c.loop-axis.run ≡ count_of (drop c.loop-axis.axis c.args.shape.now) = known.so_far ∙ ap count_of known.spanned in
    let le = tail_step c.args.shape.now (c.loop-axis.axis - 1) c.loop-axis.axis c.loop-axis.run (omega arith) (omega arith) around c.requires.some_around in
    omega (arith, le)

pub returns-then-len-axis : goal.returns-then-len-axis
returns-then-len-axis c =
    let known = c.loop-axis.invariant in
    row_set_found c.args.len.now c.args.shape.now (c.loop-axis.axis - 1) c.loop-axis.axis c.loop-axis.run c.if-axis-eq0.result (omega arith) (omega arith) known.spanned c.requires.same_axes known.so_far c.if-len-axis.true
    (λ e. elim c.if-axis-eq0.branch [ then-axis-eq0 w ↦ w.result-is | else-axis-eq0 w ↦ absurd (omega arith) ])
    (λ p. elim c.if-axis-eq0.branch [ then-axis-eq0 w ↦ absurd (omega arith) | else-axis-eq0 w ↦ w.result-is ])

pub overflow_mul-run : goal.overflow_mul-run
overflow_mul-run c =
    let le = tail_step c.args.len.now (c.loop-axis.axis - 1) c.loop-axis.axis c.loop-axis.run (omega arith) (omega arith) c.loop-axis.invariant.so_far c.requires.some in
    omega (arith, le)
