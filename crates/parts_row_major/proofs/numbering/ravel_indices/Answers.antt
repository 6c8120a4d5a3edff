use Rattle.std.proofs.Common.{◌-◌, arith, drop, get_or}
use Rattle.std.proofs.lemmas.Nat.{mul-add-lt}
use Rattle.parts_row_major.proofs.NumberingLaws.{number_below, stride_no_more}
use Rattle.parts_row_major.proofs.numbering.ravel_indices.Goals as goal

pub returns-in_err-longer : goal.returns-in_err-longer
returns-in_err-longer c =
    let loop = c.loop-axis in
    rw c.from_residual.ensures (λ h. c.in_err-longer.ensures
    (let over = rw (← loop.invariant.count_so_far) at (stride_no_more c.args.indices.now c.args.shape.now (loop.axis - 1) loop.axis h.0 (omega arith) (omega arith)) in
    omega (arith, over, h.1)))

pub overflow_add-number : goal.overflow_add-number
overflow_add-number c =
    let loop = c.loop-axis in
    let below = number_below (drop loop.axis c.args.indices.now) (drop loop.axis c.args.shape.now) loop.invariant.inside in
    let position = mul-add-lt (get_or c.args.indices.now (loop.axis - 1) 0) loop.stride loop.number (get_or c.args.shape.now (loop.axis - 1) 0) (omega arith) (omega arith) in
    omega (arith, position, c.in_ok-longer.ensures)
