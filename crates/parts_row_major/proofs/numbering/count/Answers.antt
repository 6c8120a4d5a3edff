use Rattle.std.proofs.Common.{arith}
use Rattle.std.proofs.lemmas.Grind.{common_steps}
use Rattle.parts_row_major.proofs.NumberingLaws.{product_no_more, product_more, product_zero, product_all}
use Rattle.parts_row_major.proofs.numbering.count.Goals as goal

pub returns-then-contains : goal.returns-then-contains
returns-then-contains c =
    let zero_at = c.if-contains.ensures.cases in
    let e = product_zero c.args.shape.now zero_at.0 zero_at.1 (grind (arith, common_steps, zero_at.2 0)) in
    omega arith

pub returns-in_err-product : goal.returns-in_err-product
returns-in_err-product c =
    let known = c.loop-axis.invariant in
    let over = product_no_more c.args.shape.now c.loop-axis.axis-index c.loop-axis.product known.no_zero (omega arith) known.so_far in
    rw c.from_residual.ensures (λ fits. c.in_err-product.ensures (omega arith))

pub loop-axis-preserved : goal.loop-axis-preserved
loop-axis-preserved c =
    let known = c.loop-axis.invariant in
    let more = product_more c.args.shape.now c.loop-axis.axis-index c.loop-axis.product (omega arith) known.so_far in
    record { fits = omega (arith, c.in_ok-product.ensures); so_far = rw c.in_ok-product.ensures.1 more; no_zero = known.no_zero }

pub returns : goal.returns
returns c =
    let known = c.loop-axis.invariant in
    let all = product_all c.args.shape.now c.loop-axis.axis-index c.loop-axis.product c.loop-axis-test.false known.so_far in
    omega (arith, all)
