use Rattle.std.proofs.Common.{◌<◌, length, arith}
use Rattle.std.proofs.lemmas.List.Elements.{All-get_or}
use Rattle.parts_subsets.specs.Grid.{grid_of}
use Rattle.parts_subsets.proofs.GridLaws.{length-grid, get_or-grid, grid_positive}
use Rattle.parts_row_major.proofs.NumberingLaws.{product_no_more, product_more, product_all}
use Rattle.sharding_format.proofs.grid.count_quotients.Goals as goal

pub returns-in_err-product : goal.returns-in_err-product
returns-in_err-product c =
    let shape = c.args.shape.now in
    let sub = c.args.sub.now in
    let i = c.loop-axis.axis in
    let positive = grid_positive shape sub c.requires.shape c.requires.divides in
    let inside : i < length (grid_of shape sub) = omega (arith, length-grid shape sub c.requires.divides) in
    let quotient = get_or-grid shape sub i c.requires.divides (omega arith) in
    let over = rw quotient at
    (product_no_more (grid_of shape sub) i c.loop-axis.product (λ k below. All-get_or (λ axis. 0 < axis) (grid_of shape sub) k 0 below positive) inside c.loop-axis.invariant.so_far) in
    rw c.from_residual.ensures (λ fits. c.in_err-product.ensures (omega arith))

pub loop-axis-preserved : goal.loop-axis-preserved
loop-axis-preserved c =
    let shape = c.args.shape.now in
    let sub = c.args.sub.now in
    let i = c.loop-axis.axis in
    let inside : i < length (grid_of shape sub) = omega (arith, length-grid shape sub c.requires.divides) in
    let quotient = get_or-grid shape sub i c.requires.divides (omega arith) in
    let more = rw quotient at (product_more (grid_of shape sub) i c.loop-axis.product inside c.loop-axis.invariant.so_far) in
    record { fits = omega (arith, c.in_ok-product.ensures); so_far = rw c.in_ok-product.ensures.1 more }

pub returns : goal.returns
returns c =
    let shape = c.args.shape.now in
    let sub = c.args.sub.now in
    let all = product_all (grid_of shape sub) c.loop-axis.axis c.loop-axis.product (omega (arith, length-grid shape sub c.requires.divides)) c.loop-axis.invariant.so_far in
    omega (arith, all, c.loop-axis.invariant.fits)
