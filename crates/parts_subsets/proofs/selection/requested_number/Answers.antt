use Rattle.std.proofs.Common.{◌≡◌, ◌-◌, ◌<◌, [], get_or, length, refl, arith}
use Rattle.std.proofs.lemmas.List.{drop_all}
use Rattle.std.proofs.lemmas.List.Elements.{length_all_zip}
use Rattle.parts_row_major.proofs.NumberingLaws.{number_below}
use Rattle.parts_row_major.proofs.PointLaws.{axis_step}
use Rattle.parts_subsets.proofs.selection.requested_number.Goals as goal

pub loop-axis-init : goal.loop-axis-init
loop-axis-init g c =
    let point = get_or (g.N.Indexer.selection c.args.indexer.now).points c.args.i [] in
    let shape = c.args.shape.now in
    let whole = length_all_zip (λ x axis. x < axis) point shape c.requires.inside in
    let no_shape = drop_all (length shape) shape (omega arith) in
    let no_point = drop_all (length shape) point (omega arith) in
    record { stride_is = rw no_shape refl; so_far = rw no_point refl }

pub overflow_mul-number : goal.overflow_mul-number
overflow_mul-number g c =
    let point = get_or (g.N.Indexer.selection c.args.indexer.now).points c.args.i [] in
    let step = axis_step point c.args.shape.now (c.loop-axis.axis - 1) c.loop-axis.axis c.index_at.result c.loop-axis.stride c.loop-axis.number c.requires.inside c.requires.fits (omega arith) (omega arith) c.index_at.ensures c.loop-axis.invariant.stride_is c.loop-axis.invariant.so_far in
    omega (arith, step.number_fits)

pub overflow_add-number : goal.overflow_add-number
overflow_add-number g c =
    let point = get_or (g.N.Indexer.selection c.args.indexer.now).points c.args.i [] in
    let step = axis_step point c.args.shape.now (c.loop-axis.axis - 1) c.loop-axis.axis c.index_at.result c.loop-axis.stride c.loop-axis.number c.requires.inside c.requires.fits (omega arith) (omega arith) c.index_at.ensures c.loop-axis.invariant.stride_is c.loop-axis.invariant.so_far in
    omega (arith, step.number_fits)

pub overflow_mul-stride : goal.overflow_mul-stride
overflow_mul-stride g c =
    let point = get_or (g.N.Indexer.selection c.args.indexer.now).points c.args.i [] in
    let step = axis_step point c.args.shape.now (c.loop-axis.axis - 1) c.loop-axis.axis c.index_at.result c.loop-axis.stride c.loop-axis.number c.requires.inside c.requires.fits (omega arith) (omega arith) c.index_at.ensures c.loop-axis.invariant.stride_is c.loop-axis.invariant.so_far in
    omega (arith, step.stride_fits)

pub returns-clause-below : goal.returns-clause-below
returns-clause-below g c =
    let point = get_or (g.N.Indexer.selection c.args.indexer.now).points c.args.i [] in
    let first : c.loop-axis.axis ≡ 0 = omega arith in
    let value = rw first at c.loop-axis.invariant.so_far in
    rw value (number_below point c.args.shape.now c.requires.inside)
