use Rattle.std.proofs.Common.{◌≡◌, ◌-◌, length, arith}
use Rattle.std.proofs.lemmas.Grind.{common_steps}
use Rattle.parts_row_major.specs.Numbering.{point_of}
use Rattle.parts_row_major.proofs.NumberingLaws.{below_axis, point_inside}
use Rattle.array_codecs.proofs.moved_rows.rest_of_row.Goals as goal

pub overflow_sub-result : goal.overflow_sub-result
overflow_sub-result c =
    let axes = c.args.axes.now in
    let below = below_axis (point_of c.args.number axes) axes (length axes - 1) (point_inside c.args.number axes c.requires) (grind (arith, common_steps)) in
    omega (arith, below, c.number_along.ensures)

pub returns-clause-rest : goal.returns-clause-rest
returns-clause-rest c l long =
    let axes = c.args.axes.now in
    let last : length axes - 1 ≡ l = omega (arith, long) in
    let below = below_axis (point_of c.args.number axes) axes l (point_inside c.args.number axes c.requires) (omega (arith, long)) in
    let along = rw last at c.number_along.ensures in
    rw last (omega (arith, below, along))

pub returns-clause-some : goal.returns-clause-some
returns-clause-some c =
    let axes = c.args.axes.now in
    let below = below_axis (point_of c.args.number axes) axes (length axes - 1) (point_inside c.args.number axes c.requires) (grind (arith, common_steps)) in
    omega (arith, below, c.number_along.ensures)
