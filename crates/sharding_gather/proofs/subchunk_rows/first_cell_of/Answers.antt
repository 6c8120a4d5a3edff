use Rattle.std.proofs.Common.{◌≡◌, ◌<◌, ◌+◌, ◌*◌, ◌/◌, ◌%◌, ◌^◌, drop, get_or, refl, arith}
use Rattle.parts_row_major.specs.Numbering.{count_of, number_of, point_of, zip_with}
use Rattle.parts_row_major.proofs.NumberingLaws.{stride_divided}
use Rattle.sharding_gather.proofs.SubchunkRowLemmas.{first_more, first_small, rest_positive_count}
use Rattle.sharding_gather.proofs.subchunk_rows.first_cell_of.Goals as goal
use Rattle.sharding_gather.proofs.subchunk_rows.first_cell_of.Goals.{In-loop-axis}

-- what is in the number with one axis more
more : (c : In-loop-axis) → let g = count_of (drop (c.loop-axis.axis + 1) c.args.grid.now) in
    let next = c.loop-axis.first * get_or c.args.shape.now c.loop-axis.axis 0 + c.loop-axis.rest / g * get_or c.args.sub.now c.loop-axis.axis 0 in
    (c.loop-axis.left / get_or c.args.grid.now c.loop-axis.axis 0 ≡ g) × (0 < g) × (next < 2 ^ 64)
    × (next * count_of (drop (c.loop-axis.axis + 1) c.args.shape.now)
    + number_of (zip_with ◌*◌ (point_of (c.loop-axis.rest % g) (drop (c.loop-axis.axis + 1) c.args.grid.now)) (drop (c.loop-axis.axis + 1) c.args.sub.now)) (drop (c.loop-axis.axis + 1) c.args.shape.now)
    ≡ number_of (zip_with ◌*◌ (point_of c.args.number c.args.grid.now) c.args.sub.now) c.args.shape.now)
more c =
    let l = c.loop-axis in
    let known = l.invariant in
    let a = c.args in
    let divided = stride_divided a.grid.now l.axis l.left (omega (arith, c.requires.grid_axes)) known.some_left known.count_left in
    let sum = first_more a.shape.now a.sub.now a.grid.now l.axis l.rest l.first _ (omega arith) (omega (arith, c.requires.axes)) (omega (arith, c.requires.grid_axes)) known.so_far in
    let some = rest_positive_count a.shape.now (l.axis + 1) c.requires.positive in
    (divided.0, divided.1, omega (arith, first_small _ _ _ _ some sum, c.requires.fits), sum)

pub overflow_mul-first : goal.overflow_mul-first
overflow_mul-first c = let m = more (goal.at.overflow_mul-first c).In-loop-axis in omega (arith, m.2)

pub overflow_mul-first-in-loop-axis : goal.overflow_mul-first-in-loop-axis
overflow_mul-first-in-loop-axis c = let m = more (goal.at.overflow_mul-first-in-loop-axis c).In-loop-axis in rw m.0 (omega (arith, m.2))

pub overflow_add-first : goal.overflow_add-first
overflow_add-first c = let m = more (goal.at.overflow_add-first c).In-loop-axis in rw m.0 (omega (arith, m.2))

pub loop-axis-preserved : goal.loop-axis-preserved
loop-axis-preserved c =
    let m = more (goal.at.loop-axis-preserved c).In-loop-axis in
    rw m.0 (record {
      some_left = m.1;
      count_left = refl;
      so_far = m.3;
    })
