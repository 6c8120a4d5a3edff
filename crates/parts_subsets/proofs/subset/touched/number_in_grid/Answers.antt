use Rattle.std.proofs.Common.{◌≡◌, ◌∙◌, ◌-◌, ◌/◌, ◌<◌, sym, arith, refl, length, get_or}
use Rattle.std.proofs.lemmas.List.{drop_all}
use Rattle.std.proofs.lemmas.List.Elements.{length_all_zip}
use Rattle.parts_row_major.proofs.PointLaws.{AxisStep, axis_step}
use Rattle.parts_row_major.proofs.SubsetLaws.{length-zip_with, get_or-zip_with}
use Rattle.parts_subsets.specs.Grid.{grid_of}
use Rattle.parts_subsets.proofs.subset.touched.number_in_grid.Goals as goal
use Rattle.parts_subsets.proofs.subset.touched.number_in_grid.Goals.{Start, In-loop-axis}

-- as many quotients as axes
quotients : (c : Start) → length (grid_of c.args.point.now c.args.sub.now) ≡ length c.args.grid.now
quotients c = length_all_zip (λ a b. a < b) (grid_of c.args.point.now c.args.sub.now) c.args.grid.now c.requires.inside

axes : (c : Start) → length c.args.point.now ≡ length c.args.grid.now
axes c = sym (length-zip_with ◌/◌ c.args.point.now c.args.sub.now c.requires.axes) ∙ quotients c

pub loop-axis-init : goal.loop-axis-init
loop-axis-init c =
    let same = quotients (goal.at.loop-axis-init c).Start in
    record {
      stride_is = rw (drop_all (length c.args.grid.now) c.args.grid.now (omega arith)) refl;
      so_far = rw (drop_all (length c.args.grid.now) (grid_of c.args.point.now c.args.sub.now) (omega (arith, same))) refl;
    }

-- the axis that an iteration takes
turn : (c : In-loop-axis) → length c.args.point.now ≡ length c.args.grid.now
    → AxisStep (grid_of c.args.point.now c.args.sub.now) c.args.grid.now (c.loop-axis.axis - 1) (get_or c.args.point.now (c.loop-axis.axis - 1) 0 / get_or c.args.sub.now (c.loop-axis.axis - 1) 0) c.loop-axis.stride c.loop-axis.number
turn c same =
    let at = c.loop-axis.invariant in
    let i = c.loop-axis.axis - 1 in
    let is = get_or-zip_with ◌/◌ c.args.point.now c.args.sub.now i (omega (arith, same)) (omega (arith, same, c.requires.axes)) in
    axis_step (grid_of c.args.point.now c.args.sub.now) c.args.grid.now i c.loop-axis.axis _ c.loop-axis.stride c.loop-axis.number c.requires.inside c.requires.fits (omega arith) (omega arith) (sym is) at.stride_is at.so_far

pub bounds-point-axis : goal.bounds-point-axis
bounds-point-axis c = omega (arith, axes (goal.at.bounds-point-axis c).Start)

pub bounds-sub-axis : goal.bounds-sub-axis
bounds-sub-axis c = omega (arith, axes (goal.at.bounds-sub-axis c).Start, c.requires.axes)

pub nonzero_div-number : goal.nonzero_div-number
nonzero_div-number c = c.requires.sub (c.loop-axis.axis - 1) 0 (omega (arith, axes (goal.at.nonzero_div-number c).Start, c.requires.axes))

pub overflow_mul-number : goal.overflow_mul-number
overflow_mul-number c = let t = turn (goal.at.overflow_mul-number c).In-loop-axis (axes (goal.at.overflow_mul-number c).Start) in omega (arith, t.number_fits)

pub overflow_add-number : goal.overflow_add-number
overflow_add-number c = let t = turn (goal.at.overflow_add-number c).In-loop-axis (axes (goal.at.overflow_add-number c).Start) in omega (arith, t.number_fits)

pub overflow_mul-stride : goal.overflow_mul-stride
overflow_mul-stride c = let t = turn (goal.at.overflow_mul-stride c).In-loop-axis (axes (goal.at.overflow_mul-stride c).Start) in omega (arith, t.stride_fits)

pub loop-axis-preserved : goal.loop-axis-preserved
loop-axis-preserved c =
    let t = turn (goal.at.loop-axis-preserved c).In-loop-axis (axes (goal.at.loop-axis-preserved c).Start) in
    record { stride_is = t.stride_more; so_far = t.number_more }

pub returns : goal.returns
returns c =
    let whole : c.loop-axis.axis ≡ 0 = omega arith in
    rw whole at c.loop-axis.invariant.so_far
