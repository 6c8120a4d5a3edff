use Rattle.std.proofs.Common.{◌≡◌, ◌+◌, ◌^◌, ◌<◌, ◌-◌, ◌%◌, arith, refl, sym, ◌∙◌, get_or, length}
use Rattle.std.proofs.lemmas.List.{drop_all}
use Rattle.std.proofs.lemmas.List.Elements.{length_all_zip, AllZip-get_or}
use Rattle.parts_row_major.specs.Numbering.{point_of, zip_with}
use Rattle.parts_row_major.proofs.NumberingLaws.{point_inside, number_below}
use Rattle.parts_row_major.proofs.PointLaws.{axis_positive, rest_more, AxisStep, axis_step}
use Rattle.parts_row_major.proofs.SubsetLaws.{lies_in_length, shifted_inside, point_in_at, length-point_in}
use Rattle.parts_row_major.proofs.points.number_of_point.Goals as goal
use Rattle.parts_row_major.proofs.points.number_of_point.Goals.{In-loop-axis}

pub loop-axis-init : goal.loop-axis-init
loop-axis-init c =
    let start = c.args.start.now in
    let len = c.args.len.now in
    let shape = c.args.shape.now in
    let same = length_all_zip (λ first len. first + len < 2 ^ 64) start len c.requires.well_formed in
    let long = lies_in_length start len shape same c.requires.inside in
    let points = length-point_in start len c.args.i same in
    let no_len = drop_all (length shape) len (omega arith) in
    let no_shape = drop_all (length shape) shape (omega arith) in
    let no_point = drop_all (length shape) (zip_with ◌+◌ start (point_of c.args.i len)) (omega arith) in
    record {
      same_axes = same;
      same_length = sym same ∙ long;
      inside = shifted_inside start len (point_of c.args.i len) shape (point_inside c.args.i len c.requires.below) c.requires.inside;
      rest_is = rw no_len (omega arith);
      stride_is = rw no_shape refl;
      so_far = rw no_point refl;
    }

-- the axis that an iteration takes
record Turn (c : In-loop-axis) : Type 0 where
  positive : 0 < get_or c.args.len.now (c.loop-axis.axis - 1) 0
  index : get_or c.args.start.now (c.loop-axis.axis - 1) 0 + c.loop-axis.rest % get_or c.args.len.now (c.loop-axis.axis - 1) 0 ≡ get_or (zip_with ◌+◌ c.args.start.now (point_of c.args.i c.args.len.now)) (c.loop-axis.axis - 1) 0
  step : AxisStep (zip_with ◌+◌ c.args.start.now (point_of c.args.i c.args.len.now)) c.args.shape.now (c.loop-axis.axis - 1) (get_or c.args.start.now (c.loop-axis.axis - 1) 0 + c.loop-axis.rest % get_or c.args.len.now (c.loop-axis.axis - 1) 0) c.loop-axis.stride c.loop-axis.number

turn : (c : In-loop-axis) → Turn c
turn c =
    let known = c.loop-axis.invariant in
    let start = c.args.start.now in
    let len = c.args.len.now in
    let shape = c.args.shape.now in
    let axis = c.loop-axis.axis - 1 in
    let at = point_in_at start len c.args.i axis c.loop-axis.axis c.requires.below known.same_axes (omega arith) (omega arith) in
    let is : get_or start axis 0 + c.loop-axis.rest % get_or len axis 0 ≡ get_or (zip_with ◌+◌ start (point_of c.args.i len)) axis 0 = rw known.rest_is (sym at) in
    record {
      positive = axis_positive c.args.i len axis c.requires.below (omega arith);
      index = is;
      step = axis_step (zip_with ◌+◌ start (point_of c.args.i len)) shape axis c.loop-axis.axis _ c.loop-axis.stride c.loop-axis.number known.inside c.requires.fits (omega arith) (omega arith) is known.stride_is known.so_far;
    }

pub nonzero_rem-index : goal.nonzero_rem-index
nonzero_rem-index c = (turn (goal.at.nonzero_rem-index c).In-loop-axis).positive

pub overflow_add-index : goal.overflow_add-index
overflow_add-index c =
    let t = turn (goal.at.overflow_add-index c).In-loop-axis in
    let end = AllZip-get_or (λ first len. first + len < 2 ^ 64) c.args.start.now c.args.len.now (c.loop-axis.axis - 1) 0 0 c.requires.well_formed (omega arith) in
    omega (arith, t.positive)

pub overflow_mul-number : goal.overflow_mul-number
overflow_mul-number c = let t = turn (goal.at.overflow_mul-number c).In-loop-axis in omega (arith, t.step.number_fits)

pub overflow_add-number : goal.overflow_add-number
overflow_add-number c = let t = turn (goal.at.overflow_add-number c).In-loop-axis in omega (arith, t.step.number_fits)

pub nonzero_div-rest : goal.nonzero_div-rest
nonzero_div-rest c = (turn (goal.at.nonzero_div-rest c).In-loop-axis).positive

pub overflow_mul-stride : goal.overflow_mul-stride
overflow_mul-stride c = let t = turn (goal.at.overflow_mul-stride c).In-loop-axis in omega (arith, t.step.stride_fits)

pub loop-axis-preserved : goal.loop-axis-preserved
loop-axis-preserved c =
    let known = c.loop-axis.invariant in
    let t = turn (goal.at.loop-axis-preserved c).In-loop-axis in
    record {
      same_axes = known.same_axes;
      same_length = known.same_length;
      inside = known.inside;
      rest_is = rest_more c.args.i c.args.len.now (c.loop-axis.axis - 1) c.loop-axis.axis c.loop-axis.rest (omega arith) (omega arith) known.rest_is;
      stride_is = t.step.stride_more;
      so_far = t.step.number_more;
    }

pub returns-clause-below : goal.returns-clause-below
returns-clause-below c =
    let known = c.loop-axis.invariant in
    let whole : c.loop-axis.axis ≡ 0 = omega arith in
    let below = number_below (zip_with ◌+◌ c.args.start.now (point_of c.args.i c.args.len.now)) c.args.shape.now known.inside in
    rw (known.so_far, whole) below
