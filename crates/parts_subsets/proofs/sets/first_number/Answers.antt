use Rattle.std.proofs.Common.{◌≡◌, ◌+◌, ◌-◌, ◌<◌, ◌^◌, ap, sym, ◌∙◌, arith, refl, length, get_or}
use Rattle.std.proofs.lemmas.List.{drop_all}
use Rattle.std.proofs.lemmas.List.Elements.{length_all_zip}
use Rattle.parts_row_major.specs.Numbering.{IsInside, number_of, point_of}
use Rattle.parts_row_major.specs.Subsets.{number_in}
use Rattle.parts_row_major.proofs.NumberingLaws.{point_inside}
use Rattle.parts_row_major.proofs.PointLaws.{AxisStep, axis_step}
use Rattle.parts_row_major.proofs.SubsetLaws.{lies_in_length, shifted_inside}
use Rattle.parts_subsets.proofs.SetLaws.{first_point}
use Rattle.parts_subsets.proofs.sets.first_number.Goals as goal
use Rattle.parts_subsets.proofs.sets.first_number.Goals.{After-start-start, In-loop-axis}

-- what is known of the subset's first point
record Known (c : After-start-start) : Type 0 where
  same : length c.args.subset.now.start ≡ length c.args.shape.now
  first : number_in c.args.subset.now c.args.shape.now 0 ≡ number_of c.args.subset.now.start c.args.shape.now
  inside : IsInside c.args.subset.now.start c.args.shape.now

known : (c : After-start-start) → Known c
known c =
    let subset = c.args.subset.now in
    let shape = c.args.shape.now in
    let same = length_all_zip (λ first len. first + len < 2 ^ 64) subset.start subset.shape c.start-start.ensures.well_formed in
    let first = first_point subset.start subset.shape same c.requires.some in
    record {
      same = lies_in_length subset.start subset.shape shape same c.requires.served.0;
      first = ap (λ point. number_of point shape) first;
      inside = rw first at (shifted_inside subset.start subset.shape (point_of 0 subset.shape) shape (point_inside 0 subset.shape c.requires.some) c.requires.served.0);
    }

pub loop-axis-init : goal.loop-axis-init
loop-axis-init c =
    let same : length c.start-start.result.now ≡ length c.args.shape.now = rw c.start-start.ensures.value (known (goal.at.loop-axis-init c).After-start-start).same in
    record {
      same_axes = same;
      stride_is = rw (drop_all (length c.args.shape.now) c.args.shape.now (omega arith)) refl;
      so_far = rw (drop_all (length c.args.shape.now) c.start-start.result.now (omega arith)) refl;
    }

-- the axis that an iteration takes
turn : (c : In-loop-axis) → IsInside c.args.subset.now.start c.args.shape.now → AxisStep c.start-start.result.now c.args.shape.now (c.loop-axis.axis - 1) (get_or c.start-start.result.now (c.loop-axis.axis - 1) 0) c.loop-axis.stride c.loop-axis.number
turn c inside =
    let at = c.loop-axis.invariant in
    let inside : IsInside c.start-start.result.now c.args.shape.now = rw c.start-start.ensures.value inside in
    axis_step c.start-start.result.now c.args.shape.now (c.loop-axis.axis - 1) c.loop-axis.axis _ c.loop-axis.stride c.loop-axis.number inside c.requires.served.1 (omega arith) (omega arith) refl at.stride_is at.so_far

pub overflow_mul-number : goal.overflow_mul-number
overflow_mul-number c = let t = turn (goal.at.overflow_mul-number c).In-loop-axis (known (goal.at.overflow_mul-number c).After-start-start).inside in omega (arith, t.number_fits)

pub overflow_add-number : goal.overflow_add-number
overflow_add-number c = let t = turn (goal.at.overflow_add-number c).In-loop-axis (known (goal.at.overflow_add-number c).After-start-start).inside in omega (arith, t.number_fits)

pub overflow_mul-stride : goal.overflow_mul-stride
overflow_mul-stride c = let t = turn (goal.at.overflow_mul-stride c).In-loop-axis (known (goal.at.overflow_mul-stride c).After-start-start).inside in omega (arith, t.stride_fits)

pub loop-axis-preserved : goal.loop-axis-preserved
loop-axis-preserved c =
    let t = turn (goal.at.loop-axis-preserved c).In-loop-axis (known (goal.at.loop-axis-preserved c).After-start-start).inside in
    record { same_axes = c.loop-axis.invariant.same_axes; stride_is = t.stride_more; so_far = t.number_more }

pub returns : goal.returns
returns c =
    let whole : c.loop-axis.axis ≡ 0 = omega arith in
    let number : c.loop-axis.number ≡ number_of c.start-start.result.now c.args.shape.now = rw whole at c.loop-axis.invariant.so_far in
    number ∙ (ap (λ start. number_of start c.args.shape.now) c.start-start.ensures.value ∙ sym (known (goal.at.returns c).After-start-start).first)
