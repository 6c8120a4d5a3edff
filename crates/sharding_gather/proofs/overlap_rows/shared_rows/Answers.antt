use Rattle.std.proofs.Common.{◌≡◌, ◌∙◌, ◌+◌, ◌-◌, ◌*◌, ◌%◌, ◌^◌, ◌<◌, length, get_or, refl, ap, sym, arith}
use Rattle.std.proofs.lemmas.List.{drop_all}
use Rattle.std.proofs.lemmas.List.Elements.{length_all_zip}
use Rattle.parts_row_major.specs.Numbering.{point_of}
use Rattle.parts_row_major.proofs.NumberingLaws.{count_of-drop}
use Rattle.parts_row_major.proofs.PointLaws.{AxisStep, axis_step, rest_more}
use Rattle.sharding_gather.specs.steps.OverlapRows.{shared_in_subchunk, shared_in_array}
use Rattle.sharding_gather.proofs.OverlapRowLemmas.{SharedAt, shared_axes, shared_at, into_inside, from_inside, into_small, lens_fit, rows_none, rows_more, rows_whole, rows_from}
use Rattle.sharding_gather.proofs.overlap_rows.shared_rows.Goals as goal
use Rattle.sharding_gather.proofs.overlap_rows.shared_rows.Goals.{Start, In-loop-axis, After-span_of-span}

pub loop-axis-init : goal.loop-axis-init
loop-axis-init c =
    let a = c.args in
    let n = length a.axes.now.sub.now in
    let array = shared_in_array a.axes.now.start.now a.axes.now.len.now a.axes.now.grid.now a.axes.now.sub.now a.origin.now a.number in
    let part = shared_in_subchunk a.axes.now.start.now a.axes.now.len.now a.axes.now.grid.now a.axes.now.sub.now a.number in
    let have = shared_axes _ _ _ _ _ _ _ c.requires in
    let none = c.clear.ensures in
    record {
      rest_is = rw (drop_all n a.axes.now.grid.now (omega (arith, c.requires.grid_axes))) (omega arith);
      into_stride_is = rw (drop_all n a.around.now (omega (arith, have.of_around))) refl;
      from_stride_is = rw (drop_all n a.axes.now.sub.now (omega arith)) refl;
      so_far = rows_none n array.shape array.start a.around.now part.start a.axes.now.sub.now c.clear.new.self have none.are_rows none.one none.into none.from;
    }

-- what both have along the axis of an iteration
here : (c : In-loop-axis) → SharedAt c.args.axes.now.start.now c.args.axes.now.len.now c.args.axes.now.grid.now c.args.axes.now.sub.now c.args.origin.now c.args.around.now c.args.number c.requires (c.loop-axis.axis - 1)
here c = shared_at _ _ _ _ _ _ _ c.requires (c.loop-axis.axis - 1) (omega arith)

-- the subchunk's coordinate along it
digit : (c : In-loop-axis) → c.loop-axis.rest % get_or c.args.axes.now.grid.now (c.loop-axis.axis - 1) 0 ≡ get_or (point_of c.args.number c.args.axes.now.grid.now) (c.loop-axis.axis - 1) 0
digit c =
    let i = c.loop-axis.axis - 1 in
    let next : i + 1 ≡ c.loop-axis.axis = omega arith in
    let grid = c.args.axes.now.grid.now in
    ap (λ r. r % get_or grid i 0) (rw (sym next) at c.loop-axis.invariant.rest_is) ∙ (here c).digit

-- the axes of either array step from the first point of the last axes to that of one more
into_step : (c : In-loop-axis) → let array = shared_in_array c.args.axes.now.start.now c.args.axes.now.len.now c.args.axes.now.grid.now c.args.axes.now.sub.now c.args.origin.now c.args.number in
    AxisStep array.start c.args.around.now (c.loop-axis.axis - 1) (get_or array.start (c.loop-axis.axis - 1) 0) c.loop-axis.into_stride c.loop-axis.rows.into
into_step c =
    let a = c.args in
    let array = shared_in_array a.axes.now.start.now a.axes.now.len.now a.axes.now.grid.now a.axes.now.sub.now a.origin.now a.number in
    let have = shared_axes _ _ _ _ _ _ _ c.requires in
    let known = c.loop-axis.invariant in
    axis_step array.start a.around.now (c.loop-axis.axis - 1) c.loop-axis.axis _ c.loop-axis.into_stride c.loop-axis.rows.into (into_inside _ _ _ _ _ _ _ c.requires) c.requires.in_array.1
    (omega (arith, have.of_around)) (omega arith) refl known.into_stride_is known.so_far.into_first

from_step : (c : In-loop-axis) → let part = shared_in_subchunk c.args.axes.now.start.now c.args.axes.now.len.now c.args.axes.now.grid.now c.args.axes.now.sub.now c.args.number in
    AxisStep part.start c.args.axes.now.sub.now (c.loop-axis.axis - 1) (get_or part.start (c.loop-axis.axis - 1) 0) c.loop-axis.from_stride c.loop-axis.rows.from
from_step c =
    let a = c.args in
    let part = shared_in_subchunk a.axes.now.start.now a.axes.now.len.now a.axes.now.grid.now a.axes.now.sub.now a.number in
    let known = c.loop-axis.invariant in
    axis_step part.start a.axes.now.sub.now (c.loop-axis.axis - 1) c.loop-axis.axis _ c.loop-axis.from_stride c.loop-axis.rows.from (from_inside _ _ _ _ _ _ _ c.requires) c.requires.in_subchunk.1
    (omega arith) (omega arith) refl known.from_stride_is known.so_far.from_first

pub bounds-len-axis : goal.bounds-len-axis
bounds-len-axis c = omega (arith, c.requires.axes, length_all_zip (λ first n. first + n < 2 ^ 64) c.args.axes.now.start.now c.args.axes.now.len.now c.requires.well_formed)

pub nonzero_rem-rest : goal.nonzero_rem-rest
nonzero_rem-rest c = (here (goal.at.nonzero_rem-rest c).In-loop-axis).grid_some

pub overflow_mul-rest : goal.overflow_mul-rest
overflow_mul-rest c =
    let l = (goal.at.overflow_mul-rest c).In-loop-axis in
    rw (digit l) (omega (arith, (here l).other_fits))

pub span_of-span-requires-clause-fits : goal.span_of-span-requires-clause-fits
span_of-span-requires-clause-fits c = (here (goal.at.span_of-span-requires-clause-fits c).In-loop-axis).fits

pub span_of-span-requires-clause-part_fits : goal.span_of-span-requires-clause-part_fits
span_of-span-requires-clause-part_fits c =
    let l = (goal.at.span_of-span-requires-clause-part_fits c).In-loop-axis in
    rw (digit l) (here l).other_fits

-- the span is what both have
len_is : (c : After-span_of-span) → SharedAt c.args.axes.now.start.now c.args.axes.now.len.now c.args.axes.now.grid.now c.args.axes.now.sub.now c.args.origin.now c.args.around.now c.args.number c.requires (c.loop-axis.axis - 1) → c.loop-axis.rest % get_or c.args.axes.now.grid.now (c.loop-axis.axis - 1) 0 ≡ get_or (point_of c.args.number c.args.axes.now.grid.now) (c.loop-axis.axis - 1) 0 → let array = shared_in_array c.args.axes.now.start.now c.args.axes.now.len.now c.args.axes.now.grid.now c.args.axes.now.sub.now c.args.origin.now c.args.number in
    c.span_of-span.result.len ≡ get_or array.shape (c.loop-axis.axis - 1) 0
len_is c known turn = (rw turn at c.span_of-span.ensures.len) ∙ sym known.len_at

into_is : (c : After-span_of-span) → SharedAt c.args.axes.now.start.now c.args.axes.now.len.now c.args.axes.now.grid.now c.args.axes.now.sub.now c.args.origin.now c.args.around.now c.args.number c.requires (c.loop-axis.axis - 1) → c.loop-axis.rest % get_or c.args.axes.now.grid.now (c.loop-axis.axis - 1) 0 ≡ get_or (point_of c.args.number c.args.axes.now.grid.now) (c.loop-axis.axis - 1) 0 → let array = shared_in_array c.args.axes.now.start.now c.args.axes.now.len.now c.args.axes.now.grid.now c.args.axes.now.sub.now c.args.origin.now c.args.number in
    get_or c.args.origin.now (c.loop-axis.axis - 1) 0 + c.span_of-span.result.in_subset ≡ get_or array.start (c.loop-axis.axis - 1) 0
into_is c known turn = ap (λ n. get_or c.args.origin.now (c.loop-axis.axis - 1) 0 + n) (rw turn at c.span_of-span.ensures.in_subset) ∙ sym known.into_at

from_is : (c : After-span_of-span) → SharedAt c.args.axes.now.start.now c.args.axes.now.len.now c.args.axes.now.grid.now c.args.axes.now.sub.now c.args.origin.now c.args.around.now c.args.number c.requires (c.loop-axis.axis - 1) → c.loop-axis.rest % get_or c.args.axes.now.grid.now (c.loop-axis.axis - 1) 0 ≡ get_or (point_of c.args.number c.args.axes.now.grid.now) (c.loop-axis.axis - 1) 0 → let part = shared_in_subchunk c.args.axes.now.start.now c.args.axes.now.len.now c.args.axes.now.grid.now c.args.axes.now.sub.now c.args.number in
    c.span_of-span.result.in_subchunk ≡ get_or part.start (c.loop-axis.axis - 1) 0
from_is c known turn = (rw turn at c.span_of-span.ensures.in_subchunk) ∙ sym known.from_at

pub nonzero_div-rest : goal.nonzero_div-rest
nonzero_div-rest c = (here (goal.at.nonzero_div-rest c).In-loop-axis).grid_some

pub overflow_add-into : goal.overflow_add-into
overflow_add-into c =
    let l = (goal.at.overflow_add-into c).In-loop-axis in
    let small = into_small _ _ _ _ _ _ _ c.requires (c.loop-axis.axis - 1) c.loop-axis.axis c.loop-axis.into_stride c.loop-axis.rows.into (into_step l) c.loop-axis.invariant.into_stride_is in
    rw (into_is (goal.at.overflow_add-into c).After-span_of-span (here (goal.at.overflow_add-into c).In-loop-axis) (digit (goal.at.overflow_add-into c).In-loop-axis)) (omega (arith, small))

pub add_axis-requires-clause-are_rows : goal.add_axis-requires-clause-are_rows
add_axis-requires-clause-are_rows c = c.loop-axis.invariant.so_far.are_rows

pub add_axis-requires-clause-some : goal.add_axis-requires-clause-some
add_axis-requires-clause-some c = rw (len_is (goal.at.add_axis-requires-clause-some c).After-span_of-span (here (goal.at.add_axis-requires-clause-some c).In-loop-axis) (digit (goal.at.add_axis-requires-clause-some c).In-loop-axis)) (here (goal.at.add_axis-requires-clause-some c).In-loop-axis).some

pub add_axis-requires-clause-fits : goal.add_axis-requires-clause-fits
add_axis-requires-clause-fits c =
    let a = c.args in
    let i = c.loop-axis.axis - 1 in
    let next : i + 1 ≡ c.loop-axis.axis = omega arith in
    let array = shared_in_array a.axes.now.start.now a.axes.now.len.now a.axes.now.grid.now a.axes.now.sub.now a.origin.now a.number in
    let have = shared_axes _ _ _ _ _ _ _ c.requires in
    let counted = rw next at (count_of-drop array.shape i (omega (arith, have.of_lens))) in
    let all = ap (λ m. get_or array.shape i 0 * m) c.loop-axis.invariant.so_far.counted ∙ sym counted in
    let small = lens_fit _ _ _ _ _ _ _ c.requires i in
    rw (len_is (goal.at.add_axis-requires-clause-fits c).After-span_of-span (here (goal.at.add_axis-requires-clause-fits c).In-loop-axis) (digit (goal.at.add_axis-requires-clause-fits c).In-loop-axis)) (omega (arith, all, small))

pub add_axis-requires-clause-into_fits : goal.add_axis-requires-clause-into_fits
add_axis-requires-clause-into_fits c =
    rw (into_is (goal.at.add_axis-requires-clause-into_fits c).After-span_of-span (here (goal.at.add_axis-requires-clause-into_fits c).In-loop-axis) (digit (goal.at.add_axis-requires-clause-into_fits c).In-loop-axis)) (into_step (goal.at.add_axis-requires-clause-into_fits c).In-loop-axis).number_fits

pub add_axis-requires-clause-from_fits : goal.add_axis-requires-clause-from_fits
add_axis-requires-clause-from_fits c =
    rw (from_is (goal.at.add_axis-requires-clause-from_fits c).After-span_of-span (here (goal.at.add_axis-requires-clause-from_fits c).In-loop-axis) (digit (goal.at.add_axis-requires-clause-from_fits c).In-loop-axis)) (from_step (goal.at.add_axis-requires-clause-from_fits c).In-loop-axis).number_fits

pub bounds-around-axis : goal.bounds-around-axis
bounds-around-axis c =
    let have = shared_axes _ _ _ _ _ _ _ c.requires in
    omega (arith, have.of_around)

pub overflow_mul-into_stride : goal.overflow_mul-into_stride
overflow_mul-into_stride c = omega (arith, (into_step (goal.at.overflow_mul-into_stride c).In-loop-axis).stride_fits)

pub overflow_mul-from_stride : goal.overflow_mul-from_stride
overflow_mul-from_stride c = omega (arith, (from_step (goal.at.overflow_mul-from_stride c).In-loop-axis).stride_fits)

pub loop-axis-preserved : goal.loop-axis-preserved
loop-axis-preserved c =
    let a = c.args in
    let i = c.loop-axis.axis - 1 in
    let next : i + 1 ≡ c.loop-axis.axis = omega arith in
    let l = (goal.at.loop-axis-preserved c).In-loop-axis in
    let after = (goal.at.loop-axis-preserved c).After-span_of-span in
    let array = shared_in_array a.axes.now.start.now a.axes.now.len.now a.axes.now.grid.now a.axes.now.sub.now a.origin.now a.number in
    let part = shared_in_subchunk a.axes.now.start.now a.axes.now.len.now a.axes.now.grid.now a.axes.now.sub.now a.number in
    let have = shared_axes _ _ _ _ _ _ _ c.requires in
    let known = c.loop-axis.invariant in
    record {
      rest_is = rest_more a.number a.axes.now.grid.now i c.loop-axis.axis c.loop-axis.rest (omega (arith, c.requires.grid_axes)) next known.rest_is;
      into_stride_is = (into_step l).stride_more;
      from_stride_is = (from_step l).stride_more;
      so_far = rows_more (length a.axes.now.sub.now) i c.loop-axis.axis c.span_of-span.result.len _ _ array.shape array.start a.around.now part.start a.axes.now.sub.now c.loop-axis.rows c.add_axis.new.self have next (omega arith)
          known.so_far c.in_ok-add_axis.ensures (len_is after (here l) (digit l)) (into_is after (here l) (digit l)) known.into_stride_is (from_is after (here l) (digit l)) known.from_stride_is;
    }

pub returns-clause-are_rows : goal.returns-clause-are_rows
returns-clause-are_rows c = c.loop-axis.invariant.so_far.are_rows

pub returns-clause-into : goal.returns-clause-into
returns-clause-into c =
    let a = c.args in
    let array = shared_in_array a.axes.now.start.now a.axes.now.len.now a.axes.now.grid.now a.axes.now.sub.now a.origin.now a.number in
    let part = shared_in_subchunk a.axes.now.start.now a.axes.now.len.now a.axes.now.grid.now a.axes.now.sub.now a.number in
    let whole : c.loop-axis.axis ≡ 0 = omega arith in
    rows_whole (length a.axes.now.sub.now) array.shape array.start a.around.now part.start a.axes.now.sub.now c.loop-axis.rows (shared_axes _ _ _ _ _ _ _ c.requires) (rw whole at c.loop-axis.invariant.so_far)

pub returns-clause-from : goal.returns-clause-from
returns-clause-from c = λ r lt.
    let a = c.args in
    let array = shared_in_array a.axes.now.start.now a.axes.now.len.now a.axes.now.grid.now a.axes.now.sub.now a.origin.now a.number in
    let part = shared_in_subchunk a.axes.now.start.now a.axes.now.len.now a.axes.now.grid.now a.axes.now.sub.now a.number in
    let whole : c.loop-axis.axis ≡ 0 = omega arith in
    rows_from (length a.axes.now.sub.now) r array.shape array.start a.around.now part.start a.axes.now.sub.now c.loop-axis.rows (shared_axes _ _ _ _ _ _ _ c.requires) (rw whole at c.loop-axis.invariant.so_far) lt
