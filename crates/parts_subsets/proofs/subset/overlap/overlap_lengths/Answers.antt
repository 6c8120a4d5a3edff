use Rattle.std.proofs.Common.{◌+◌, ◌^◌, ◌<◌, arith, refl}
use Rattle.std.proofs.lemmas.List.Elements.{length_all_zip, AllZip-get_or}
use Rattle.parts_row_major.specs.Subsets.{Subset}
use Rattle.parts_subsets.proofs.OverlapLaws.{HaveSameAxes, overlap_length_more, overlap_lengths_whole}
use Rattle.parts_subsets.proofs.subset.overlap.overlap_lengths.Goals as goal

pub bounds-other_start-axis : goal.bounds-other_start-axis
bounds-other_start-axis c = omega (arith, c.requires.same_axes)

pub bounds-shape-axis : goal.bounds-shape-axis
bounds-shape-axis c =
    omega (arith, length_all_zip (λ first len. first + len < 2 ^ 64) c.args.start.now c.args.shape.now c.requires.well_formed)

pub bounds-other_start-axis-in-loop-axis : goal.bounds-other_start-axis-in-loop-axis
bounds-other_start-axis-in-loop-axis c = omega (arith, c.requires.same_axes)

pub bounds-other_shape-axis : goal.bounds-other_shape-axis
bounds-other_shape-axis c =
    omega (arith, c.requires.same_axes, length_all_zip (λ first len. first + len < 2 ^ 64) c.args.other_start.now c.args.other_shape.now c.requires.other_well_formed)

pub overflow_add-start : goal.overflow_add-start
overflow_add-start c =
    let fits = AllZip-get_or (λ first len. first + len < 2 ^ 64) c.args.start.now c.args.shape.now c.loop-axis.axis 0 0 c.requires.well_formed (omega arith) in
    omega (arith, fits)

pub overflow_add-other_start : goal.overflow_add-other_start
overflow_add-other_start c =
    let fits = AllZip-get_or (λ first len. first + len < 2 ^ 64) c.args.other_start.now c.args.other_shape.now c.loop-axis.axis 0 0 c.requires.other_well_formed (omega (arith, c.requires.same_axes)) in
    omega (arith, fits)

pub loop-axis-preserved : goal.loop-axis-preserved
loop-axis-preserved c =
    let subset : Subset = record { start = c.args.start.now; shape = c.args.shape.now } in
    let other : Subset = record { start = c.args.other_start.now; shape = c.args.other_shape.now } in
    let alike : HaveSameAxes subset other = record { well_formed = c.requires.well_formed; other_well_formed = c.requires.other_well_formed; same_axes = c.requires.same_axes } in
    overlap_length_more subset other c.loop-axis.axis _ _ _ _ _ _ _ _ _ alike (omega arith) refl refl refl refl c.max-first.ensures c.min-end.ensures c.saturating_sub.ensures
    c.loop-axis.invariant c.in_ok-push.ensures.ok

pub returns : goal.returns
returns c =
    let subset : Subset = record { start = c.args.start.now; shape = c.args.shape.now } in
    let other : Subset = record { start = c.args.other_start.now; shape = c.args.other_shape.now } in
    let alike : HaveSameAxes subset other = record { well_formed = c.requires.well_formed; other_well_formed = c.requires.other_well_formed; same_axes = c.requires.same_axes } in
    overlap_lengths_whole subset other c.loop-axis.axis _ alike (omega arith) c.loop-axis.invariant
