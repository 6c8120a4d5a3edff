use Rattle.std.proofs.Common.{◌+◌, ◌^◌, ◌<◌, ◌*◌, ◌∙◌, sym, arith}
use Rattle.std.proofs.lemmas.List.Elements.{length_all_zip, AllZip-get_or}
use Rattle.parts_row_major.specs.Numbering.{point_of, zip_with}
use Rattle.parts_row_major.proofs.NumberingLaws.{length-point_of}
use Rattle.sharding_gather.proofs.SubchunkOverlapLemmas.{spans_more, met_in_subchunk, met_in_subset, end_fits}
use Rattle.sharding_gather.proofs.overlap.spans_of.Goals as goal

pub overflow_mul-origin : goal.overflow_mul-origin
overflow_mul-origin c =
    let fits = end_fits (point_of c.args.number c.args.grid.now) c.args.sub.now c.loop-axis.axis (length-point_of c.args.number c.args.grid.now ∙ c.requires.grid_axes) (omega arith) c.requires.fits in
    rw c.number_along.ensures (omega (arith, fits))

pub bounds-len-axis : goal.bounds-len-axis
bounds-len-axis c =
    omega (arith, c.requires.axes, length_all_zip (λ first len. first + len < 2 ^ 64) c.args.start.now c.args.len.now c.requires.well_formed)

pub span_of-span-requires-clause-fits : goal.span_of-span-requires-clause-fits
span_of-span-requires-clause-fits c =
    AllZip-get_or (λ first len. first + len < 2 ^ 64) c.args.start.now c.args.len.now c.loop-axis.axis 0 0 c.requires.well_formed (omega (arith, c.requires.axes))

pub span_of-span-requires-clause-part_fits : goal.span_of-span-requires-clause-part_fits
span_of-span-requires-clause-part_fits c =
    rw c.number_along.ensures (end_fits (point_of c.args.number c.args.grid.now) c.args.sub.now c.loop-axis.axis (length-point_of c.args.number c.args.grid.now ∙ c.requires.grid_axes) (omega arith) c.requires.fits)

pub loop-axis-preserved : goal.loop-axis-preserved
loop-axis-preserved c =
    rw (c.in_ok-push.ensures.ok, c.in_ok-push-2.ensures.ok, c.in_ok-push-3.ensures.ok)
    (spans_more c.args.start.now c.args.len.now (point_of c.args.number c.args.grid.now) c.args.sub.now c.loop-axis.axis c.number_along.result _ _ _ _ _ _ c.number_along.ensures
    c.span_of-span.ensures.in_subchunk c.span_of-span.ensures.in_subset c.span_of-span.ensures.len c.loop-axis.invariant)

pub returns-clause-in_subchunk : goal.returns-clause-in_subchunk
returns-clause-in_subchunk c =
    met_in_subchunk c.args.start.now c.args.len.now (point_of c.args.number c.args.grid.now) c.args.sub.now c.loop-axis.axis _ _ _ (length-point_of c.args.number c.args.grid.now ∙ c.requires.grid_axes)
    (record {
      well_formed = c.requires.well_formed;
      other_well_formed = c.requires.fits;
      same_axes = c.requires.axes ∙ sym (length_all_zip (λ first len. first + len < 2 ^ 64) (zip_with ◌*◌ (point_of c.args.number c.args.grid.now) c.args.sub.now) c.args.sub.now c.requires.fits);
    }) (omega arith) c.loop-axis.invariant

pub returns-clause-in_subset : goal.returns-clause-in_subset
returns-clause-in_subset c =
    met_in_subset c.args.start.now c.args.len.now (point_of c.args.number c.args.grid.now) c.args.sub.now c.loop-axis.axis _ _ _ (length-point_of c.args.number c.args.grid.now ∙ c.requires.grid_axes)
    (record {
      well_formed = c.requires.well_formed;
      other_well_formed = c.requires.fits;
      same_axes = c.requires.axes ∙ sym (length_all_zip (λ first len. first + len < 2 ^ 64) (zip_with ◌*◌ (point_of c.args.number c.args.grid.now) c.args.sub.now) c.args.sub.now c.requires.fits);
    }) (omega arith) c.loop-axis.invariant
