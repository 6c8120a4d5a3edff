use Rattle.std.proofs.Common.{◌≡◌, ◌∙◌, ◌+◌, ◌%◌, ◌^◌, ◌<◌, sym}
use Rattle.std.proofs.lemmas.List.Elements.{length_all_zip}
use Rattle.parts_row_major.proofs.SubsetLaws.{lies_in_length}
use Rattle.parts_subsets.proofs.GridLaws.{length-grid}
use Rattle.parts_subsets.proofs.SharedPointLaws.{subchunk_well_formed}
use Rattle.sharding_gather.proofs.SubchunkOverlapLemmas.{spans_overlap}
use Rattle.sharding_gather.proofs.overlap.subchunk_overlap.Goals as goal

pub spans_of-requires-clause-axes : goal.spans_of-requires-clause-axes
spans_of-requires-clause-axes c =
    let subset = c.args.subset.now in
    let shape = c.args.shape.now in
    let sub = c.args.sub.now in
    rw (c.start.ensures.value, c.as_slice-2.ensures.value)
    (lies_in_length subset.start subset.shape shape (length_all_zip (λ first len. first + len < 2 ^ 64) subset.start subset.shape c.start.ensures.well_formed) c.requires.inside
    ∙ sym (length_all_zip (λ part axis. axis % part ≡ 0) sub shape c.requires.divides))

pub spans_of-requires-clause-grid_axes : goal.spans_of-requires-clause-grid_axes
spans_of-requires-clause-grid_axes c =
    let shape = c.args.shape.now in
    let sub = c.args.sub.now in
    rw (c.as_slice.ensures.value, c.as_slice-2.ensures.value, c.requires.grid)
    (length-grid shape sub c.requires.divides ∙ sym (length_all_zip (λ part axis. axis % part ≡ 0) sub shape c.requires.divides))

pub spans_of-requires-clause-fits : goal.spans_of-requires-clause-fits
spans_of-requires-clause-fits c =
    rw (c.as_slice.ensures.value, c.as_slice-2.ensures.value, c.requires.grid)
    (subchunk_well_formed c.args.shape.now c.args.sub.now c.args.number c.args.subset.now c.as_slice-axes.ensures.positive c.requires.fits c.requires.divides
    (rw c.requires.grid at c.requires.below) c.start.ensures.well_formed c.requires.inside)

pub unreachable-requires : goal.unreachable-requires
unreachable-requires c =
    let m = spans_overlap c.args.shape.now c.args.sub.now c.args.number c.args.subset.now c.as_slice-axes.ensures.positive c.requires.fits c.requires.divides
    (rw c.requires.grid at c.requires.below) c.start.ensures.well_formed c.requires.inside c.requires.touches _ _ _ _ _ _
    c.start.ensures.value c.shape.ensures.value (c.as_slice.ensures.value ∙ c.requires.grid) c.as_slice-2.ensures.value c.in_ok-in_subchunk.ensures.in_subchunk c.in_ok-in_subchunk.ensures.in_subset in
    c.in_default.ensures (rw (c.in_ok-same_lengths.ensures ∙ c.deref.ensures) m.sub_well_formed)

pub unreachable-requires-in_default-new_with_axes : goal.unreachable-requires-in_default-new_with_axes
unreachable-requires-in_default-new_with_axes c =
    let m = spans_overlap c.args.shape.now c.args.sub.now c.args.number c.args.subset.now c.as_slice-axes.ensures.positive c.requires.fits c.requires.divides
    (rw c.requires.grid at c.requires.below) c.start.ensures.well_formed c.requires.inside c.requires.touches _ _ _ _ _ _
    c.start.ensures.value c.shape.ensures.value (c.as_slice.ensures.value ∙ c.requires.grid) c.as_slice-2.ensures.value c.in_ok-in_subchunk.ensures.in_subchunk c.in_ok-in_subchunk.ensures.in_subset in
    c.in_default-new_with_axes.ensures m.subset_well_formed

pub returns-clause-meets : goal.returns-clause-meets
returns-clause-meets c =
    let m = spans_overlap c.args.shape.now c.args.sub.now c.args.number c.args.subset.now c.as_slice-axes.ensures.positive c.requires.fits c.requires.divides
    (rw c.requires.grid at c.requires.below) c.start.ensures.well_formed c.requires.inside c.requires.touches _ _ _ _ _ _
    c.start.ensures.value c.shape.ensures.value (c.as_slice.ensures.value ∙ c.requires.grid) c.as_slice-2.ensures.value c.in_ok-in_subchunk.ensures.in_subchunk c.in_ok-in_subchunk.ensures.in_subset in
    let same = c.in_ok-same_lengths.ensures ∙ c.deref.ensures in
    rw (c.in-Some.ensures.1, c.in-Some-new_with_axes.ensures.1, same) m
