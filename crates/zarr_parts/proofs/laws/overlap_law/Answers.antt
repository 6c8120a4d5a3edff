use Rattle.parts_subsets.proofs.OverlapLaws.{overlap_has_both}
use Rattle.zarr_parts.proofs.laws.overlap_law.Goals as goal

pub returns : goal.returns
returns c =
    overlap_has_both c.args.subset.now c.args.other.now
    (record { well_formed = c.start-start.ensures.well_formed; other_well_formed = c.start-other_start.ensures.well_formed; same_axes = c.requires })
