use Rattle.parts_subsets.proofs.MissLaws.{position_of_point, elsewhere_from_off, off_from_elsewhere}
use Rattle.zarr_parts.proofs.laws.subset_law.Goals as goal

pub returns : goal.returns
returns c =
    let subset = c.args.subset.now in
    let shape = c.args._shape.now in
    let well = c.shape-len.ensures.well_formed in
    record {
      missed = λ point h none. off_from_elsewhere subset shape well c.requires point h none;
      elsewhere = λ point axis h small off. elsewhere_from_off subset shape well c.requires point axis h small off;
      position = λ point h on. position_of_point subset shape well c.requires point h on;
    }
