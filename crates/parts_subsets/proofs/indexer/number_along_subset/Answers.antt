use Rattle.std.proofs.Common.{◌+◌, ◌^◌, ◌<◌, refl, arith}
use Rattle.std.proofs.lemmas.List.Elements.{length_all_zip, AllZip-get_or}
use Rattle.parts_row_major.specs.Numbering.{point_of}
use Rattle.parts_row_major.proofs.NumberingLaws.{point_inside, below_axis, length-point_of}
use Rattle.parts_row_major.proofs.SubsetLaws.{get_or-zip_with}
use Rattle.parts_subsets.proofs.indexer.number_along_subset.Goals as goal

pub bounds-start-axis : goal.bounds-start-axis
bounds-start-axis c =
    omega (arith, length_all_zip (λ first len. first + len < 2 ^ 64) c.args.start.now c.args.len.now c.requires.well_formed)

pub overflow_add-result : goal.overflow_add-result
overflow_add-result c =
    let same = length_all_zip (λ first len. first + len < 2 ^ 64) c.args.start.now c.args.len.now c.requires.well_formed in
    let end = AllZip-get_or (λ first len. first + len < 2 ^ 64) c.args.start.now c.args.len.now c.args.axis 0 0 c.requires.well_formed (omega arith) in
    let below = below_axis (point_of c.args.i c.args.len.now) c.args.len.now c.args.axis (point_inside c.args.i c.args.len.now c.requires.at_point) c.requires.on_axis in
    omega (arith, c.number_along.ensures)

pub returns : goal.returns
returns c =
    let start = c.args.start.now in
    let point = point_of c.args.i c.args.len.now in
    let same = length_all_zip (λ first len. first + len < 2 ^ 64) start c.args.len.now c.requires.well_formed in
    rw (c.number_along.ensures, get_or-zip_with ◌+◌ start point c.args.axis (omega arith) (omega (arith, length-point_of c.args.i c.args.len.now))) refl
