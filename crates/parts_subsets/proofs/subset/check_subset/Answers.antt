use Rattle.std.proofs.Common.{ap, length, arith}
use Rattle.std.proofs.lemmas.List.Elements.{length_all_zip}
use Rattle.parts_row_major.proofs.SubsetLaws.{lies_in_length}
use Rattle.parts_subsets.proofs.subset.check_subset.Goals as goal

pub returns-then-start-shape-clause-unserved : goal.returns-then-start-shape-clause-unserved
returns-then-start-shape-clause-unserved c served =
    let same = length_all_zip _ _ _ c.start.ensures.well_formed in
    let long = lies_in_length _ _ _ same served.0 in
    absurd (omega (arith, c.if-start-shape.true, ap length c.start.ensures.value, long))
