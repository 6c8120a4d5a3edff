use Rattle.std.proofs.Common.{◌+◌, ◌^◌, ◌<◌, sym, ◌∙◌}
use Rattle.std.proofs.lemmas.List.Elements.{length_all_zip}
use Rattle.parts_row_major.proofs.SubsetLaws.{length-points_of, point_of-points_of, length-point_in}
use Rattle.parts_subsets.proofs.indexer.ArraySubsetIndexer.dimensionality.Goals as goal

pub returns-clause-each : goal.returns-clause-each
returns-clause-each c i lt =
    let subset = c.args.self.now in
    let same = length_all_zip (λ first len. first + len < 2 ^ 64) subset.start subset.shape c.start.ensures.well_formed in
    let below = rw (length-points_of subset) at lt in
    rw (point_of-points_of subset i below) (length-point_in subset.start subset.shape i same ∙ sym same)
