use Rattle.std.proofs.Common.{◌≡◌, length, ap, arith}
use Rattle.parts_row_major.specs.Subsets.{points_of}
use Rattle.parts_row_major.proofs.SubsetLaws.{length-points_of}
use Rattle.sharding_gather.proofs.update.check_update.Goals as goal

pub returns-clause-counted : goal.returns-clause-counted
returns-clause-counted g c =
    let subset = c.in-Some.subset.now in
    let requested : length (g.N.Indexer.selection c.args.indexer.now).points ≡ length (points_of subset) = ap (λ selection. length selection.points) c.in-Some.ensures.some in
    omega (arith, requested, length-points_of subset, c.in-Some-len.ensures.value.1)
