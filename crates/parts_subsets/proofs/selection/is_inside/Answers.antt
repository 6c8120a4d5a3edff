use Rattle.std.proofs.Common.{◌<◌, [], get_or, refl, arith}
use Rattle.parts_row_major.proofs.SubsetLaws.{all_zip_from_each}
use Rattle.parts_subsets.proofs.selection.is_inside.Goals as goal

pub returns : goal.returns
returns g c =
    let point = get_or (g.N.Indexer.selection c.args.indexer.now).points c.args.i [] in
    let inside = all_zip_from_each (λ x axis. x < axis) point c.args.shape.now c.requires.whole (λ k lt. c.loop-axis.invariant k (omega (arith, c.requires.whole))) in
    (λ _. inside, λ _. refl)
