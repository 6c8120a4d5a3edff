use Rattle.std.proofs.Common.{◌≡◌, [], length, refl, arith, rules}
use Rattle.std.proofs.lemmas.List.Elements.{All-from_get_or}
use Rattle.parts_row_major.specs.Numbering.{IsInside}
use Rattle.parts_subsets.proofs.SelectionLemmas.{inside_no_axes}
use Rattle.parts_subsets.proofs.selection.lies_within.Goals as goal

pub returns-then-is_empty : goal.returns-then-is_empty
returns-then-is_empty g c =
    let shape = c.args.shape.now in
    let none : length shape ≡ 0 = search rules in
    let all = inside_no_axes (g.N.Indexer.selection c.args.indexer.now).points shape none c.requires.each in
    rw c.in_default.ensures.none (λ _. all, λ _. refl)

pub returns : goal.returns
returns g c =
    let points = (g.N.Indexer.selection c.args.indexer.now).points in
    let counted = rw c.unwrap-i-end.ensures at c.len.ensures.value in
    let all = All-from_get_or (λ point. IsInside point c.args.shape.now) points [] (λ k lt. c.loop-i.invariant k (omega (arith, counted.1))) in
    rw c.in_default.ensures.none (λ _. all, λ _. refl)
