use Rattle.std.proofs.Common.{Ok, Err, OnOk, All}
use Rattle.parts_row_major.specs.Numbering.{IsInside}
use Rattle.parts_subsets.proofs.SelectionLemmas.{inside_within}
use Rattle.parts_subsets.proofs.selection.check_selection.Goals as goal

pub returns-clause-inside : goal.returns-clause-inside
returns-clause-inside g c =
    let selection = g.N.Indexer.selection c.args.indexer.now in
    let shape = c.args.shape.now in
    let within = rw c.as_slice-shape.ensures.value at (c.lies_within.ensures.0 c.if-not-lies_within.false) in
    let all = inside_within shape selection (g.met.N.Indexer.matches_subset c.args.indexer.now) within in
    elim c.ok_or.result as (λ r. OnOk r (All (λ point. IsInside point shape) selection.points)) [ Ok x ↦ all | Err e ↦ tt ]
