use Rattle.std.proofs.Common.{◌≡◌, ◌+◌, ◌++◌, length, take, ap, ◌∙◌, arith}
use Rattle.std.proofs.Math.Seq.{take-append-add}
use Rattle.std.proofs.lemmas.List.{take-take}
use Rattle.parts_strided_copy.proofs.pieces.push_exactly.Goals as goal

pub returns-clause-ok : goal.returns-clause-ok
returns-clause-ok g c =
    let bytes = c.args.bytes.now.items in
    let first : c.in-Some.first.now ≡ take g.row.N c.args.from.now = c.in-Some.ensures.cases.same in
    let front = take g.row.N c.args.from.now in
    let end : length bytes + c.args.len ≡ c.len.result + c.args.len = omega (arith, c.len.ensures) in
    c.truncate.ensures.items
    ∙ (ap (take (c.len.result + c.args.len)) c.in_ok-extend_from_slice.ensures.items
    ∙ rw (← end, first) (take-append-add bytes front c.args.len ∙ ap (λ ys. bytes ++ ys) (take-take c.args.len g.row.N c.args.from.now (omega arith))))
