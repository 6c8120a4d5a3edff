use Rattle.std.proofs.Common.{◌≡◌, ◌*◌, ◌/◌, ◌∙◌, sym}
use Rattle.parts_strided_copy.proofs.BothRows.{same_sets, whole_multiple, finer}
use Rattle.parts_strided_copy.proofs.subsets.both_rows.Goals as goal

pub returns-then-a-b-2-clause-from : goal.returns-then-a-b-2-clause-from
returns-then-a-b-2-clause-from c =
    let a = c.rows_in-a in
    let b = c.rows_in-b in
    let counts : a.result.sets * (a.result.rows * a.result.run) ≡ b.result.sets * (b.result.rows * b.result.run) = a.ensures.rows.all ∙ (sym c.requires.same ∙ sym b.ensures.rows.all) in
    let same = same_sets a.result.sets b.result.sets b.result.rows b.result.run b.ensures.rows.some_rows b.ensures.rows.some (rw (c.if-a-b.true, c.if-a-b-2.true) at counts) in
    rw (c.rows_end_to_end-both.ensures, c.if-a-b.true, c.if-a-b-2.true, same) b.ensures.rows

pub returns-then-a-of_b-eq0-clause-into : goal.returns-then-a-of_b-eq0-clause-into
returns-then-a-of_b-eq0-clause-into c =
    let a = c.rows_in-a in
    let b = c.rows_in-b in
    let size = b.result.rows * b.result.run in
    rw c.rows_end_to_end-both-then-a-of_b-eq0.ensures
    (finer c.args.into.now c.args.shape.now a.result.run a.result.rows a.result.stride a.result.sets a.ensures.rows
    b.result.run b.result.rows b.result.sets (a.result.run / size) b.ensures.rows.some b.ensures.rows.some_rows
    (b.ensures.rows.all ∙ c.requires.same) (whole_multiple a.result.run size c.if-a-of_b-eq0.true))

pub returns-then-b-of_a-eq0-clause-from : goal.returns-then-b-of_a-eq0-clause-from
returns-then-b-of_a-eq0-clause-from c =
    let a = c.rows_in-a in
    let b = c.rows_in-b in
    let size = a.result.rows * a.result.run in
    rw c.rows_end_to_end-both-then-b-of_a-eq0.ensures
    (finer c.args.from.now c.args.other.now b.result.run b.result.rows b.result.stride b.result.sets b.ensures.rows
    a.result.run a.result.rows a.result.sets (b.result.run / size) a.ensures.rows.some a.ensures.rows.some_rows
    (a.ensures.rows.all ∙ sym c.requires.same) (whole_multiple b.result.run size c.if-b-of_a-eq0.true))
