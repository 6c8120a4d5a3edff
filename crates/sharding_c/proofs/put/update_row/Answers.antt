use Rattle.std.proofs.Common.{◌≡◌, length, rules, inr}
use Rattle.sharding_c.proofs.RowLemmas.{refused_as, row_update_refused}
use Rattle.sharding_c.specs.Rows.{row_length}
use Rattle.sharding_c.proofs.put.update_row.Goals as goal

pub returns-clause-refused : goal.returns-clause-refused
returns-clause-refused c =
    let a = c.args in
    let axes : length a.row.now ≡ row_length (length a.update_shape.now) = search rules in
    let refused = rw (c.in_ok-from.ensures.part, c.in_ok-into.ensures.part) at c.put_part.ensures.refused in
    refused_as _ _ c.put_part.result refused
    (λ e h. row_update_refused a.row.now a.update_shape.now a.layout.now (length a.update.now) (length a.decoded.now) e axes c.in_ok-from.ensures.passed c.in_ok-into.ensures.passed (inr h))
