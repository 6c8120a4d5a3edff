use Rattle.std.proofs.Common.{◌∙◌, ◌*◌, arith}
use Rattle.parts_row_major.proofs.NumberingLaws.{positive_product}
use Rattle.parts_strided_copy.proofs.strided.StridedSubset.new.Goals as goal
use Rattle.parts_strided_copy.proofs.strided.StridedSubset.new.Goals.{then-rows-eq0, else-rows-eq0}

pub first_number-first-requires-clause-some : goal.first_number-first-requires-clause-some
first_number-first-requires-clause-some c =
    let rows = c.rows_in-rows.result in
    let are = c.rows_in-rows.ensures.rows in
    let some = positive_product rows.sets (rows.rows * rows.run) (omega arith) (positive_product rows.rows rows.run are.some_rows are.some) in
    omega (arith, some, are.all)

pub invariant_of-result : goal.invariant_of-result
invariant_of-result c = (
  c.requires,
  c.rows_in-rows.ensures.well_formed,
  c.rows_in-rows.ensures.rows,
  λ some. elim c.if-rows-eq0.branch [
    | then-rows-eq0 w ↦ absurd (omega arith)
    | else-rows-eq0 w ↦ w.first-is ∙ w.first_number-first.ensures
  ],
)
