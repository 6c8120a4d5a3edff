use Rattle.std.proofs.Common.{◌∙◌, ◌+◌, ◌*◌, ◌/◌, ◌%◌, ap, refl, arith}
use Rattle.parts_row_major.proofs.NumberingLaws.{both_positive, positive_product}
use Rattle.parts_strided_copy.specs.Paired.{rows_along, steps_of, elements_in_rows}
use Rattle.parts_strided_copy.specs.declared.paired.RowStep.{RowStep}
use Rattle.parts_strided_copy.proofs.PairedLemmas.{kept_along, merged_along, pushed_along}
use Rattle.parts_strided_copy.proofs.paired.PairedRows.add_axis.Goals as goal

pub returns-then-len-eq1 : goal.returns-then-len-eq1
returns-then-len-eq1 c =
    let s = c.args.self.now in
    let known = c.requires.are_rows in
    let one = c.if-len-eq1.true in
    record {
      are_rows = record { some = known.some; counted = known.counted; alone = known.alone };
      counted = omega (arith, ap (λ n. n * elements_in_rows s) one);
      into_first = refl;
      from_first = refl;
      into_along = λ k lt. kept_along (λ (step : RowStep). step.into) s.run (steps_of s) c.args.into.stride c.args.len k one lt;
      from_along = λ k lt. kept_along (λ (step : RowStep). step.from) s.run (steps_of s) c.args.from.stride c.args.len k one lt;
    }

pub returns-then-self-from : goal.returns-then-self-from
returns-then-self-from c =
    let s = c.args.self.now in
    let known = c.requires.are_rows in
    let each = both_positive s.run (rows_along (steps_of s)) known.some in
    let one = c.if-self-eq1.true in
    let none = known.alone one in
    record {
      are_rows = record {
        some = positive_product (s.run * c.args.len) (rows_along (steps_of s)) (positive_product s.run c.args.len each.0 c.requires.some) each.1;
        counted = known.counted;
        alone = known.alone;
      };
      counted = omega arith;
      into_first = refl;
      from_first = refl;
      into_along = λ k lt. rw (← c.if-self-into.true) (merged_along (λ (step : RowStep). step.into) s.run c.args.len s.first s.others.items k one none each.0 lt);
      from_along = λ k lt. rw (← c.if-self-from.true) (merged_along (λ (step : RowStep). step.from) s.run c.args.len s.first s.others.items k one none each.0 lt);
    }

pub returns : goal.returns
returns c =
    let s = c.args.self.now in
    let made = c.in_ok-add_step.ensures in
    let step : RowStep = record { rows = c.args.len; into = c.args.into.stride; from = c.args.from.stride } in
    let each = both_positive s.run (rows_along (steps_of s)) c.requires.are_rows.some in
    record {
      are_rows = made.are_rows;
      counted = made.counted;
      into_first = made.first.0;
      from_first = made.first.1;
      into_along = λ k lt. rw made.first.2 (ap (λ n. k % s.run + n) (made.steps (λ (step : RowStep). step.into) (k / s.run)) ∙ pushed_along (λ (step : RowStep). step.into) s.run (steps_of s) step k each.0 each.1 lt);
      from_along = λ k lt. rw made.first.2 (ap (λ n. k % s.run + n) (made.steps (λ (step : RowStep). step.from) (k / s.run)) ∙ pushed_along (λ (step : RowStep). step.from) s.run (steps_of s) step k each.0 each.1 lt);
    }
