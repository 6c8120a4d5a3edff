use Rattle.std.proofs.Common.{◌≡◌, ◌∙◌, ◌*◌, ◌<◌, ap, arith}
use Rattle.parts_row_major.proofs.NumberingLaws.{both_positive, positive_product}
use Rattle.parts_subsets.proofs.GridLaws.{at_least}
use Rattle.parts_strided_copy.specs.Paired.{rows_along}
use Rattle.parts_strided_copy.proofs.PairedLemmas.{rows_along-push}
use Rattle.parts_strided_copy.proofs.paired.PairedRows.add_step.Goals as goal

pub overflow_mul-self : goal.overflow_mul-self
overflow_mul-self c =
    let s = c.args.self.now in
    let known = c.requires.are_rows in
    let others = rows_along s.others.items in
    let each = both_positive s.run (s.first.rows * others) known.some in
    let inner = both_positive s.first.rows others each.1 in
    let most = at_least (c.args.step.rows * others) (s.run * s.first.rows) (positive_product s.run s.first.rows each.0 inner.0) in
    omega (arith, most, c.requires.fits, ap (λ n. n * c.args.step.rows) known.counted)

pub returns-clause-are_rows : goal.returns-clause-are_rows
returns-clause-are_rows c =
    let s = c.args.self.now in
    let known = c.requires.are_rows in
    let step = c.args.step in
    let others = rows_along s.others.items in
    let each = both_positive s.run (s.first.rows * others) known.some in
    let inner = both_positive s.first.rows others each.1 in
    let pushed : rows_along c.push.new.self.items ≡ step.rows * others = ap rows_along c.in_ok-push.ensures.items ∙ rows_along-push s.others.items step in
    let more : 0 < rows_along c.push.new.self.items = omega (arith, pushed, positive_product step.rows others (omega (arith, c.requires.more)) inner.1) in
    record {
      some = positive_product s.run (s.first.rows * rows_along c.push.new.self.items) each.0 (positive_product s.first.rows (rows_along c.push.new.self.items) inner.0 more);
      counted = omega (arith, pushed, ap (λ n. n * step.rows) known.counted);
      alone = λ one. absurd (c.if-self-eq1.false one);
    }

pub returns-clause-counted : goal.returns-clause-counted
returns-clause-counted c =
    let s = c.args.self.now in
    let pushed = rows_along-push s.others.items c.args.step in
    rw c.in_ok-push.ensures.items (omega (arith, ap (λ n. s.run * (s.first.rows * n)) pushed))
