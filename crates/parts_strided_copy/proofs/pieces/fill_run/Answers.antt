use Rattle.std.proofs.Common.{◌≡◌, ◌+◌, ◌-◌, ◌∙◌, arith, ap, sym, inl, inr}
use Rattle.std.proofs.lemmas.Bool.{cases_lt}
use Rattle.parts_row_major.specs.Pieces.{piece}
use Rattle.parts_strided_copy.proofs.pieces.fill_run.Goals as goal

pub loop-done-preserved : goal.loop-done-preserved
loop-done-preserved c =
    let known = c.loop-done.invariant in
    let first = c.args.first in
    let done = c.loop-done.done in
    let size = c.args.size in
    let repeated = c.repeat_run.ensures in
    let output = c.repeat_run.new.output in
    record {
      whole = omega (arith, known.whole);
      some = omega (arith, known.some);
      most = omega (arith, c.min-more.ensures);
      written = λ r lt. elim (cases_lt r done) [
        | inl below ↦ repeated.before (first + r) (omega arith) ∙ known.written r below
        | inr past ↦
            let at : first + done + (r - done) ≡ first + r = omega arith in
            ap (piece size output) (sym at) ∙ (repeated.written (r - done) (omega arith) ∙ known.written (r - done) (omega (arith, c.min-more.ensures)))
      ];
      before = λ i lt. repeated.before i (omega arith) ∙ known.before i lt;
      after = λ i le. repeated.after i (omega (arith, c.min-more.ensures)) ∙ known.after i le;
    }
