use Rattle.std.proofs.Common.{◌≡◌, [], ◌≢◌, arith, rules}
use Rattle.std.proofs.lemmas.Grind.{common_steps}
use Rattle.std.proofs.lemmas.List.{take_all}
use Rattle.std.proofs.lemmas.List.Elements.{All-more}
use Rattle.std.specs.List.{All}
use Rattle.std.specs.Char.{IsAsciiDigit}
use Rattle.tool_script.specs.Text.{decimal_value}
use Rattle.tool_script.proofs.TextLaws.{decimal_value-more, decimal_value-past}
use Rattle.tool_script.proofs.parse.decimal.Goals as goal

pub returns-in_err-checked_mul : goal.returns-in_err-checked_mul
returns-in_err-checked_mul c =
    rw c.from_residual.ensures
    (λ h. let past = decimal_value-past c.args.text.now c.loop-digit.digit-index 18446744073709551616 c.loop-digit-test.true (omega (arith, c.in_err-checked_mul.ensures, c.loop-digit.invariant.value)) in omega (arith, past, h.1))

pub returns-in_err-number : goal.returns-in_err-number
returns-in_err-number c =
    rw c.from_residual-in_err-number.ensures
    (λ h. let past = decimal_value-past c.args.text.now c.loop-digit.digit-index 18446744073709551616 c.loop-digit-test.true (omega (arith, c.in_err-number.ensures, c.in_ok-checked_mul.ensures, c.loop-digit.invariant.value)) in omega (arith, past, h.1))

pub loop-digit-preserved : goal.loop-digit-preserved
loop-digit-preserved c = record {
  value = omega (arith, decimal_value-more c.args.text.now c.loop-digit.digit-index c.loop-digit-test.true, c.in_ok-number.ensures, c.in_ok-checked_mul.ensures);
  digits = All-more IsAsciiDigit c.args.text.now c.loop-digit.digit-index 0 c.loop-digit-test.true c.loop-digit.invariant.digits (search rules);
  fits = omega (arith, c.in_ok-number.ensures, c.in_ok-checked_mul.ensures);
}

pub returns : goal.returns
returns c =
    let all = take_all c.loop-digit.digit-index c.args.text.now c.loop-digit-test.false in
    let value : c.loop-digit.number ≡ decimal_value c.args.text.now = rw all at c.loop-digit.invariant.value in
    let digits : All IsAsciiDigit c.args.text.now = rw all at c.loop-digit.invariant.digits in
    let some : c.args.text.now ≢ [] = λ empty. grind (arith, common_steps, empty) in
    ((record { some = some; digits = digits }, omega (arith, value, c.loop-digit.invariant.fits)), value)
