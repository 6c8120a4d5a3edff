use Rattle.std.proofs.Common.{◌≡◌, ◌<◌, ◌^◌, take}
use Rattle.std.specs.List.{All}
use Rattle.std.specs.Char.{IsAsciiDigit}
use Rattle.tool_script.specs.Text.{decimal_value}
use Rattle.tool_script.proofs.parse.decimal.Given as goal

abbrev pub invariant-loop-digit : goal.invariant-loop-digit
invariant-loop-digit l = record {
  value : l.number ≡ decimal_value (take l.digit-index l.text);
  digits : All IsAsciiDigit (take l.digit-index l.text);
  fits : l.number < 2 ^ 64;
}
