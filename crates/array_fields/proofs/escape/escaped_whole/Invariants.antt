-- The characters so far are shown.
use Rattle.std.proofs.Common.{◌≡◌, ◌++◌, [], ℕ, List, IsUtf8, chars, string_bytes}
use Rattle.std.specs.Str.Iter.{chars_rest}
use Rattle.array_fields.specs.Printed.{IsShown}
use Rattle.array_fields.proofs.escape.escaped_whole.Given as goal

abbrev pub invariant-loop-c : goal.invariant-loop-c
invariant-loop-c l = record {
  utf8 : IsUtf8 (chars_rest l.c-iterator);
  done : List ℕ;
  split : chars l.text ≡ done ++ chars (chars_rest l.c-iterator);
  shown : IsShown done [] (string_bytes l.shown);
}
