use Rattle.std.proofs.Common.{string_bytes, IsTrue, false}
use Rattle.array_fields.specs.Printed.{IsPrinted}
use Rattle.array_fields.proofs.ShownLemmas.{shown_escape}
use Rattle.array_fields.proofs.escape.push_escaped.Goals as goal

untrue : IsTrue false → ⊥
untrue h = cc

pub returns : goal.returns
returns c =
    let hidden : ¬ (IsPrinted c.args.c) = λ printed. untrue (c.if-is_printed.ensures.1 printed) in
    shown_escape (string_bytes c.args.shown.now) (string_bytes c.push_text.new.shown) _ c.args.c hidden c.in_ok-push_text.ensures
