use Rattle.std.proofs.Common.{string_bytes}
use Rattle.std.proofs.lemmas.Str.{IsUtf8-string_bytes}
use Rattle.array_fields.proofs.ShownLemmas.{shown_char}
use Rattle.array_fields.proofs.escape.push_printed.Goals as goal

pub returns : goal.returns
returns c =
    shown_char (string_bytes c.args.shown.now) (string_bytes c.push.new.self) c.args.c (IsUtf8-string_bytes c.args.shown.now) (IsUtf8-string_bytes c.push.new.self)
    c.requires c.in_ok-push.ensures.bytes
