use Rattle.std.proofs.Common.{◌++◌, [], ◌∷◌, subst, sym, string_bytes}
use Rattle.std.proofs.lemmas.Str.{IsUtf8-past_char}
use Rattle.array_fields.specs.Printed.{IsShown}
use Rattle.array_fields.proofs.ShownLemmas.{shown_mark, shown_more, next_split, no_more}
use Rattle.array_fields.proofs.escape.push_text.Goals as goal

pub loop-c-preserved : goal.loop-c-preserved
loop-c-preserved c =
    let held = c.loop-c.invariant in
    let ch = c.in-Some.c in
    let parts = c.in-Some.ensures.steps.0 in
    record {
      utf8 = IsUtf8-past_char _ _ ch held.utf8 parts;
      done = held.done ++ ch ∷ [];
      split = next_split _ _ _ held.done ch held.utf8 parts held.split;
      shown = shown_more held.done (ch ∷ []) _ _ _ held.shown (shown_mark _ _ ch c.marked.result c.marked.ensures.printed c.marked.ensures.same c.in_ok-push_printed.ensures);
    }

pub returns : goal.returns
returns c =
    let held = c.loop-c.invariant in
    let whole = no_more _ _ held.done c.in-None.ensures.steps.0.0 held.split in
    subst (λ cs. IsShown cs (string_bytes c.args.shown.now) (string_bytes c.loop-c.shown)) (sym whole) held.shown
