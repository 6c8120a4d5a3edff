use Rattle.std.proofs.Common.{◌++◌, [], ◌∷◌, subst, sym, refl, string_bytes, arith, length-append}
use Rattle.std.proofs.lemmas.Str.{IsUtf8-past_char, IsUtf8-string_bytes}
use Rattle.array_fields.specs.Printed.{IsShown}
use Rattle.array_fields.proofs.ShownLemmas.{shown_more, next_split, no_more, all_printed, shown_whole, same_bytes}
use Rattle.array_fields.proofs.escape.escaped_front.Goals as goal

pub returns-then-count-eq-LIMIT-clause-printed : goal.returns-then-count-eq-LIMIT-clause-printed
returns-then-count-eq-LIMIT-clause-printed c = all_printed _ _ c.loop-c.invariant.shown

pub loop-c-preserved : goal.loop-c-preserved
loop-c-preserved c =
    let held = c.loop-c.invariant in
    let ch = c.in-Some.c in
    let parts = c.in-Some.ensures.steps.0 in
    record {
      utf8 = IsUtf8-past_char _ _ ch held.utf8 parts;
      done = held.done ++ ch ∷ [];
      counted = omega (arith, held.counted, length-append held.done (ch ∷ []));
      few = omega (arith, held.few);
      split = next_split _ _ _ held.done ch held.utf8 parts held.split;
      shown = shown_more held.done (ch ∷ []) _ _ _ held.shown c.in_ok-push_escaped.ensures;
    }

pub returns-clause-printed : goal.returns-clause-printed
returns-clause-printed c = all_printed _ _ c.loop-c.invariant.shown

pub returns-clause-same : goal.returns-clause-same
returns-clause-same c = λ all short.
    let held = c.loop-c.invariant in
    let whole = no_more _ _ held.done c.in-None.ensures.steps.0.0 held.split in
    let characters = shown_whole (string_bytes c.loop-c.shown) c.args.text.now (subst (λ cs. IsShown cs [] (string_bytes c.loop-c.shown)) (sym whole) held.shown) all in
    (same_bytes (string_bytes c.loop-c.shown) c.args.text.now (IsUtf8-string_bytes c.loop-c.shown) c.utf8.text characters, refl)
