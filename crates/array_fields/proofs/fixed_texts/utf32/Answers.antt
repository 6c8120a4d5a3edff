use Rattle.std.proofs.Common.{◌≡◌, ◌∙◌, ◌+◌, ◌++◌, ℕ, [], ◌∷◌, ap, sym, take}
use Rattle.std.proofs.lemmas.List.{take_more}
use Rattle.array_fields.specs.FillValues.{utf32}
use Rattle.array_fields.proofs.Utf32Lemmas.{utf32_last}
use Rattle.array_fields.proofs.fixed_texts.utf32.Goals as goal

pub loop-character-init : goal.loop-character-init
loop-character-init c = c.new-bytes.ensures.items

pub loop-character-preserved : goal.loop-character-preserved
loop-character-preserved c =
    let cs = c.args.characters.now in
    let i = c.loop-character.character-index in
    let x = c.character-item.result in
    let more = take_more cs i x c.loop-character-test.true ∙ ap (λ (y : ℕ). take i cs ++ y ∷ []) (sym c.character-item.is) in
    c.in_ok-extend_from_slice.ensures.items
    ∙ (λ k. c.loop-character.invariant k ++ c.to_le_bytes.ensures k)
    ∙ sym (utf32_last (take i cs) x)
    ∙ ap utf32 (sym more)
