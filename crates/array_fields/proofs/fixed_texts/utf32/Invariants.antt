use Rattle.std.proofs.Common.{◌≡◌, take}
use Rattle.array_fields.specs.FillValues.{utf32}
use Rattle.array_fields.proofs.fixed_texts.utf32.Given as goal

-- the characters up to here
abbrev pub invariant-loop-character : goal.invariant-loop-character
invariant-loop-character l = l.bytes.items ≡ utf32 (take l.character-index l.characters)
