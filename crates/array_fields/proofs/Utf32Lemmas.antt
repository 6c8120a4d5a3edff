-- Characters in UTF-32, one behind the others.
use Rattle.std.proofs.Common.{◌≡◌, ◌∙◌, ◌++◌, ℕ, List, [], ◌∷◌, ap, sym, append_assoc, append-nil}
use Rattle.std.specs.Int.{w32, to_le_bytes}
use Rattle.array_fields.specs.FillValues.{utf32}

pub utf32_last : (cs : List ℕ) (c : ℕ) → utf32 (cs ++ c ∷ []) ≡ utf32 cs ++ to_le_bytes w32 c
utf32_last [] c = append-nil (to_le_bytes w32 c)
utf32_last (d ∷ cs) c =
    ap (λ (bytes : List ℕ). to_le_bytes w32 d ++ bytes) (utf32_last cs c) ∙ sym (append_assoc (to_le_bytes w32 d) (utf32 cs) (to_le_bytes w32 c))
