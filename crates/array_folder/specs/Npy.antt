-- A file of NumPy's format, version 1.0: what stands before its elements.
use Rattle.std.specs.Prelude.{◌≡◌, ◌+◌, ◌++◌, ◌%◌, ◌∷◌, [], ℕ, List, length, replicate}
use Rattle.std.specs.Int.{to_le_bytes, w16}

-- the mark of the format, which is 0x93 and "NUMPY", and the version 1.0
abbrev pub mark : List ℕ
mark = 0x93 ∷ 78 ∷ 85 ∷ 77 ∷ 80 ∷ 89 ∷ 1 ∷ 0 ∷ []

-- these bytes are the header of a description: the mark, in two bytes how many follow, the description, spaces and a line end,
-- so that the elements begin at a multiple of 64
abbrev pub IsHeader : List ℕ → List ℕ → Type 0
IsHeader description header =
    (spaces : ℕ)
    × (header ≡ mark ++ to_le_bytes w16 (length description + spaces + 1) ++ description ++ replicate spaces 32 ++ 10 ∷ [])
    × (length header % 64 ≡ 0)
