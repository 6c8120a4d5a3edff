-- Which characters a terminal shows as they are, and texts put together from these.
use Rattle.std.specs.Prelude.{◌≡◌, ◌≤◌, ◌<◌, ◌⊎◌, ℕ, List, ◌++◌, chars}
use Rattle.std.specs.List.{All}

abbrev pub IsBetween : (low high : ℕ) → ℕ → Type 0
IsBetween low high c = (low ≤ c) × (c ≤ high)

-- a terminal obeys it, or ends a line or a paragraph
abbrev pub IsControl : ℕ → Type 0
IsControl c = (c < 32) ⊎ (IsBetween 0x7F 0x9F c ⊎ IsBetween 0x2028 0x2029 c)

-- it turns the direction of a text
abbrev pub IsDirection : ℕ → Type 0
IsDirection c = (c ≡ 0x61C) ⊎ (IsBetween 0x200E 0x200F c ⊎ (IsBetween 0x202A 0x202E c ⊎ IsBetween 0x2066 0x2069 c))

-- it has no width
abbrev pub IsUnseen : ℕ → Type 0
IsUnseen c = (c ≡ 0xAD) ⊎ (IsBetween 0x200B 0x200D c ⊎ (IsBetween 0x2060 0x206F c ⊎ ((c ≡ 0xFEFF)
    ⊎ (IsBetween 0xFFF9 0xFFFB c ⊎ IsBetween 0xE0000 0xE0FFF c))))

abbrev pub IsPrinted : ℕ → Type 0
IsPrinted c = (¬ (IsControl c)) × ((¬ (IsDirection c)) × (¬ (IsUnseen c)))

-- the new text is the old one with printed characters after it: with these ones, where all of them are printed
pub record IsShown (characters old new : List ℕ) : Type 0 where
  pub added : List ℕ
  pub is : chars new ≡ chars old ++ added
  pub printed : All IsPrinted added
  pub same : All IsPrinted characters → added ≡ characters
