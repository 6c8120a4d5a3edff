-- Texts, as lists of bytes: their pieces, and the numbers that they write.
use Rattle.std.specs.Prelude.{◌≢◌, ◌==◌, ℕ, ◌+◌, ◌-◌, ◌*◌, ◌≤◌, List, [], fold, Option, Some, None, option_map}
use Rattle.std.specs.List.{slice_split, All}
use Rattle.std.specs.Char.{IsAsciiDigit}
use Rattle.tool_script.specs.declared.pieces.Pieces.{Pieces}

-- the pieces that an iterator has left
abbrev pub pieces_left : Pieces → List (List ℕ)
pieces_left pieces = elim pieces.rest as (λ _. List (List ℕ))
    [ None ↦ [] | Some rest ↦ slice_split (λ byte. byte == pieces.separator) rest.now ]

-- the text that an iterator has left
abbrev pub text_left : Pieces → Option (List ℕ)
text_left pieces = option_map (λ text. text.now) pieces.rest

-- the number that decimal digits write
abbrev pub decimal_value : List ℕ → ℕ
decimal_value digits = fold (λ value digit. 10 * value + (digit - 48)) 0 digits

-- one or more decimal digits
pub record IsDecimal (text : List ℕ) : Type 0 where
  pub some : text ≢ []
  pub digits : All IsAsciiDigit text

-- a decimal number that is at most the greatest
abbrev pub IsNumber : ℕ → List ℕ → Type 0
IsNumber greatest text = IsDecimal text × (decimal_value text ≤ greatest)

-- the members of a list with commas
abbrev pub members_of : List ℕ → List (List ℕ)
members_of text = slice_split (λ byte. byte == 44) text

-- a list of decimal numbers, each at most the greatest
abbrev pub IsNumberList : ℕ → List ℕ → Type 0
IsNumberList greatest text = All (IsNumber greatest) (members_of text)
