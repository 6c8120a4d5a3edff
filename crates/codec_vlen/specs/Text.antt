-- The text of elements that have lengths of their own: their count, then each behind its length, all as numbers of four bytes.
use Rattle.std.specs.Prelude.{◌++◌, ◌<◌, ◌^◌, ◌==◌, if◌then◌else◌, ℕ, zero, suc, [], ◌∷◌, Option, Some, None, length, take, drop, nat_lt, nat_le, option_map, option_and_then}
use Rattle.std.specs.Int.{w32, to_le_bytes, from_le_bytes}
use Rattle.std.specs.List.{All, flat_map}
use Rattle.parts_errors.specs.Words.{Bytes, Elements}

-- a number as four bytes, the least significant first
unfoldable pub number_bytes : ℕ → Bytes
number_bytes n = to_le_bytes w32 n

-- an element behind its length
abbrev pub element_text : Bytes → Bytes
element_text e = number_bytes (length e) ++ e

-- the encoding: the count, then the elements, each behind its length, and nothing after
abbrev pub vlen_text : Elements → Bytes
vlen_text elements = number_bytes (length elements) ++ flat_map element_text elements

-- count and lengths are numbers of four bytes
pub record HasText (elements : Elements) : Type 0 where
  pub count : length elements < 2 ^ 32
  pub lengths : All (λ e. length e < 2 ^ 32) elements

-- the number that the first four bytes are, and the bytes after them
unfoldable pub first_number : Bytes → Option (ℕ × Bytes)
first_number b = if nat_lt (length b) 4 then None else Some (from_le_bytes w32 (take 4 b), drop 4 b)

-- the first of the bytes, so many, and the bytes after them
abbrev pub first_bytes : ℕ → Bytes → Option (Bytes × Bytes)
first_bytes n b = if nat_le n (length b) then Some (take n b, drop n b) else None

-- the element that stands after its length, and the bytes after it
abbrev pub first_element : Bytes → Option (Bytes × Bytes)
first_element b = option_and_then (λ (len, rest). first_bytes len rest) (first_number b)

-- so many elements, each behind its length, and nothing after
unfoldable pub elements_in : ℕ → Bytes → Option Elements
elements_in zero [] = Some []
elements_in zero (x ∷ b) = None
elements_in (suc n) b = option_and_then (λ (e, rest). option_map (λ es. e ∷ es) (elements_in n rest)) (first_element b)

-- the elements of an encoding, of which there are to be so many
unfoldable pub vlen_elements : ℕ → Bytes → Option Elements
vlen_elements count b = option_and_then (λ (told, rest). if told == count then elements_in told rest else None) (first_number b)
