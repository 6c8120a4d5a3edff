-- Words that write bytes.
use Rattle.std.specs.Prelude.{◌≡◌, ℕ, List, ◌++◌, codes}
use Rattle.hex.specs.Hex.{encode_lower, IsBytes}

-- the word of some bytes: `x`, and their hexadecimal digits in lower case
abbrev pub hex_word : List ℕ → List ℕ
hex_word bytes = codes "x" ++ encode_lower bytes

-- a word that writes bytes
pub record IsHexWord (word : List ℕ) : Type 0 where
  pub bytes : List ℕ
  pub fit : IsBytes bytes
  pub is : word ≡ hex_word bytes
