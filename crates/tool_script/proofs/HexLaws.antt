-- Texts of hexadecimal digits in lower case.
use Rattle.std.proofs.Common.{◌≡◌, ℕ, zero, suc, ◌+◌, ◌*◌, ◌/◌, ◌%◌, ◌<◌, not, true, List, [], ◌∷◌, ◌++◌, codes, length, get_or, Ok, unwrap_or, refl, sym, ap, ◌∙◌, arith}
use Rattle.std.specs.Char.{is_ascii_uppercase, IsNotAsciiUppercase}
use Rattle.std.specs.List.{All}
use Rattle.std.proofs.lemmas.Bool.Decides.{nat_tests}
use Rattle.std.proofs.lemmas.List.Elements.{All-nil, All-cons, All-head, All-tail}
use Rattle.std.proofs.lemmas.List.Sums.{AllPass-from_list_all}
use Rattle.hex.specs.Hex.{decode_of, encode_lower, encode_with, hex_digit_value, is_hex_digit, lower_digits, IsBytes}
use Rattle.hex.proofs.HexLemmas.{IsDigits-lower_digits, decode_of-encode_lower, decode_of-ok, decode_of-same}
use Rattle.tool_script.specs.Hex.{IsHexWord}

-- the digits of the table are not in upper case
digits_in_lower_case : (d : ℕ) → d < 16 → IsNotAsciiUppercase (get_or lower_digits d 0)
digits_in_lower_case d below =
    let all = AllPass-from_list_all (λ c. not (is_ascii_uppercase c)) lower_digits refl in
    let at : not (is_ascii_uppercase (get_or lower_digits d 0)) ≡ true = all d 0 below in
    grind (arith, nat_tests)

-- nor is the text of bytes
pub encode_lower-no_upper_case : (bytes : List ℕ) → IsBytes bytes → All IsNotAsciiUppercase (encode_lower bytes)
unfolding encode_with
encode_lower-no_upper_case [] fit = All-nil IsNotAsciiUppercase
encode_lower-no_upper_case (byte ∷ bytes) fit =
    let below : byte < 256 = fit 0 in
    let high = digits_in_lower_case (byte / 16) (omega arith) in
    let low = digits_in_lower_case (byte % 16) (omega arith) in
    let rest = encode_lower-no_upper_case bytes (λ k. fit (suc k)) in
    All-cons IsNotAsciiUppercase (get_or lower_digits (byte / 16) 0) (get_or lower_digits (byte % 16) 0 ∷ encode_lower bytes) high
    (All-cons IsNotAsciiUppercase (get_or lower_digits (byte % 16) 0) (encode_lower bytes) low rest)

-- the value of a digit
abbrev value_of : ℕ → ℕ
value_of digit = unwrap_or (hex_digit_value digit) 0

-- a digit that is not in upper case
record IsLowerDigit (c : ℕ) : Type 0 where
  digit : is_hex_digit c ≡ true
  lower : IsNotAsciiUppercase c

-- it stands in the table at its value
digit_at_value : (c : ℕ) → IsLowerDigit c → (value_of c < 16) × (get_or lower_digits (value_of c) 0 ≡ c)
digit_at_value c h =
    let below : value_of c < 16 = grind (arith, nat_tests) in
    let back = IsDigits-lower_digits (value_of c) below in
    let table = digits_in_lower_case (value_of c) below in
    (below, grind (arith, nat_tests))

-- a byte before bytes
IsBytes-cons : (byte : ℕ) (bytes : List ℕ) → byte < 256 → IsBytes bytes → IsBytes (byte ∷ bytes)
IsBytes-cons byte bytes below fit zero = below
IsBytes-cons byte bytes below fit (suc i) = fit i

-- two digits in lower case before the text of bytes are the text of one byte more
text_of_byte : (a b : ℕ) (rest bytes : List ℕ) → IsLowerDigit a → IsLowerDigit b → rest ≡ encode_lower bytes → a ∷ b ∷ rest ≡ encode_lower ((16 * value_of a + value_of b) ∷ bytes)
unfolding encode_with
text_of_byte a b rest bytes high low text =
    let at_high = digit_at_value a high in
    let at_low = digit_at_value b low in
    let is_high : (16 * value_of a + value_of b) / 16 ≡ value_of a = omega arith in
    let is_low : (16 * value_of a + value_of b) % 16 ≡ value_of b = omega arith in
    rw (is_high, is_low, at_high.1, at_low.1, text) refl

-- pairs of digits in lower case are the text of bytes
text_of_bytes : (s : List ℕ) → length s % 2 ≡ 0 → All IsLowerDigit s → (bytes : List ℕ) × IsBytes bytes × (s ≡ encode_lower bytes)
unfolding encode_with
text_of_bytes [] even digits = ([], λ k. omega arith, refl)
text_of_bytes (a ∷ []) even digits = absurd (omega arith)
text_of_bytes (a ∷ b ∷ rest) even digits =
    let appended = All-tail IsLowerDigit a (b ∷ rest) digits in
    let high = All-head IsLowerDigit a (b ∷ rest) digits in
    let low = All-head IsLowerDigit b rest appended in
    let more = text_of_bytes rest (omega arith) (All-tail IsLowerDigit b rest appended) in
    let below : 16 * value_of a + value_of b < 256 = omega (arith, digit_at_value a high, digit_at_value b low) in
    ((16 * value_of a + value_of b) ∷ more.0, IsBytes-cons _ more.0 below more.1, text_of_byte a b rest more.0 high low more.2)

-- a text that is not in upper case is the text of the bytes that it reads as
pub encode_lower-decode_of : (s bytes : List ℕ) → decode_of s ≡ Ok bytes → All IsNotAsciiUppercase s → s ≡ encode_lower bytes
encode_lower-decode_of s bytes read lower =
    let ok = decode_of-ok s bytes read in
    let text = text_of_bytes s ok.0 (λ k d below. record { digit = ok.1 k d below; lower = lower k d below }) in
    let same : text.0 ≡ bytes = decode_of-same s text.0 bytes (ap decode_of text.2 ∙ decode_of-encode_lower text.0 text.1) read in
    text.2 ∙ ap encode_lower same

-- behind the mark of a word that writes bytes stands their text
pub text_of_word : (word digits : List ℕ) → word ≡ codes "x" ++ digits → (h : IsHexWord word) → digits ≡ encode_lower h.bytes
text_of_word word digits is h = let whole : codes "x" ++ digits ≡ codes "x" ++ encode_lower h.bytes = sym is ∙ h.is in cc
