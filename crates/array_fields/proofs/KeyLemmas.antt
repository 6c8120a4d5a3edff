-- Chunks at different coordinates have different keys.
use Rattle.std.proofs.Common.{◌≡◌, ℕ, zero, suc, ◌<◌, ◌^◌, Bool, true, false, List, [], ◌∷◌, ◌++◌, length, get_or, drop, refl, sym, ap, subst, ◌∙◌, arith}
use Rattle.std.specs.Bool.{⊤}
use Rattle.std.proofs.lemmas.Fmt.{decimal_injective, decimal_is_IsNumeral}
use Rattle.std.proofs.lemmas.Str.Parse.{digit_from_value}
use Rattle.std.specs.Fmt.{decimal}
use Rattle.std.specs.List.{All}
use Rattle.std.specs.Str.Parse.{AllDigits}
use Rattle.parts_errors.specs.Words.{Bytes}
use Rattle.array_fields.specs.ChunkKeys.{behind_separators, separator_of, key_with, chunk_key}
use Rattle.array_fields.specs.declared.keys.ChunkKeys.{ChunkKeys}
use Rattle.array_fields.specs.declared.keys.KeyEncoding.{KeyEncoding}
use Rattle.array_fields.specs.declared.keys.KeyEncoding.TheVariants.{Default, V2}

-- a text is empty, or begins with a byte below the digits
abbrev BeginsBelowDigits : Bytes → Type 0
BeginsBelowDigits [] = ⊤
BeginsBelowDigits (c ∷ cs) = c < 48

head_same : (c d : ℕ) (cs ds : Bytes) → c ∷ cs ≡ d ∷ ds → c ≡ d
head_same c d cs ds same = ap (λ xs. get_or xs 0 0) same

-- digits end where no digit stands
digits_end : (a b x y : Bytes) → AllDigits 10 a → AllDigits 10 b → BeginsBelowDigits x → BeginsBelowDigits y → a ++ x ≡ b ++ y → (a ≡ b) × (x ≡ y)
digits_end [] [] x y one two low other same = (refl, same)
digits_end [] (d ∷ b) [] y one two low other same = absurd (omega (arith, ap length same))
digits_end [] (d ∷ b) (c ∷ x) y one two low other same = absurd (omega (arith, low, digit_from_value d two.0, head_same c d x (b ++ y) same))
digits_end (c ∷ a) [] x [] one two low other same = absurd (omega (arith, ap length same))
digits_end (c ∷ a) [] x (d ∷ y) one two low other same = absurd (omega (arith, other, digit_from_value c one.0, head_same c d (a ++ x) y same))
digits_end (c ∷ a) (d ∷ b) x y one two low other same =
    let rest = digits_end a b x y one.1 two.1 low other (ap (drop 1) same) in
    (rw (head_same c d (a ++ x) (b ++ y) same, rest.0) refl, rest.1)

behind_low : (s : ℕ) (xs : List ℕ) → s < 48 → BeginsBelowDigits (behind_separators (s ∷ []) xs)
behind_low s [] low = tt
behind_low s (x ∷ xs) low = low

-- two numbers, each with others behind separators
number_ends : (s m n : ℕ) (a b : List ℕ) → s < 48 → m < 2 ^ 64 → n < 2 ^ 64
    → decimal m ++ behind_separators (s ∷ []) a ≡ decimal n ++ behind_separators (s ∷ []) b
    → (m ≡ n) × (behind_separators (s ∷ []) a ≡ behind_separators (s ∷ []) b)
number_ends s m n a b low one two same =
    let ended = digits_end (decimal m) (decimal n) (behind_separators (s ∷ []) a) (behind_separators (s ∷ []) b)
    (decimal_is_IsNumeral m one).0.1 (decimal_is_IsNumeral n two).0.1 (behind_low s a low) (behind_low s b low) same in
    (decimal_injective m n one two ended.0, ended.1)

first_small : (x : ℕ) (xs : List ℕ) → All (λ n. n < 2 ^ 64) (x ∷ xs) → x < 2 ^ 64
first_small x xs small = small 0 0 (omega arith)

rest_small : (x : ℕ) (xs : List ℕ) → All (λ n. n < 2 ^ 64) (x ∷ xs) → All (λ n. n < 2 ^ 64) xs
rest_small x xs small k d below = small (suc k) d (omega (arith, below))

behind_same : (s : ℕ) (a b : List ℕ) → s < 48 → All (λ n. n < 2 ^ 64) a → All (λ n. n < 2 ^ 64) b
    → behind_separators (s ∷ []) a ≡ behind_separators (s ∷ []) b → a ≡ b
behind_same s [] [] low one two same = refl
behind_same s [] (n ∷ b) low one two same = absurd (omega (arith, ap length same))
behind_same s (m ∷ a) [] low one two same = absurd (omega (arith, ap length same))
behind_same s (m ∷ a) (n ∷ b) low one two same =
    let ended = number_ends s m n a b low (first_small m a one) (first_small n b two) (ap (drop 1) same) in
    rw (ended.0, behind_same s a b low (rest_small m a one) (rest_small n b two) ended.1) refl

with_same : (encoding : KeyEncoding) (s : ℕ) (a b : List ℕ) → s < 48 → length a ≡ length b → All (λ n. n < 2 ^ 64) a → All (λ n. n < 2 ^ 64) b
    → key_with encoding (s ∷ []) a ≡ key_with encoding (s ∷ []) b → a ≡ b
with_same Default s a b low many one two same = behind_same s a b low one two (ap (drop 1) same)
with_same V2 s [] [] low many one two same = refl
with_same V2 s [] (n ∷ b) low many one two same = absurd (omega (arith, many))
with_same V2 s (m ∷ a) [] low many one two same = absurd (omega (arith, many))
with_same V2 s (m ∷ a) (n ∷ b) low many one two same =
    let ended = number_ends s m n a b low (first_small m a one) (first_small n b two) same in
    rw (ended.0, behind_same s a b low (rest_small m a one) (rest_small n b two) ended.1) refl

keys_by : (encoding : KeyEncoding) (slashes : Bool) (a b : List ℕ) → length a ≡ length b → All (λ n. n < 2 ^ 64) a → All (λ n. n < 2 ^ 64) b
    → key_with encoding (separator_of slashes) a ≡ key_with encoding (separator_of slashes) b → a ≡ b
keys_by encoding true a b many one two same = with_same encoding 47 a b (omega arith) many one two same
keys_by encoding false a b many one two same = with_same encoding 46 a b (omega arith) many one two same

-- chunks of one grid that have one key are at the same coordinates
pub key_once : (keys : ChunkKeys) (a b : List ℕ) → length a ≡ length b → All (λ n. n < 2 ^ 64) a → All (λ n. n < 2 ^ 64) b
    → chunk_key keys a ≡ chunk_key keys b → a ≡ b
unfolding chunk_key
key_once keys a b many one two same = keys_by keys.encoding keys.slashes a b many one two same
