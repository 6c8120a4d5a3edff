-- Steps of texts of elements: how long they are, and how they are read.
use Rattle.std.proofs.Common.{◌≡◌, ◌<◌, ◌≤◌, ◌^◌, ◌+◌, ◌*◌, ◌-◌, ◌++◌, ℕ, zero, suc, Bool, true, false, nat_lt, nat_le, nat_eq, if◌then◌else◌, [], ◌∷◌, Option, Some, None, IsSome, IfSome, length, take, drop, option_map, option_and_then, refl, sym, ap, ◌∙◌, arith, length-append, append_assoc, inl, inr}
use Rattle.std.proofs.lemmas.List.{append-nil, length-drop}
use Rattle.std.proofs.lemmas.List.Concat.{flat_map-cons}
use Rattle.std.proofs.lemmas.List.Sums.{sum_by-cons, get_or-le-sum_by}
use Rattle.std.proofs.lemmas.Bool.{le-ltb, lt-ltb, ltb-false, eqb-false}
use Rattle.std.specs.Int.{w32, from_le_bytes}
use Rattle.std.specs.List.{All, flat_map, sum_by}
use Rattle.parts_errors.specs.Words.{Bytes, Elements}
use Rattle.parts_errors.specs.Order.{RefusedBy}
use Rattle.parts_errors.specs.declared.error.CodecError.TheVariants.{Damaged}
use Rattle.codec_traits.specs.WholeArrays.{WholeRefusals}
use Rattle.codec_vlen.specs.Text.{number_bytes, element_text, vlen_text, first_number, first_bytes, first_element, elements_in}
use Rattle.codec_vlen.specs.VlenLaws.{length-number_bytes, elements_in-more, elements_in-none}

-- the elements behind their lengths
length-element_texts : (elements : Elements) → length (flat_map element_text elements) ≡ 4 * length elements + sum_by length elements
length-element_texts [] = refl
length-element_texts (e ∷ es) =
    let here : length (element_text e) ≡ 4 + length e = length-append (number_bytes (length e)) e ∙ ap (λ n. n + length e) (length-number_bytes (length e)) in
    let whole : length (flat_map element_text (e ∷ es)) ≡ length (element_text e) + length (flat_map element_text es) =
    ap length (flat_map-cons element_text e es) ∙ length-append (element_text e) (flat_map element_text es) in
    omega (arith, here, whole, length-element_texts es, sum_by-cons length e es)

-- four bytes for each number, and the elements
pub vlen_text_len : (elements : Elements) → length (vlen_text elements) ≡ sum_by length elements + (4 + 4 * length elements)
vlen_text_len elements =
    omega (arith, length-append (number_bytes (length elements)) (flat_map element_text elements), length-number_bytes (length elements), length-element_texts elements)

-- where elements are short together, each is
pub each_short : (elements : Elements) → sum_by length elements < 2 ^ 32 → All (λ e. length e < 2 ^ 32) elements
each_short elements short k d lt = omega (arith, get_or-le-sum_by length elements k d lt)

-- an element that is read goes after those that were
pub read_more : (so_far : Elements) (e : Bytes) (later : Option Elements)
    → option_map (λ es. so_far ++ es) (option_map (λ es. e ∷ es) later) ≡ option_map (λ es. (so_far ++ e ∷ []) ++ es) later
read_more so_far e None = refl
read_more so_far e (Some es) = ap Some (sym (append_assoc so_far (e ∷ []) es))

-- the elements of an encoding are those that were read, and those of the rest
abbrev pub IsReadSoFar : ℕ → Bytes → Elements → ℕ → Bytes → Type 0
IsReadSoFar count text so_far more rest = elements_in count text ≡ option_map (λ es. so_far ++ es) (elements_in more rest)

pub read_next : (count : ℕ) (text : Bytes) (so_far : Elements) (i : ℕ) (rest e later : Bytes) → i < count → first_element rest ≡ Some (e, later)
    → IsReadSoFar count text so_far (count - i) rest → IsReadSoFar count text (so_far ++ e ∷ []) (count - (i + 1)) later
read_next count text so_far i rest e later lt first h =
    let left : count - i ≡ suc (count - (i + 1)) = omega arith in
    h
    ∙ (ap (λ n. option_map (λ es. so_far ++ es) (elements_in n rest)) left
    ∙ (ap (option_map (λ es. so_far ++ es)) (elements_in-more (count - (i + 1)) rest e later first) ∙ read_more so_far e (elements_in (count - (i + 1)) later)))

-- where no element is found, there are none
pub read_none : (count : ℕ) (text : Bytes) (so_far : Elements) (i : ℕ) (rest : Bytes) → i < count → first_element rest ≡ None
    → IsReadSoFar count text so_far (count - i) rest → elements_in count text ≡ None
read_none count text so_far i rest lt first h =
    let left : count - i ≡ suc (count - (i + 1)) = omega arith in
    h
    ∙ (ap (λ n. option_map (λ es. so_far ++ es) (elements_in n rest)) left
    ∙ ap (option_map (λ es. so_far ++ es)) (elements_in-none (count - (i + 1)) rest first))

-- at the end nothing is left
none_left : (rest : Bytes) → nat_eq (length rest) 0 ≡ false → elements_in 0 rest ≡ None
unfolding elements_in
none_left [] some = absurd (eqb-false 0 0 some refl)
none_left (x ∷ rest) some = refl

all_read : (rest : Bytes) → length rest ≡ 0 → elements_in 0 rest ≡ Some []
unfolding elements_in
all_read [] none = refl
all_read (x ∷ rest) none = absurd (omega arith)

pub read_past : (count : ℕ) (text : Bytes) (so_far : Elements) (i : ℕ) (rest : Bytes) → i ≡ count → nat_eq (length rest) 0 ≡ false
    → IsReadSoFar count text so_far (count - i) rest → elements_in count text ≡ None
read_past count text so_far i rest end some h =
    let left : count - i ≡ 0 = omega arith in
    h ∙ (ap (λ n. option_map (λ es. so_far ++ es) (elements_in n rest)) left ∙ ap (option_map (λ es. so_far ++ es)) (none_left rest some))

pub read_all : (count : ℕ) (text : Bytes) (so_far : Elements) (i : ℕ) (rest : Bytes) → i ≡ count → length rest ≡ 0
    → IsReadSoFar count text so_far (count - i) rest → elements_in count text ≡ Some so_far
read_all count text so_far i rest end none h =
    let left : count - i ≡ 0 = omega arith in
    h
    ∙ (ap (λ n. option_map (λ es. so_far ++ es) (elements_in n rest)) left
    ∙ (ap (option_map (λ es. so_far ++ es)) (all_read rest none) ∙ ap Some (append-nil so_far)))

-- behind an element and its length are at least four bytes fewer
abbrev IsShorter : Bytes → Option (Bytes × Bytes) → Type 0
IsShorter b found = IfSome found (λ (e, rest). length rest + 4 ≤ length b)

bytes_shorter : (n : ℕ) (rest b : Bytes) (enough : Bool) → length rest + 4 ≤ length b → IsShorter b (if enough then Some (take n rest, drop n rest) else None)
bytes_shorter n rest b true long = omega (arith, length-drop n rest, long)
bytes_shorter n rest b false long = tt

first_shorter : (b : Bytes) → IsShorter b (first_element b)
unfolding first_number
first_shorter b = split (nat_lt (length b) 4) refl
  where
    split : (short : Bool) → nat_lt (length b) 4 ≡ short
        → IsShorter b (option_and_then (λ (found : ℕ × Bytes). first_bytes found.0 found.1) (if short then None else Some (from_le_bytes w32 (take 4 b), drop 4 b)))
    split true is = tt
    split false is =
        let n = from_le_bytes w32 (take 4 b) in
        bytes_shorter n (drop 4 b) b (nat_le n (length (drop 4 b))) (omega (arith, length-drop 4 b, ltb-false (length b) 4 is))

-- each element takes at least four bytes
none_after : (n : ℕ) (text : Bytes) (found : Option (Bytes × Bytes)) → first_element text ≡ found → IsShorter text found → length text < 4 * suc n
    → ((rest : Bytes) → length rest < 4 * n → elements_in n rest ≡ None) → elements_in (suc n) text ≡ None
none_after n text None is shorter short later = elements_in-none n text is
none_after n text (Some found) is shorter short later =
    elements_in-more n text found.0 found.1 is ∙ ap (option_map (λ es. found.0 ∷ es)) (later found.1 (omega (arith, shorter)))

pub too_many : (count : ℕ) (text : Bytes) → length text < 4 * count → elements_in count text ≡ None
too_many zero text short = absurd (omega arith)
too_many (suc n) text short = none_after n text (first_element text) refl (first_shorter text) short (too_many n)

none_some : IsSome {T = Elements} None → ⊥
none_some h = cc

-- an encoding without elements is damaged
pub damaged : (array : Option Elements) → array ≡ None → RefusedBy (WholeRefusals array) Damaged
damaged array none = rw none (inr (inl ((λ some. none_some some), refl)))

-- the first four bytes as a number, and those behind them
pub number_found : (text number rest : Bytes) (n : ℕ) → length rest + 4 ≡ length text → number ≡ take 4 text → rest ≡ drop 4 text → n ≡ from_le_bytes w32 number
    → Some (n, rest) ≡ first_number text
unfolding first_number
number_found text number rest n long front back is =
    let enough : nat_lt (length text) 4 ≡ false = le-ltb _ _ (omega (arith, long)) in
    rw (enough, is, front, back) refl

pub number_missing : (text : Bytes) → length text < 4 → None ≡ first_number text
unfolding first_number
number_missing text short = rw (lt-ltb _ _ short) refl
