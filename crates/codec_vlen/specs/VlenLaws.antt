-- The codec for elements that have lengths of their own keeps the laws.
use Rattle.std.proofs.Common.{◌≡◌, ◌<◌, ◌^◌, ◌++◌, ℕ, zero, suc, Bool, true, false, nat_lt, nat_le, [], ◌∷◌, Option, Some, None, IfSome, length, take, drop, map, get_or, nat_eq, if◌then◌else◌, option_map, option_and_then, refl, sym, ap, ◌∙◌, arith, length-append, append_assoc, eq-eqb}
use Rattle.std.proofs.Math.Seq.{take-append_seam, drop-append_seam}
use Rattle.std.proofs.lemmas.Nat.{from_le_bytes-to_le_bytes_4}
use Rattle.std.proofs.lemmas.List.Elements.{All-head, All-tail}
use Rattle.std.proofs.lemmas.List.Concat.{flat_map-cons}
use Rattle.std.proofs.lemmas.Bool.{le-ltb, le-leb, eqb-true}
use Rattle.std.specs.Int.{w32, from_le_bytes}
use Rattle.std.specs.List.{All, flat_map}
use Rattle.parts_errors.specs.Words.{Bytes, Elements}
use Rattle.parts_errors.specs.declared.error.CodecError.{CodecError}
use Rattle.parts_errors.specs.declared.error.CodecError.TheVariants.{UnsupportedDataType, TooLarge, WrongElementKind, InvalidNumberOfElements, CannotEncode}
use Rattle.parts_row_major.specs.Numbering.{count_of}
use Rattle.parts_arrays.specs.ArraySpec.{ArraySpec, IsArrayOf}
use Rattle.parts_arrays.specs.Types.{size_of, FitsKind}
use Rattle.parts_arrays.specs.Arrays.{Array}
use Rattle.parts_arrays.specs.declared.data_type.DataTypeSize.{DataTypeSize}
use Rattle.parts_arrays.specs.declared.data_type.DataTypeSize.TheVariants.{Variable}
use Rattle.codec_traits.specs.Laws.{IsLawful}
use Rattle.codec_traits.specs.Refusals.{IsNoFault}
use Rattle.codec_traits.specs.RefusalLaws.{test_faultless}
use Rattle.codec_traits.specs.WholeArrays.{whole_cells}
use Rattle.codec_traits.proofs.WholeArrayLaws.{length-whole_cells, whole_cells-each}
use Rattle.codec_vlen.specs.Text.{number_bytes, element_text, vlen_text, HasText, first_number, first_bytes, first_element, elements_in, vlen_elements}
use Rattle.codec_vlen.specs.VlenCodec.{VlenServes, IsTextOf, vlen_cells, VlenCheckRefusals, VlenEncodeRefusals, vlen_meaning}

-- a number of four bytes, with bytes after it, is read
pub length-number_bytes : (n : ℕ) → length (number_bytes n) ≡ 4
unfolding number_bytes
length-number_bytes n = refl

number_of-number_bytes : (n : ℕ) → n < 2 ^ 32 → from_le_bytes w32 (number_bytes n) ≡ n
unfolding number_bytes
number_of-number_bytes n fits = from_le_bytes-to_le_bytes_4 n fits

pub first_number-written : (n : ℕ) (rest : Bytes) → n < 2 ^ 32 → first_number (number_bytes n ++ rest) ≡ Some (n, rest)
unfolding first_number
first_number-written n rest fits =
    let number = number_bytes n in
    let long : length number ≡ 4 = length-number_bytes n in
    let enough : nat_lt (length (number ++ rest)) 4 ≡ false = le-ltb _ _ (omega (arith, length-append number rest, long)) in
    let front : take 4 (number ++ rest) ≡ number = ap (λ k. take k (number ++ rest)) (sym long) ∙ take-append_seam number rest in
    let back : drop 4 (number ++ rest) ≡ rest = ap (λ k. drop k (number ++ rest)) (sym long) ∙ drop-append_seam number rest in
    rw (enough, front, back, number_of-number_bytes n fits) refl

-- bytes, with others behind them, are read
pub first_bytes-written : (e rest : Bytes) → first_bytes (length e) (e ++ rest) ≡ Some (e, rest)
first_bytes-written e rest =
    let enough : nat_le (length e) (length (e ++ rest)) ≡ true = le-leb _ _ (omega (arith, length-append e rest)) in
    rw (enough, take-append_seam e rest, drop-append_seam e rest) refl

-- an element behind its length is read
pub first_element-written : (e rest : Bytes) → length e < 2 ^ 32 → first_element (element_text e ++ rest) ≡ Some (e, rest)
first_element-written e rest fits =
    let number = number_bytes (length e) in
    let read : first_number ((number ++ e) ++ rest) ≡ Some (length e, e ++ rest) =
    ap first_number (append_assoc number e rest) ∙ first_number-written (length e) (e ++ rest) fits in
    ap (option_and_then (λ (found : ℕ × Bytes). first_bytes found.0 found.1)) read ∙ first_bytes-written e rest

-- one element after the other
pub elements_in-more : (n : ℕ) (b e rest : Bytes) → first_element b ≡ Some (e, rest)
    → elements_in (suc n) b ≡ option_map (λ es. e ∷ es) (elements_in n rest)
unfolding elements_in
elements_in-more n b e rest first =
    ap (option_and_then (λ (found : Bytes × Bytes). option_map (λ es. found.0 ∷ es) (elements_in n found.1))) first

pub elements_in-none : (n : ℕ) (b : Bytes) → first_element b ≡ None → elements_in (suc n) b ≡ None
unfolding elements_in
elements_in-none n b first =
    ap (option_and_then (λ (found : Bytes × Bytes). option_map (λ es. found.0 ∷ es) (elements_in n found.1))) first

pub elements_in-end : elements_in 0 [] ≡ Some []
unfolding elements_in
elements_in-end = refl

pub elements_in-written : (elements : Elements) → All (λ e. length e < 2 ^ 32) elements
    → elements_in (length elements) (flat_map element_text elements) ≡ Some elements
elements_in-written [] fits = elements_in-end
elements_in-written (e ∷ es) fits =
    let short : length e < 2 ^ 32 = All-head (λ x. length x < 2 ^ 32) e es fits in
    let later = elements_in-written es (All-tail (λ x. length x < 2 ^ 32) e es fits) in
    let first : first_element (flat_map element_text (e ∷ es)) ≡ Some (e, flat_map element_text es) =
    ap first_element (flat_map-cons element_text e es) ∙ first_element-written e (flat_map element_text es) short in
    elements_in-more (length es) (flat_map element_text (e ∷ es)) e (flat_map element_text es) first ∙ ap (option_map (λ xs. e ∷ xs)) later

-- the elements of their text are read
pub vlen_elements-written : (elements : Elements) → HasText elements → vlen_elements (length elements) (vlen_text elements) ≡ Some elements
unfolding vlen_elements
vlen_elements-written elements has =
    let n = length elements in
    let text = flat_map element_text elements in
    let same : nat_eq n n ≡ true = eq-eqb n n refl in
    ap (option_and_then (λ (found : ℕ × Bytes). if nat_eq found.0 n then elements_in found.0 found.1 else None))
    (first_number-written n text has.count)
    ∙ rw same (elements_in-written elements has.lengths)

-- as many are read as are asked
option_counted : (n : ℕ) (e : Bytes) (read : Option Elements) → IfSome read (λ es. length es ≡ n)
    → IfSome (option_map (λ es. e ∷ es) read) (λ es. length es ≡ suc n)
option_counted n e None h = tt
option_counted n e (Some es) h = ap suc h

none_counted : (b : Bytes) → IfSome (elements_in 0 b) (λ es. length es ≡ 0)
unfolding elements_in
none_counted [] = refl
none_counted (x ∷ xs) = tt

counted_more : (n : ℕ) (b : Bytes) (first : Option (Bytes × Bytes)) → first_element b ≡ first
    → ((rest : Bytes) → IfSome (elements_in n rest) (λ es. length es ≡ n)) → IfSome (elements_in (suc n) b) (λ es. length es ≡ suc n)
counted_more n b None is later = rw (elements_in-none n b is) tt
counted_more n b (Some found) is later =
    rw (elements_in-more n b found.0 found.1 is) (option_counted n found.0 (elements_in n found.1) (later found.1))

pub elements_counted : (n : ℕ) (b : Bytes) → IfSome (elements_in n b) (λ es. length es ≡ n)
elements_counted zero b = none_counted b
elements_counted (suc n) b = counted_more n b (first_element b) refl (elements_counted n)

pub vlen_counted : (n : ℕ) (b : Bytes) → IfSome (vlen_elements n b) (λ es. length es ≡ n)
unfolding vlen_elements
vlen_counted n b = split (first_number b)
  where
    told_counted : (told : ℕ) (rest : Bytes) → (test : Bool) → (test ≡ true → told ≡ n)
        → IfSome (if test then elements_in told rest else None) (λ es. length es ≡ n)
    told_counted told rest true same = rw (← same refl) (elements_counted told rest)
    told_counted told rest false same = tt

    split : (first : Option (ℕ × Bytes))
        → IfSome (option_and_then (λ (found : ℕ × Bytes). if nat_eq found.0 n then elements_in found.0 found.1 else None) first)
        (λ es. length es ≡ n)
    split None = tt
    split (Some found) = told_counted found.0 found.1 (nat_eq found.0 n) (eqb-true found.0 n)

-- each list of bytes is an element
pub each_fits : (kind : DataTypeSize) (array : Option Elements) → kind ≡ Variable → IfSome array (All (FitsKind kind))
each_fits kind None variable = tt
each_fits kind (Some es) variable = rw variable (λ k d lt. tt)

pub vlen_written_cells : (g : ArraySpec) (elements : Elements) (b : Bytes) → IsArrayOf g elements → IsTextOf elements b
    → vlen_cells g b ≡ map Some elements
unfolding vlen_cells
vlen_written_cells g elements b h written =
    let count = count_of g.shape in
    let read : vlen_elements count b ≡ Some elements =
    ap (vlen_elements count) written.text
    ∙ (ap (λ n. vlen_elements n (vlen_text elements)) (sym h.counted) ∙ vlen_elements-written elements written.has_text) in
    ap (whole_cells count) read

vlen_cells_counted : (g : ArraySpec) (b : Bytes) → length (vlen_cells g b) ≡ count_of g.shape
unfolding vlen_cells
vlen_cells_counted g b = length-whole_cells (count_of g.shape) (vlen_elements (count_of g.shape) b) (vlen_counted (count_of g.shape) b)

vlen_cells_fitting : (g : ArraySpec) (b : Bytes) (i : ℕ) → VlenServes g → i < count_of g.shape
    → IfSome (get_or (vlen_cells g b) i None) (FitsKind (size_of g.data_type))
unfolding vlen_cells
vlen_cells_fitting g b i s below =
    let count = count_of g.shape in
    whole_cells-each (FitsKind (size_of g.data_type)) count i (vlen_elements count b) below (vlen_counted count b)
    (each_fits (size_of g.data_type) (vlen_elements count b) s.variable)

-- `check` refuses nothing as a fault
pub vlen_check_faultless : (g : ArraySpec) (e : CodecError) → VlenCheckRefusals g e → IsNoFault e
vlen_check_faultless g e = test_faultless _ UnsupportedDataType _ tt (test_faultless _ TooLarge _ tt (λ x h. absurd h)) e

-- nor does `encode`
pub vlen_encode_faultless : (g : ArraySpec) (array : Array) (e : CodecError) → VlenEncodeRefusals g array e → IsNoFault e
vlen_encode_faultless g array e =
    test_faultless _ WrongElementKind _ tt (test_faultless _ InvalidNumberOfElements _ tt
    (test_faultless _ CannotEncode _ tt (test_faultless _ TooLarge _ tt (λ x h. absurd h)))) e

-- what the codec means keeps the laws
pub vlen_lawful : (g : ArraySpec) → IsLawful g (vlen_meaning g)
vlen_lawful g = record {
  check_faultless = λ e h. vlen_check_faultless g e h;
  encode_faultless = λ array e h. vlen_encode_faultless g array e h;
  compact_faultless = λ b e h. absurd h;
  cells_counted = λ b s. vlen_cells_counted g b;
  cells_fitting = λ b i s below. vlen_cells_fitting g b i s below;
  written_cells = λ a b s h e. vlen_written_cells g a b h e;
  compacted_cells = λ old new s rewritten. absurd rewritten;
  bounded = λ a b s h e. tt;
}
