-- Neighbouring elements, taken out of an array.
use Rattle.std.proofs.Common.{◌≡◌, ℕ, ◌+◌, ◌/◌, ◌<◌, ◌≤◌, List, [], length, refl, sym, ◌∙◌, arith, map}
use Rattle.std.proofs.lemmas.List.{ext_get_or}
use Rattle.std.proofs.lemmas.List.Elements.{All-from_get_or}
use Rattle.std.proofs.lemmas.List.FromFn.{length-map-range_with_len, get_or-map-range_with_len}
use Rattle.std.specs.List.{All, range_with_len, flat_map, concat}
use Rattle.parts_row_major.specs.Pieces.{piece}
use Rattle.parts_arrays.specs.Arrays.{element_of, part, IsWhole, fixed_array, variable_array}
use Rattle.parts_arrays.specs.declared.data_type.DataTypeSize.TheVariants.{Fixed}
use Rattle.parts_row_major.proofs.PieceLaws.{concat-map}
use Rattle.parts_arrays.proofs.ArrayLaws.{length-piece, piece_within, element_of-fixed_array, element_of-variable_array, whole-concat, fixed_array-concat}

-- neighbouring elements of one size, taken out
pub record RangeTaken (n : ℕ) (bytes part : List ℕ) (first count : ℕ) : Type 0 where
  pub whole : IsWhole n part
  pub same : fixed_array n part ≡ record { kind = Fixed n; elements = map (piece n bytes) (range_with_len first count) }

pub range_taken : (n : ℕ) (bytes part : List ℕ) (first count : ℕ) → IsWhole n bytes → first + count ≤ length bytes / n → part ≡ flat_map (piece n bytes) (range_with_len first count)
    → RangeTaken n bytes part first count
range_taken n bytes part first count h fits is =
    let f : ℕ → List ℕ = piece n bytes in
    let elements : List (List ℕ) = map f (range_with_len first count) in
    let sized : All (λ e. length e ≡ n) elements = All-from_get_or (λ e. length e ≡ n) elements [] (λ k lt.
    let small : k < count = omega (arith, length-map-range_with_len f first count) in
    rw (get_or-map-range_with_len f first count k (first + k) [] small refl) (length-piece n bytes (first + k) (piece_within n bytes (first + k) h (omega arith)))) in
    let joined : part ≡ concat elements = is ∙ sym (concat-map f (range_with_len first count)) in
    rw joined (record { whole = whole-concat n elements h.0 sized; same = fixed_array-concat n elements h.0 sized })

-- neighbouring pieces are the array's elements
pub range_elements : (n : ℕ) (bytes : List ℕ) (first count : ℕ) → IsWhole n bytes → first + count ≤ length bytes / n
    → map (piece n bytes) (range_with_len first count) ≡ map (element_of (fixed_array n bytes)) (range_with_len first count)
range_elements n bytes first count h fits =
    let f : ℕ → List ℕ = piece n bytes in
    let g : ℕ → List ℕ = element_of (fixed_array n bytes) in
    ext_get_or [] (map f (range_with_len first count)) (map g (range_with_len first count)) (length-map-range_with_len f first count ∙ sym (length-map-range_with_len g first count)) (λ k lt.
    let small : k < count = omega (arith, length-map-range_with_len f first count) in
    get_or-map-range_with_len f first count k (first + k) [] small refl
    ∙ (sym (element_of-fixed_array n bytes (first + k) (omega arith)) ∙ sym (get_or-map-range_with_len g first count k (first + k) [] small refl)))

-- neighbouring parts are the array's elements
pub parts_elements : (offsets bytes : List ℕ) (first count : ℕ) → first + count < length offsets
    → map (part bytes offsets) (range_with_len first count) ≡ map (element_of (variable_array offsets bytes)) (range_with_len first count)
parts_elements offsets bytes first count fits =
    let f : ℕ → List ℕ = part bytes offsets in
    let g : ℕ → List ℕ = element_of (variable_array offsets bytes) in
    ext_get_or [] (map f (range_with_len first count)) (map g (range_with_len first count)) (length-map-range_with_len f first count ∙ sym (length-map-range_with_len g first count)) (λ k lt.
    let small : k < count = omega (arith, length-map-range_with_len f first count) in
    get_or-map-range_with_len f first count k (first + k) [] small refl
    ∙ (sym (element_of-variable_array offsets bytes (first + k) (omega arith)) ∙ sym (get_or-map-range_with_len g first count k (first + k) [] small refl)))
