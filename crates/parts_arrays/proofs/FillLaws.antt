-- Arrays whose elements are one element so many times.
use Rattle.std.proofs.Common.{◌≡◌, ℕ, zero, suc, ◌+◌, ◌-◌, ◌*◌, ◌/◌, ◌<◌, ◌≤◌, List, [], ◌∷◌, ◌++◌, length, get_or, take, drop, refl, ap, sym, ◌∙◌, arith, map, replicate, inl, inr}
use Rattle.std.proofs.lemmas.List.FromFn.{length-map-range_with_len, get_or-map-range_with_len}
use Rattle.std.proofs.Math.Nat.{div-eq_of_eq-mul_left}
use Rattle.std.proofs.lemmas.List.{take-take, take_all, drop-drop, length-drop}
use Rattle.std.proofs.lemmas.Bool.{cases_lt}
use Rattle.std.proofs.lemmas.Nat.{mul-le}
use Rattle.std.proofs.lemmas.List.Elements.{All-from_get_or}
use Rattle.std.specs.List.{All, range_with_len, flat_map, concat}
use Rattle.parts_row_major.specs.Pieces.{piece, pieces}
use Rattle.parts_arrays.specs.Arrays.{IsWhole, fixed_array, variable_array, AreOffsets, part, parts}
use Rattle.parts_arrays.specs.declared.data_type.DataTypeSize.TheVariants.{Fixed, Variable}
use Rattle.parts_row_major.proofs.PieceLaws.{map_range_same, piece_is, run_pieces}
use Rattle.parts_arrays.proofs.ArrayLaws.{whole_bytes, piece_within}

pub map_const-range_with_len : {X : Type 0} (x : X) (a n : ℕ) → map (λ (k : ℕ). x) (range_with_len a n) ≡ replicate n x
map_const-range_with_len x a zero = refl
map_const-range_with_len x a (suc n) = ap (λ xs. x ∷ xs) (map_const-range_with_len x (a + 1) n)

-- pieces that are each one element
pub pieces_alike : (n many : ℕ) (xs element : List ℕ) → ((k : ℕ) → k < many → piece n xs k ≡ element) → pieces n many xs ≡ replicate many element
pieces_alike n many xs element h =
    map_range_same (piece n xs) (λ k. element) many [] h ∙ map_const-range_with_len element 0 many

-- the array of elements of one size, by its pieces
pub fixed_array-pieces : (n many : ℕ) (bytes : List ℕ) (elements : List (List ℕ)) → 0 < n → length bytes ≡ many * n → pieces n many bytes ≡ elements → fixed_array n bytes ≡ record { kind = Fixed n; elements = elements }
fixed_array-pieces n many bytes elements pos long are =
    let count : length bytes / n ≡ many = div-eq_of_eq-mul_left pos long in
    let same : pieces n (length bytes / n) bytes ≡ elements = ap (λ m. pieces n m bytes) count ∙ are in
    ap (λ es. record { kind = Fixed n; elements = es }) same

-- offsets at equal distances
module _ (offsets bytes : List ℕ) (size many : ℕ) (are : offsets ≡ map (λ k. k * size) (range_with_len 0 (many + 1))) where
  length_even : length offsets ≡ many + 1
  length_even = ap length are ∙ length-map-range_with_len (λ k. k * size) 0 (many + 1)

  even_at : (i : ℕ) → i < many + 1 → get_or offsets i 0 ≡ i * size
  even_at i lt = ap (λ xs. get_or xs i 0) are ∙ get_or-map-range_with_len (λ k. k * size) 0 (many + 1) i i 0 lt (omega arith)

  pub even_offsets_are : length bytes ≡ many * size → AreOffsets offsets (length bytes)
  even_offsets_are long =
      let last : length offsets - 1 ≡ many = omega (arith, length_even) in
      record {
        some = omega (arith, length_even);
        begins = even_at 0 (omega arith) ∙ (omega arith);
        rises = λ i lt. omega (arith, even_at i (omega (arith, length_even)), even_at (i + 1) (omega (arith, length_even)));
        ends = ap (λ k. get_or offsets k 0) last ∙ (even_at many (omega arith) ∙ sym long);
      }

  -- the parts between them are pieces
  pub parts_even : parts offsets bytes ≡ pieces size many bytes
  parts_even =
      let last : length offsets - 1 ≡ many = omega (arith, length_even) in
      ap (λ n. map (part bytes offsets) (range_with_len 0 n)) last
      ∙ map_range_same (part bytes offsets) (piece size bytes) many [] (λ k lt.
      let width : (k + 1) * size - k * size ≡ size = omega arith in
      rw (even_at k (omega arith), even_at (k + 1) (omega arith), width) refl)

  pub variable_array-pieces : (elements : List (List ℕ)) → pieces size many bytes ≡ elements → variable_array offsets bytes ≡ record { kind = Variable; elements = elements }
  variable_array-pieces elements is = ap (λ es. record { kind = Variable; elements = es }) (parts_even ∙ is)

-- whole elements, of which there are some, are at least one
pub whole_some : (n : ℕ) (bytes : List ℕ) → IsWhole n bytes → 0 < length bytes → n ≤ length bytes
whole_some n bytes h some = elim (cases_lt 0 (length bytes / n)) [
  | inl pos ↦ omega (arith, whole_bytes n bytes h, mul-le 1 n (length bytes / n) n pos (omega arith))
  | inr none ↦
      let zero_times : length bytes / n ≡ 0 = omega arith in
      absurd (omega (arith, rw zero_times at (whole_bytes n bytes h)))
]

-- a piece of the front of a list
pub piece-take : (n m k : ℕ) (xs : List ℕ) → k * n + n ≤ m → piece n (take m xs) k ≡ piece n xs k
piece-take n m k xs fits =
    piece_is n k (take m xs) ∙ (ap (drop (k * n)) (take-take (k * n + n) m xs fits) ∙ sym (piece_is n k xs))

-- pieces of which the first is an element and each is the one before it
pub pieces_from_shift : (n : ℕ) (bytes element : List ℕ) → IsWhole n bytes → take n bytes ≡ element → drop n bytes ≡ take (length (drop n bytes)) bytes
    → (k : ℕ) → k < length bytes / n → piece n bytes k ≡ element
pieces_from_shift n bytes element h first shifted zero lt =
    let none : 0 * n ≡ 0 = omega arith in
    rw none first
pieces_from_shift n bytes element h first shifted (suc k) lt =
    let within = piece_within n bytes (suc k) h lt in
    let later : suc k * n ≡ n + k * n = omega arith in
    ap (λ m. take n (drop m bytes)) later
    ∙ (ap (take n) (sym (drop-drop (k * n) n bytes) ∙ ap (drop (k * n)) shifted)
    ∙ (piece-take n (length (drop n bytes)) k bytes (omega (arith, length-drop n bytes))
    ∙ pieces_from_shift n bytes element h first shifted k (omega arith)))

run_alike : (f : ℕ → List ℕ) (element : List ℕ) (a m : ℕ) → ((k : ℕ) → a ≤ k → k < a + m → f k ≡ element) → flat_map f (range_with_len a m) ≡ concat (replicate m element)
run_alike f element a zero h = refl
run_alike f element a (suc m) h =
    rw (h a (omega arith) (omega arith)) (ap (λ ys. element ++ ys) (run_alike f element (a + 1) m (λ k le lt. h k (omega arith) (omega arith))))

-- pieces that are all one element are each the one before it
pub shift_from_pieces : (n : ℕ) (bytes element : List ℕ) → IsWhole n bytes → 0 < length bytes → ((k : ℕ) → k < length bytes / n → piece n bytes k ≡ element)
    → (take n bytes ≡ element) × (drop n bytes ≡ take (length (drop n bytes)) bytes)
shift_from_pieces n bytes element h some each =
    let whole = whole_bytes n bytes h in
    let room = whole_some n bytes h some in
    let none : 0 * n ≡ 0 = omega arith in
    let one : 1 * n ≡ n = omega arith in
    let m = length bytes / n - 1 in
    let at_least : 0 < length bytes / n = elim (cases_lt 0 (length bytes / n)) [
      | inl pos ↦ pos
      | inr zero_times ↦
          let is : length bytes / n ≡ 0 = omega arith in
          absurd (omega (arith, rw is at whole))
    ] in
    let whole_more : length bytes / n ≡ m + 1 = omega (arith, at_least) in
    let rest : length (drop n bytes) ≡ m * n = omega (arith, length-drop n bytes, whole, ap (λ q. q * n) whole_more) in
    let front = rw none at (run_pieces n 0 m bytes) in
    let back = rw one at (run_pieces n 1 m bytes) in (
      rw none at (each 0 at_least),
      sym (take_all (m * n) (drop n bytes) (omega (arith, rest)))
          ∙ (back ∙ (run_alike (piece n bytes) element 1 m (λ k le lt. each k (omega (arith, whole_more)))
          ∙ (sym (run_alike (piece n bytes) element 0 m (λ k le lt. each k (omega (arith, whole_more))))
          ∙ (sym front ∙ ap (λ q. take q bytes) (sym rest))))),
    )

-- a list of what a function gives at the first numbers is one element so many times exactly where the function gives it there
pub all_from_each : {X : Type 0} (f : ℕ → X) (n : ℕ) (x : X) → ((k : ℕ) → k < n → f k ≡ x) → All (λ y. y ≡ x) (map f (range_with_len 0 n))
all_from_each f n x h = All-from_get_or (λ y. y ≡ x) (map f (range_with_len 0 n)) x (λ k lt.
    let small : k < n = omega (arith, length-map-range_with_len f 0 n) in
    get_or-map-range_with_len f 0 n k k x small (omega arith) ∙ h k small)

pub each_from_all : {X : Type 0} (f : ℕ → X) (n : ℕ) (x : X) → All (λ y. y ≡ x) (map f (range_with_len 0 n)) → (k : ℕ) → k < n → f k ≡ x
each_from_all f n x h k lt =
    sym (get_or-map-range_with_len f 0 n k k x lt (omega arith)) ∙ h k x (omega (arith, length-map-range_with_len f 0 n))
