-- Rows of an array in the transposed one.
use Rattle.std.proofs.Common.{subst, ◌-◌, ◌≤◌, ◌≡◌, ◌≢◌, ◌<◌, ◌+◌, ◌*◌, ◌++◌, ℕ, zero, suc, List, [], ◌∷◌, length, take, drop, map, get_or, refl, sym, ap, ◌∙◌, arith}
use Rattle.std.specs.List.{range_with_len}
use Rattle.std.proofs.lemmas.List.{ext_get_or, append_assoc, append-nil}
use Rattle.std.proofs.lemmas.List.FromFn.{map-range_with_len_more}
use Rattle.parts_errors.specs.Words.{Elements}
use Rattle.parts_arrays.specs.Arrays.{Array}
use Rattle.parts_arrays.specs.declared.data_type.DataTypeSize.{DataTypeSize}
use Rattle.parts_row_major.specs.Numbering.{count_of, number_of, point_of, IsInside}
use Rattle.array_codecs.specs.AxisOrders.{permuted, number_moved}
use Rattle.array_codecs.specs.AxisOrderLaws.{IsUndone, permuted_at, length-permuted}
use Rattle.parts_row_major.proofs.NumberingLaws.{number_below, length-point_of, point_inside, point_of-number_of, number_of-point_of}

-- the number of a coordinate that is further by some along an axis
pub number_step : (p q s : List ℕ) (j m k : ℕ) → j + 1 ≡ m → length p ≡ length s → length q ≡ length s → j < length s
    → ((i : ℕ) → i < length s → i ≢ j → get_or q i 0 ≡ get_or p i 0) → get_or q j 0 ≡ get_or p j 0 + k
    → number_of q s ≡ number_of p s + k * count_of (drop m s)
number_step p q [] j m k next long as_long lt same more = absurd (omega arith)
number_step [] q (a ∷ s) j m k next long as_long lt same more = absurd (omega arith)
number_step (x ∷ p) [] (a ∷ s) j m k next long as_long lt same more = absurd (omega arith)
number_step (x ∷ p) (y ∷ q) (a ∷ s) zero zero k next long as_long lt same more = absurd (omega arith)
number_step (x ∷ p) (y ∷ q) (a ∷ s) zero (suc m) k next long as_long lt same more =
    let none : m ≡ 0 = omega arith in
    let tails : q ≡ p = ext_get_or 0 q p (omega arith) (λ i below. same (suc i) (omega (arith, as_long)) (λ e. absurd (omega arith))) in
    rw (none, tails, more) (omega arith)
number_step (x ∷ p) (y ∷ q) (a ∷ s) (suc j) zero k next long as_long lt same more = absurd (omega arith)
number_step (x ∷ p) (y ∷ q) (a ∷ s) (suc j) (suc m) k next long as_long lt same more =
    let head : y ≡ x = same 0 (omega arith) (λ e. absurd (omega arith)) in
    let rest : number_of q s ≡ number_of p s + k * count_of (drop m s) =
    number_step p q s j m k (omega arith) (omega arith) (omega arith) (omega arith) (λ i below ne. same (suc i) (omega arith) (λ e. ne (omega arith))) more in
    rw head (omega (arith, rest))

-- a coordinate with another number on its last axis
abbrev with_last : List ℕ → ℕ → ℕ → List ℕ
with_last p l d = take l p ++ d ∷ []

-- it has this number there, and the same ones on the other axes
with_last_at : (p : List ℕ) (l d : ℕ) → length p ≡ l + 1 → get_or (with_last p l d) l 0 ≡ d
with_last_at [] l d long = absurd (omega arith)
with_last_at (x ∷ p) zero d long = refl
with_last_at (x ∷ p) (suc l) d long = with_last_at p l d (omega arith)

with_last_before : (p : List ℕ) (l d i : ℕ) → length p ≡ l + 1 → i < l → get_or (with_last p l d) i 0 ≡ get_or p i 0
with_last_before [] l d i long lt = absurd (omega arith)
with_last_before (x ∷ p) zero d i long lt = absurd (omega arith)
with_last_before (x ∷ p) (suc l) d zero long lt = refl
with_last_before (x ∷ p) (suc l) d (suc i) long lt = with_last_before p l d i (omega arith) (omega arith)

length-with_last : (p : List ℕ) (l d : ℕ) → length p ≡ l + 1 → length (with_last p l d) ≡ l + 1
length-with_last [] l d long = absurd (omega arith)
length-with_last (x ∷ p) zero d long = refl
length-with_last (x ∷ p) (suc l) d long = ap suc (length-with_last p l d (omega arith)) ∙ omega arith

inside_with_last : (p s : List ℕ) (l d : ℕ) → length p ≡ l + 1 → IsInside p s → d < get_or s l 0 → IsInside (with_last p l d) s
inside_with_last [] s l d long inside below = absurd (omega arith)
inside_with_last (x ∷ p) [] l d long inside below = elim inside [ ]
inside_with_last (x ∷ []) (a ∷ s) zero d long inside below = (below, inside.1)
inside_with_last (x ∷ y ∷ p) (a ∷ s) zero d long inside below = absurd (omega arith)
inside_with_last (x ∷ p) (a ∷ s) (suc l) d long inside below = (inside.0, inside_with_last p s l d (omega arith) inside.1 below)

none_behind : (s : List ℕ) (m : ℕ) → length s ≡ m → drop m s ≡ []
none_behind [] zero long = refl
none_behind [] (suc m) long = absurd (omega arith)
none_behind (a ∷ s) zero long = absurd (omega arith)
none_behind (a ∷ s) (suc m) long = none_behind s m (omega arith)

-- an element further on in a row: its number is a number of the shape, and its coordinate another one on the last axis
module _ (s : List ℕ) (l i k : ℕ) (long : length s ≡ l + 1) (below : i < count_of s) (row : get_or (point_of i s) l 0 + k < get_or s l 0) where
  p_long : length (point_of i s) ≡ l + 1
  p_long = length-point_of i s ∙ long

  q_inside : IsInside (with_last (point_of i s) l (get_or (point_of i s) l 0 + k)) s
  q_inside = inside_with_last (point_of i s) s l (get_or (point_of i s) l 0 + k) p_long (point_inside i s below) row

  q_number : number_of (with_last (point_of i s) l (get_or (point_of i s) l 0 + k)) s ≡ i + k
  q_number =
      let d = get_or (point_of i s) l 0 + k in
      let q_long : length (with_last (point_of i s) l d) ≡ l + 1 = length-with_last (point_of i s) l d p_long in
      let stepped = number_step (point_of i s) (with_last (point_of i s) l d) s l (l + 1) k refl (omega (arith, p_long, long)) (omega (arith, q_long, long)) (omega (arith, long))
      (λ a lt ne. with_last_before (point_of i s) l d a p_long (omega (arith, lt, long, ne))) (with_last_at (point_of i s) l d p_long) in
      let one : count_of (drop (l + 1) s) ≡ 1 = ap count_of (none_behind s (l + 1) long) in
      rw one at stepped ∙ ap (λ n. n + k * 1) (number_of-point_of i s below) ∙ omega arith

  pub row_below : i + k < count_of s
  row_below = omega (arith, q_number, number_below (with_last (point_of i s) l (get_or (point_of i s) l 0 + k)) s q_inside)

  pub row_point : point_of (i + k) s ≡ with_last (point_of i s) l (get_or (point_of i s) l 0 + k)
  row_point =
      ap (λ n. point_of n s) (sym q_number) ∙ point_of-number_of (with_last (point_of i s) l (get_or (point_of i s) l 0 + k)) s q_inside

  pub row_last : get_or (point_of (i + k) s) l 0 ≡ get_or (point_of i s) l 0 + k
  row_last = rw row_point (with_last_at (point_of i s) l (get_or (point_of i s) l 0 + k) p_long)

  pub row_before : (a : ℕ) → a < l → get_or (point_of (i + k) s) a 0 ≡ get_or (point_of i s) a 0
  row_before a lt = rw row_point (with_last_before (point_of i s) l (get_or (point_of i s) l 0 + k) a p_long lt)

  -- so its number in the transposed array is further by as many steps of the axis that the last one is there
  module _ (order inverse : List ℕ) (place : ℕ) (undone : IsUndone order inverse) (undoes : IsUndone inverse order) (axes : length s ≡ length order) (stands : place ≡ get_or inverse l 0) where
    last_lt : l < length inverse
    last_lt = omega (arith, undone.alike, axes, long)

    place_lt : place < length order
    place_lt = omega (arith, stands, undoes.within l last_lt, undone.alike)

    last_there : get_or order place 0 ≡ l
    last_there = rw stands (undoes.back l last_lt)

    other_axis : (j : ℕ) → j < length order → j ≢ place → get_or order j 0 < l
    other_axis j lt ne =
        let within = undone.within j lt in
        omega (arith, within, axes, long, λ (same : get_or order j 0 ≡ l). ne (sym (undone.back j lt) ∙ (ap (λ a. get_or inverse a 0) same ∙ sym stands)))

    pub row_moved : number_moved order s (i + k) ≡ number_moved order s i + k * count_of (drop (place + 1) (permuted order s))
    row_moved =
        number_step (permuted order (point_of i s)) (permuted order (point_of (i + k) s)) (permuted order s) place (place + 1) k refl
        (length-permuted order (point_of i s) ∙ sym (length-permuted order s)) (length-permuted order (point_of (i + k) s) ∙ sym (length-permuted order s))
        (omega (arith, place_lt, length-permuted order s))
        (λ j lt ne.
        let there : j < length order = omega (arith, lt, length-permuted order s) in
        rw (permuted_at order (point_of (i + k) s) j there, permuted_at order (point_of i s) j there) (row_before (get_or order j 0) (other_axis j there ne)))
        (rw (permuted_at order (point_of (i + k) s) place place_lt, permuted_at order (point_of i s) place place_lt, last_there) row_last)

-- elements behind others
module _ {X : Type 0} (f g : ℕ → X) where
  pub rows_join : (i n : ℕ) → ((k : ℕ) → k < n → f (i + k) ≡ g k) → map f (range_with_len 0 i) ++ map g (range_with_len 0 n) ≡ map f (range_with_len 0 (i + n))
  rows_join i zero each =
      let same : i + 0 ≡ i = omega arith in
      rw same (append-nil (map f (range_with_len 0 i)))
  rows_join i (suc n) each =
      let before = rows_join i n (λ k lt. each k (omega arith)) in
      let sum : i + suc n ≡ (i + n) + 1 = omega arith in
      let next : suc n ≡ n + 1 = omega arith in
      let first = map f (range_with_len 0 i) in
      ap (λ m. first ++ map g (range_with_len 0 m)) next
      ∙ (ap (λ xs. first ++ xs) (map-range_with_len_more g 0 n n (omega arith))
      ∙ (sym (append_assoc first (map g (range_with_len 0 n)) (g n ∷ []))
      ∙ (ap (λ xs. xs ++ g n ∷ []) before
      ∙ (ap (λ x. map f (range_with_len 0 (i + n)) ++ x ∷ []) (sym (each n (omega arith)))
      ∙ (sym (map-range_with_len_more f 0 (i + n) (i + n) (omega arith)) ∙ ap (λ m. map f (range_with_len 0 m)) (sym sum))))))

  pub rows_alike : (n : ℕ) → ((k : ℕ) → k < n → f k ≡ g k) → map g (range_with_len 0 n) ≡ map f (range_with_len 0 n)
  rows_alike n each =
      let none : 0 + n ≡ n = omega arith in
      rows_join 0 n (λ k lt. let here : 0 + k ≡ k = omega arith in ap f here ∙ each k lt) ∙ ap (λ m. map f (range_with_len 0 m)) none

-- a piece lies in as many as there are
piece_before : (n d size : ℕ) → n * size + size ≤ ((n + 1) + d) * size
piece_before n d size = omega arith

pub piece_within : (n m size : ℕ) → n < m → n * size + size ≤ m * size
piece_within n m size lt =
    let more : (n + 1) + (m - (n + 1)) ≡ m = omega arith in
    subst (λ (x : ℕ). n * size + size ≤ x * size) more (piece_before n (m - (n + 1)) size)

-- the elements of a row from one on stand one step apart in the transposed array
pub row_steps : (order inverse s : List ℕ) (i run step k : ℕ) → IsUndone order inverse → IsUndone inverse order → length s ≡ length order → i < count_of s
    → (s ≡ [] → run ≡ 1) → ((l : ℕ) → length s ≡ l + 1 → get_or (point_of i s) l 0 + run ≡ get_or s l 0)
    → ((l : ℕ) → length inverse ≡ l + 1 → step ≡ count_of (drop (get_or inverse l 0 + 1) (permuted order s))) → k < run
    → (i + k < count_of s) × (number_moved order s (i + k) ≡ number_moved order s i + k * step)
row_steps order inverse [] i run step k undone undoes axes below none rest steps lt =
    let here : k ≡ 0 = omega (arith, none refl) in
    rw here (omega (arith, below), omega arith)
row_steps order inverse (a ∷ s) i run step k undone undoes axes below none rest steps lt =
    let l = length s in
    let long : length (a ∷ s) ≡ l + 1 = omega arith in
    let inside : get_or (point_of i (a ∷ s)) l 0 + k < get_or (a ∷ s) l 0 = omega (arith, rest l long) in
    let stepped : step ≡ count_of (drop (get_or inverse l 0 + 1) (permuted order (a ∷ s))) = steps l (omega (arith, undone.alike, axes)) in
    (row_below (a ∷ s) l i k long below inside, rw stepped (row_moved (a ∷ s) l i k long below inside order inverse (get_or inverse l 0) undone undoes axes refl))

pub array_parts : (a : Array) (kind : DataTypeSize) (elements : Elements) → a.kind ≡ kind → a.elements ≡ elements → a ≡ record { kind = kind; elements = elements }
array_parts a kind elements of them = rw (← of, ← them) refl
