-- The Morton code of a coordinate: codes come in the order of the Z-curve, and one more bit along an axis adds a power of two.
use Rattle.std.proofs.Common.{◌≡◌, ◌⊎◌, inl, inr, ℕ, zero, suc, ◌+◌, ◌-◌, ◌*◌, ◌/◌, ◌%◌, ◌^◌, ◌<◌, ◌≤◌, true, false, List, [], ◌∷◌, ◌++◌, length, map, get_or, set, refl, sym, ap, ◌∙◌, subst, arith, is_lt}
use Rattle.std.specs.Int.{bit_at}
use Rattle.std.specs.List.{AllByRecursion}
use Rattle.std.specs.Ordering.{nat_cmp}
use Rattle.std.specs.Cmp.Lexicographic.{slice_cmp}
use Rattle.std.proofs.Math.Nat.{pow-suc, pow-le-pow_right, mul-add-div_right, add-mul-mod_self_right, div-eq_of_lt}
use Rattle.std.proofs.lemmas.Nat.{pow_pos, pow-add, mod_below, mul-add-lt, shr_high}
use Rattle.std.proofs.lemmas.List.{length-map, length-set, get_or-map, map-set, length-append}
use Rattle.std.proofs.Math.Seq.{map-set_same}
use Rattle.std.proofs.lemmas.Bool.{cases_lt}
use Rattle.sharding_format.specs.WriteOrder.{interleaved_bits, is_before}
use Rattle.sharding_layout.specs.steps.Reached.{binary, morton_code, IsReached}

-- ---- bits as a number
abbrev AreBits : List ℕ → Type 0
AreBits xs = AllByRecursion (λ x. x < 2) xs

binary_below : (xs : List ℕ) → AreBits xs → binary xs < 2 ^ length xs
binary_below [] h = pow_pos 0
binary_below (x ∷ xs) h =
    omega (arith, mul-add-lt x (2 ^ length xs) (binary xs) 2 h.0 (binary_below xs h.1), pow-suc 2 (length xs))

bits_append : (xs ys : List ℕ) → AreBits xs → AreBits ys → AreBits (xs ++ ys)
bits_append [] ys hx hy = hy
bits_append (x ∷ xs) ys hx hy = (hx.0, bits_append xs ys hx.1 hy)

binary_append : (xs ys : List ℕ) → binary (xs ++ ys) ≡ binary xs * 2 ^ length ys + binary ys
binary_append [] ys = omega arith
binary_append (x ∷ xs) ys =
    let wide : 2 ^ length (xs ++ ys) ≡ 2 ^ length xs * 2 ^ length ys = ap (λ n. 2 ^ n) (length-append xs ys) ∙ pow-add 2 (length xs) (length ys) in
    let head : x * 2 ^ length (xs ++ ys) ≡ x * (2 ^ length xs * 2 ^ length ys) = ap (λ n. x * n) wide in
    omega (arith, head, binary_append xs ys)

-- lists of bits of one length compare as their numbers
lex_tells : (xs ys : List ℕ) → length xs ≡ length ys → AreBits xs → AreBits ys
    → ((is_lt (slice_cmp nat_cmp xs ys) ≡ true) × (binary xs < binary ys)) ⊎ ((is_lt (slice_cmp nat_cmp xs ys) ≡ false) × (binary ys ≤ binary xs))
lex_tells [] [] e hx hy = inr (refl, omega arith)
lex_tells [] (y ∷ ys) e hx hy = absurd (omega arith)
lex_tells (x ∷ xs) [] e hx hy = absurd (omega arith)
lex_tells (zero ∷ xs) (zero ∷ ys) e hx hy =
    elim (lex_tells xs ys (omega arith) hx.1 hy.1) [ inl less ↦ inl (less.0, omega (arith, less.1)) | inr more ↦ inr (more.0, omega (arith, more.1)) ]
lex_tells (zero ∷ xs) (suc zero ∷ ys) e hx hy =
    let same : length xs ≡ length ys = omega arith in
    inl (refl, omega (arith, binary_below xs hx.1, ap (λ n. 2 ^ n) same))
lex_tells (suc zero ∷ xs) (zero ∷ ys) e hx hy =
    let same : length xs ≡ length ys = omega arith in
    inr (refl, omega (arith, binary_below ys hy.1, ap (λ n. 2 ^ n) same))
lex_tells (suc zero ∷ xs) (suc zero ∷ ys) e hx hy =
    let same : length xs ≡ length ys = omega arith in
    let width = ap (λ n. 2 ^ n) same in
    elim (lex_tells xs ys same hx.1 hy.1) [ inl less ↦ inl (less.0, omega (arith, less.1, width)) | inr more ↦ inr (more.0, omega (arith, more.1, width)) ]
lex_tells (suc (suc x) ∷ xs) (y ∷ ys) e hx hy = absurd (omega (arith, hx.0))
lex_tells (zero ∷ xs) (suc (suc y) ∷ ys) e hx hy = absurd (omega (arith, hy.0))
lex_tells (suc zero ∷ xs) (suc (suc y) ∷ ys) e hx hy = absurd (omega (arith, hy.0))

plane_bits : (n : ℕ) (point : List ℕ) → AreBits (map (λ x. bit_at x n) point)
plane_bits n [] = tt
plane_bits n (x ∷ xs) = (mod_below (x / 2 ^ n) 2 (omega arith), plane_bits n xs)

interleaved : (n : ℕ) (point : List ℕ) → AreBits (interleaved_bits n point)
interleaved zero point = tt
interleaved (suc n) point = bits_append (map (λ x. bit_at x n) point) (interleaved_bits n point) (plane_bits n point) (interleaved n point)

pub length-interleaved : (n : ℕ) (point : List ℕ) → length (interleaved_bits n point) ≡ n * length point
length-interleaved zero point = omega arith
length-interleaved (suc n) point =
    omega (
      arith,
      length-append (map (λ x. bit_at x n) point) (interleaved_bits n point),
      length-map point (λ x. bit_at x n),
      length-interleaved n point,
    )

times_turned : (a b : ℕ) → a * b ≡ b * a
times_turned a b = omega arith

-- what the Z-curve says of two coordinates, their codes say
pub before_tells : (p q : List ℕ) → length p ≡ length q
    → ((is_before p q ≡ true) × (morton_code p < morton_code q)) ⊎ ((is_before p q ≡ false) × (morton_code q ≤ morton_code p))
unfolding is_before morton_code
before_tells p q e =
    lex_tells (interleaved_bits 64 p) (interleaved_bits 64 q) (length-interleaved 64 p ∙ ap (λ n. 64 * n) e ∙ sym (length-interleaved 64 q))
    (interleaved 64 p) (interleaved 64 q)

-- ---- one bit more along one axis
-- a number below a power of two has no bit from it on
no_bit : (x n : ℕ) → x < 2 ^ n → bit_at x n ≡ 0
no_bit x n h = ap (λ m. m % 2) (div-eq_of_lt h)

new_bit : (x b : ℕ) → x < 2 ^ b → bit_at (x + 2 ^ b) b ≡ 1
new_bit x b h =
    let turned : x + 2 ^ b ≡ 1 * 2 ^ b + x = omega arith in
    ap (λ m. m / 2 ^ b % 2) turned ∙ ap (λ m. m % 2) (shr_high 1 b x h)

lower_bit : (x b n : ℕ) → n < b → bit_at (x + 2 ^ b) n ≡ bit_at x n
lower_bit x b n h =
    let more = b - n - 1 in
    let split : b ≡ suc more + n = omega arith in
    let wide : 2 ^ b ≡ (2 ^ more * 2) * 2 ^ n = ap (λ m. 2 ^ m) split ∙ pow-add 2 (suc more) n ∙ ap (λ m. m * 2 ^ n) (pow-suc 2 more) in
    let turned : x + 2 ^ b ≡ (2 ^ more * 2) * 2 ^ n + x = omega (arith, wide) in
    let divided : (x + 2 ^ b) / 2 ^ n ≡ 2 ^ more * 2 + x / 2 ^ n = ap (λ m. m / 2 ^ n) turned ∙ mul-add-div_right (pow_pos n) (2 ^ more * 2) x in
    let again : 2 ^ more * 2 + x / 2 ^ n ≡ x / 2 ^ n + 2 ^ more * 2 = omega arith in
    ap (λ m. m % 2) (divided ∙ again) ∙ add-mul-mod_self_right (x / 2 ^ n) (2 ^ more) 2

higher_bit : (x b n : ℕ) → x < 2 ^ b → b < n → bit_at (x + 2 ^ b) n ≡ bit_at x n
higher_bit x b n h above =
    let wide : 2 ^ suc b ≤ 2 ^ n = pow-le-pow_right (omega arith) (omega arith) in
    no_bit (x + 2 ^ b) n (omega (arith, wide, pow-suc 2 b)) ∙ sym (no_bit x n (omega (arith, wide, pow-suc 2 b)))

-- a bit that is set in a list of bits
binary_set : (xs : List ℕ) (a e : ℕ) → a + 1 + e ≡ length xs → get_or xs a 0 ≡ 0 → binary (set xs a 1) ≡ binary xs + 2 ^ e
binary_set [] a e long h = absurd (omega arith)
binary_set (x ∷ xs) zero e long h =
    let same : e ≡ length xs = omega arith in
    rw h (omega (arith, ap (λ n. 2 ^ n) same))
binary_set (x ∷ xs) (suc a) e long h =
    omega (arith, binary_set xs a e (omega arith) h, ap (λ n. x * 2 ^ n) (length-set xs a 1))

module _ (point : List ℕ) (a b e : ℕ) (long : a + 1 + e ≡ length point) (small : get_or point a 0 < 2 ^ b) where
  abbrev further : List ℕ
  further = set point a (get_or point a 0 + 2 ^ b)

  inside : a < length point
  inside = omega (arith, long)

  plane_same : (n : ℕ) → bit_at (get_or point a 0 + 2 ^ b) n ≡ bit_at (get_or point a 0) n → map (λ x. bit_at x n) further ≡ map (λ x. bit_at x n) point
  plane_same n same = map-set_same (λ x. bit_at x n) point a (get_or point a 0 + 2 ^ b) 0 same

  below_same : (n : ℕ) → n ≤ b → interleaved_bits n further ≡ interleaved_bits n point
  below_same zero upto = refl
  below_same (suc n) upto =
      ap (λ xs. xs ++ interleaved_bits n further) (plane_same n (lower_bit (get_or point a 0) b n (omega arith)))
      ∙ ap (λ ys. map (λ x. bit_at x n) point ++ ys) (below_same n (omega arith))

  plane_more : binary (map (λ x. bit_at x b) further) ≡ binary (map (λ x. bit_at x b) point) + 2 ^ e
  plane_more =
      let bits = map (λ x. bit_at x b) point in
      ap binary (map-set (λ x. bit_at x b) point a (get_or point a 0 + 2 ^ b) ∙ ap (λ v. set bits a v) (new_bit (get_or point a 0) b small))
      ∙ binary_set bits a e (long ∙ sym (length-map point (λ x. bit_at x b)))
      (get_or-map (λ x. bit_at x b) point a 0 0 inside ∙ no_bit (get_or point a 0) b small)

  more_from : (n : ℕ) → b < n → binary (interleaved_bits n further) ≡ binary (interleaved_bits n point) + 2 ^ e * 2 ^ (b * length point)
  more_from zero above = absurd (omega arith)
  more_from (suc n) above =
      let old = interleaved_bits n point in
      let new = interleaved_bits n further in
      let parts_old = binary_append (map (λ x. bit_at x n) point) old in
      let parts_new = binary_append (map (λ x. bit_at x n) further) new in
      let widths : 2 ^ length new ≡ 2 ^ length old =
      ap (λ m. 2 ^ m) (length-interleaved n further ∙ ap (λ m. n * m) (length-set point a (get_or point a 0 + 2 ^ b)) ∙ sym (length-interleaved n point)) in
      elim (cases_lt b n) [
        | inl later ↦
            let plane = plane_same n (higher_bit (get_or point a 0) b n small later) in
            let front : binary (map (λ x. bit_at x n) further) * 2 ^ length new ≡ binary (map (λ x. bit_at x n) point) * 2 ^ length old =
            ap (λ xs. binary xs * 2 ^ length new) plane ∙ ap (λ w. binary (map (λ x. bit_at x n) point) * w) widths in
            omega (arith, parts_old, parts_new, front, more_from n later)
        | inr now ↦
            let here : n ≡ b = omega arith in
            let rest : binary new ≡ binary old = ap binary (below_same n (omega arith)) in
            let plane : binary (map (λ x. bit_at x n) further) ≡ binary (map (λ x. bit_at x n) point) + 2 ^ e =
            subst (λ m. binary (map (λ x. bit_at x m) further) ≡ binary (map (λ x. bit_at x m) point) + 2 ^ e) (sym here) plane_more in
            let width : 2 ^ length old ≡ 2 ^ (b * length point) = ap (λ m. 2 ^ m) (length-interleaved n point ∙ ap (λ m. m * length point) here) in
            let front : binary (map (λ x. bit_at x n) further) * 2 ^ length new ≡ (binary (map (λ x. bit_at x n) point) + 2 ^ e) * 2 ^ length old =
            ap (λ m. m * 2 ^ length new) plane ∙ ap (λ w. (binary (map (λ x. bit_at x n) point) + 2 ^ e) * w) widths in
            let product : 2 ^ e * 2 ^ length old ≡ 2 ^ e * 2 ^ (b * length point) = ap (λ w. 2 ^ e * w) width in
            omega (arith, parts_old, parts_new, front, rest, product)
      ]

  -- the code of the coordinate that lies this bit further
  pub code_further : b < 64 → morton_code further ≡ morton_code point + 2 ^ e * 2 ^ (b * length point)
  unfolding morton_code
  code_further h = more_from 64 h

-- ---- codes of coordinates with few bits
zeros_in_front : (xs : List ℕ) (a e : ℕ) → a + e ≡ length xs → AreBits xs → ((y : ℕ) → y < a → get_or xs y 0 ≡ 0) → binary xs < 2 ^ e
zeros_in_front xs zero e long bits h =
    let same : e ≡ length xs = omega arith in
    omega (arith, binary_below xs bits, ap (λ n. 2 ^ n) same)
zeros_in_front [] (suc a) e long bits h = absurd (omega arith)
zeros_in_front (x ∷ xs) (suc a) e long bits h =
    let first : x ≡ 0 = h 0 (omega arith) in
    rw first (omega (arith, zeros_in_front xs a e (omega arith) bits.1 (λ y lt. h (suc y) (omega arith))))

no_bits : (n : ℕ) (point : List ℕ) → ((y : ℕ) → get_or point y 0 < 2 ^ n) → binary (map (λ x. bit_at x n) point) ≡ 0
no_bits n [] h = refl
no_bits n (x ∷ xs) h = rw (no_bit x n (h 0)) (omega (arith, no_bits n xs (λ y. h (suc y))))

few_bits : (n m : ℕ) (point : List ℕ) → m ≤ n → ((y : ℕ) → get_or point y 0 < 2 ^ m) → binary (interleaved_bits n point) ≡ binary (interleaved_bits m point)
few_bits zero m point upto h = let same : zero ≡ m = omega arith in ap (λ k. binary (interleaved_bits k point)) same
few_bits (suc n) m point upto h =
    elim (cases_lt m (suc n)) [
      | inl less ↦
          let wide : 2 ^ m ≤ 2 ^ n = pow-le-pow_right (omega arith) (omega arith) in
          let plane = no_bits n point (λ y. omega (arith, wide, h y)) in
          let product = ap (λ k. k * 2 ^ length (interleaved_bits n point)) plane in
          omega (arith, binary_append (map (λ x. bit_at x n) point) (interleaved_bits n point), product, few_bits n m point (omega arith) h)
      | inr last ↦ let same : suc n ≡ m = omega arith in ap (λ k. binary (interleaved_bits k point)) same
    ]

get_bits : (n : ℕ) (point : List ℕ) (y : ℕ) → get_or (map (λ x. bit_at x n) point) y 0 ≡ bit_at (get_or point y 0) n
get_bits n [] y = sym (no_bit 0 n (pow_pos n))
get_bits n (x ∷ xs) zero = refl
get_bits n (x ∷ xs) (suc y) = get_bits n xs y

pub code_below : (point : List ℕ) (a b e : ℕ) → b < 64 → a + e ≡ length point → IsReached b a point → morton_code point < 2 ^ e * 2 ^ (b * length point)
unfolding morton_code
code_below point a b e h long reached =
    let plane = map (λ x. bit_at x b) point in
    let rest = interleaved_bits b point in
    let next : b + 1 ≡ suc b = omega arith in
    let few : binary (interleaved_bits 64 point) ≡ binary (plane ++ rest) = few_bits 64 (suc b) point (omega arith) (λ y. subst (λ m. get_or point y 0 < 2 ^ m) next (reached.every y)) in
    let front : binary plane < 2 ^ e = zeros_in_front plane a e (long ∙ sym (length-map point (λ x. bit_at x b))) (plane_bits b point)
    (λ y lt. get_bits b point y ∙ no_bit (get_or point y 0) b (reached.front y lt)) in
    let position = mul-add-lt (binary plane) (2 ^ length rest) (binary rest) (2 ^ e) front (binary_below rest (interleaved b point)) in
    let width : 2 ^ length rest * 2 ^ e ≡ 2 ^ e * 2 ^ (b * length point) = ap (λ m. 2 ^ m * 2 ^ e) (length-interleaved b point) ∙ times_turned (2 ^ (b * length point)) (2 ^ e) in
    omega (arith, few, binary_append plane rest, position, width)
