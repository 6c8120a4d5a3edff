-- The numbers of a coordinate along its axes, from the last to the first.
use Rattle.std.proofs.Common.{◌≡◌, ℕ, zero, suc, ◌+◌, ◌*◌, ◌/◌, ◌%◌, ◌^◌, ◌<◌, List, [], ◌∷◌, length, get_or, take, drop, refl, ap, sym, ◌∙◌, arith}
use Rattle.std.proofs.lemmas.Nat.{mod_below, div_below, div-add-mod'}
use Rattle.std.proofs.Math.Nat.{mul-add-div_right, mod-eq_of_lt, div-div-eq-div-mul, add-mul-mod_self_right}
use Rattle.std.proofs.lemmas.List.Elements.{length_all_zip}
use Rattle.parts_row_major.specs.Numbering.{count_of, IsInside, number_of, point_of}
use Rattle.parts_row_major.proofs.NumberingLaws.{rest_positive, both_positive, count_of-drop, number_of-drop, number_below, count_of_drop_le, below_axis}

-- a count is the count of its first axes times that of the others
pub count_split : (s : List ℕ) (i : ℕ) → count_of (take i s) * count_of (drop i s) ≡ count_of s
count_split s zero = omega arith
count_split [] (suc i) = refl
count_split (n ∷ ns) (suc i) = omega (arith, ap (λ k. n * k) (count_split ns i))

-- what a number keeps of a last axis when whole blocks of the later axes are taken off
pub same_digit : (i a m d : ℕ) → 0 < m → 0 < d → (i % (a * (m * d))) / d % m ≡ i / d % m
same_digit i a m d pm pd =
    let whole = div-add-mod' i (a * (m * d)) in
    let q = i / (a * (m * d)) in
    let r = i % (a * (m * d)) in
    let as_blocks : i ≡ (q * a * m) * d + r = omega (arith, whole) in
    let divided : i / d ≡ q * a * m + r / d = ap (λ n. n / d) as_blocks ∙ mul-add-div_right pd (q * a * m) r in
    let turned : i / d ≡ r / d + (q * a) * m = omega (arith, divided) in
    sym (ap (λ n. n % m) turned ∙ add-mul-mod_self_right (r / d) (q * a) m)

-- a point's number along an axis
pub point_of_at : (i : ℕ) (s : List ℕ) (axis j : ℕ) → i < count_of s → axis < length s → axis + 1 ≡ j → get_or (point_of i s) axis 0 ≡ (i / count_of (drop j s)) % get_or s axis 0
point_of_at i [] axis j h lt e = absurd (omega arith)
point_of_at i (n ∷ ns) zero j h lt e =
    let k : 0 < count_of ns = rest_positive i n (count_of ns) h in
    rw (← e) (sym (mod-eq_of_lt (div_below i (count_of ns) n k h)))
point_of_at i (n ∷ ns) (suc axis) j h lt e =
    let k : 0 < count_of ns = rest_positive i n (count_of ns) h in
    let later : suc (axis + 1) ≡ j = omega arith in
    let first = count_of (take axis ns) in
    let this = get_or ns axis 0 in
    let last = count_of (drop (axis + 1) ns) in
    let whole = ap (λ m. first * m) (sym (count_of-drop ns axis (omega arith))) ∙ count_split ns axis in
    let positive = both_positive first (this * last) (omega (arith, whole)) in
    let each = both_positive this last positive.1 in
    rw (← later) (point_of_at (i % count_of ns) ns axis (axis + 1) (mod_below i (count_of ns) k) (omega arith) refl
    ∙ rw whole at (same_digit i first this last each.0 each.1))

-- a shape with a coordinate of some number has no zero
pub axis_positive : (i : ℕ) (s : List ℕ) (k : ℕ) → i < count_of s → k < length s → 0 < get_or s k 0
axis_positive i s k h lt =
    let first = count_of (take k s) in
    let whole = ap (λ m. first * m) (sym (count_of-drop s k lt)) ∙ count_split s k in
    let positive = both_positive first (get_or s k 0 * count_of (drop (k + 1) s)) (omega (arith, whole)) in
    (both_positive (get_or s k 0) (count_of (drop (k + 1) s)) positive.1).0

-- what is left of a number after the last axes
pub rest_more : (i : ℕ) (s : List ℕ) (k j rest : ℕ) → k < length s → k + 1 ≡ j → rest ≡ i / count_of (drop j s) → rest / get_or s k 0 ≡ i / count_of (drop k s)
rest_more i s k j rest lt e is =
    let whole : count_of (drop k s) ≡ count_of (drop j s) * get_or s k 0 = rw (← e) (omega (arith, count_of-drop s k lt)) in
    rw (is, whole) (div-div-eq-div-mul i (count_of (drop j s)) (get_or s k 0))

pub inside_drop_all : (c s : List ℕ) (i : ℕ) → IsInside c s → IsInside (drop i c) (drop i s)
inside_drop_all c s zero h = h
inside_drop_all [] [] (suc i) h = tt
inside_drop_all [] (n ∷ ns) (suc i) h = elim h [ ]
inside_drop_all (x ∷ xs) [] (suc i) h = elim h [ ]
inside_drop_all (x ∷ xs) (n ∷ ns) (suc i) h = inside_drop_all xs ns i h.1

-- one more axis of a coordinate's number, from the last to the first
pub record AxisStep (c s : List ℕ) (i x stride number : ℕ) : Type 0 where
  pub below : x < get_or s i 0
  pub number_more : number + x * stride ≡ number_of (drop i c) (drop i s)
  pub number_fits : number + x * stride < 2 ^ 64
  pub stride_more : stride * get_or s i 0 ≡ count_of (drop i s)
  pub stride_fits : stride * get_or s i 0 < 2 ^ 64

pub axis_step : (c s : List ℕ) (i j x stride number : ℕ) → IsInside c s → count_of s < 2 ^ 64 → i < length s → i + 1 ≡ j → x ≡ get_or c i 0 → stride ≡ count_of (drop j s) → number ≡ number_of (drop j c) (drop j s) → AxisStep c s i x stride number
axis_step c s i j x stride number inside fits lt e xe se ne =
    let long = length_all_zip (λ a b. a < b) c s inside in
    let stride_is : stride ≡ count_of (drop (i + 1) s) = rw e se in
    let number_is : number ≡ number_of (drop (i + 1) c) (drop (i + 1) s) = rw e ne in
    let more : number + x * stride ≡ number_of (drop i c) (drop i s) =
    rw (number_is, xe, stride_is) (omega (arith, number_of-drop c s i (omega arith) lt)) in
    let further : stride * get_or s i 0 ≡ count_of (drop i s) = rw stride_is (omega (arith, count_of-drop s i lt)) in
    let last = number_below (drop i c) (drop i s) (inside_drop_all c s i inside) in
    let small = count_of_drop_le c s i inside in
    record {
      below = rw xe (below_axis c s i inside lt);
      number_more = more;
      number_fits = omega (arith, more, last, small);
      stride_more = further;
      stride_fits = omega (arith, further, small);
    }
