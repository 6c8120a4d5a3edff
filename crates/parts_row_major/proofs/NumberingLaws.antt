-- Numbers and coordinates correspond one to one.
use Rattle.std.proofs.Common.{◌≡◌, ℕ, zero, suc, ◌+◌, ◌*◌, ◌/◌, ◌%◌, ◌<◌, ◌≤◌, List, [], ◌∷◌, ◌++◌, append_assoc, length, get_or, drop, refl, ap, sym, ◌∙◌, arith}
use Rattle.std.proofs.lemmas.Nat.{mul-le, mul-add-lt, div-mul-add, mod-mul-add, div_below, mod_below, div-add-mod'}
use Rattle.std.proofs.lemmas.List.{drop_more, drop_all, get_or-drop, length-drop}
use Rattle.std.proofs.Math.Nat.{div-eq_of_eq-mul_right}
use Rattle.parts_row_major.specs.Numbering.{count_of, IsInside, number_of, point_of}

-- the number of a coordinate inside is below the count
pub number_below : (c s : List ℕ) → IsInside c s → number_of c s < count_of s
number_below [] [] h = omega arith
number_below [] (n ∷ ns) h = elim h [ ]
number_below (x ∷ xs) [] h = elim h [ ]
number_below (x ∷ xs) (n ∷ ns) h =
    omega (arith, mul-add-lt x (count_of ns) (number_of xs ns) n h.0 (number_below xs ns h.1))

-- what is left of a number below a count
pub rest_positive : (i n k : ℕ) → i < n * k → 0 < k
rest_positive i n k h = grind arith

pub positive_product : (n k : ℕ) → 0 < n → 0 < k → 0 < n * k
positive_product n k a b = grind arith

pub no_more_by_factors : (p n k m w : ℕ) → 0 < k → m ≡ n * k → p * m ≡ w → p * n ≤ w
no_more_by_factors p n k m w a b e =
    let wide : n * 1 ≤ n * k = mul-le n 1 n k (omega arith) a in
    let more = mul-le p (n * 1) p (n * k) (omega arith) wide in
    rw (← e, b) (omega (arith, more))

pub both_positive : (n k : ℕ) → 0 < n * k → (0 < n) × (0 < k)
both_positive zero k h = absurd (omega arith)
both_positive (suc n) zero h = absurd (omega arith)
both_positive (suc n) (suc k) h = (omega arith, omega arith)

pub le_product : (n k m : ℕ) → 0 < n → m ≤ k → m ≤ n * k
le_product n k m a b = grind arith

pub length-point_of : (i : ℕ) (s : List ℕ) → length (point_of i s) ≡ length s
length-point_of i [] = refl
length-point_of i (n ∷ ns) = omega (arith, length-point_of (i % count_of ns) ns)

-- the coordinate with a number below the count lies inside
pub point_inside : (i : ℕ) (s : List ℕ) → i < count_of s → IsInside (point_of i s) s
point_inside i [] h = tt
point_inside i (n ∷ ns) h =
    let k : 0 < count_of ns = rest_positive i n (count_of ns) h in
    (div_below i (count_of ns) n k h, point_inside (i % count_of ns) ns (mod_below i (count_of ns) k))

-- the coordinate with the number of a coordinate is that coordinate
pub point_of-number_of : (c s : List ℕ) → IsInside c s → point_of (number_of c s) s ≡ c
point_of-number_of [] [] h = refl
point_of-number_of [] (n ∷ ns) h = elim h [ ]
point_of-number_of (x ∷ xs) [] h = elim h [ ]
point_of-number_of (x ∷ xs) (n ∷ ns) h =
    let b = number_below xs ns h.1 in
    rw (div-mul-add x (count_of ns) (number_of xs ns) b, mod-mul-add x (count_of ns) (number_of xs ns) b, point_of-number_of xs ns h.1)

-- the number of the coordinate with a number is that number
pub number_of-point_of : (i : ℕ) (s : List ℕ) → i < count_of s → number_of (point_of i s) s ≡ i
number_of-point_of i [] h = omega arith
number_of-point_of i (n ∷ ns) h =
    let k : 0 < count_of ns = rest_positive i n (count_of ns) h in
    rw (number_of-point_of (i % count_of ns) ns (mod_below i (count_of ns) k)) (div-add-mod' i (count_of ns))

-- coordinates with one number are one
pub same_from_number : (c d s : List ℕ) → IsInside c s → IsInside d s → number_of c s ≡ number_of d s → c ≡ d
same_from_number c d s hc hd e =
    sym (point_of-number_of c s hc) ∙ (ap (λ i. point_of i s) e ∙ point_of-number_of d s hd)

-- ---- one axis more, at the front of what a loop has passed
pub count_of-drop : (s : List ℕ) (i : ℕ) → i < length s → count_of (drop i s) ≡ get_or s i 0 * count_of (drop (i + 1) s)
count_of-drop s i h = rw (drop_more s i 0 h)

pub number_of-drop : (c s : List ℕ) (i : ℕ) → i < length c → i < length s → number_of (drop i c) (drop i s) ≡ get_or c i 0 * count_of (drop (i + 1) s) + number_of (drop (i + 1) c) (drop (i + 1) s)
number_of-drop c s i hc hs = rw (drop_more c i 0 hc, drop_more s i 0 hs)

pub inside-drop : (c s : List ℕ) (i : ℕ) → i < length c → i < length s → get_or c i 0 < get_or s i 0 → IsInside (drop (i + 1) c) (drop (i + 1) s) → IsInside (drop i c) (drop i s)
inside-drop c s i hc hs lt h = rw (drop_more c i 0 hc, drop_more s i 0 hs) (lt, h)

-- a coordinate inside is below each axis
pub below_axis : (c s : List ℕ) (i : ℕ) → IsInside c s → i < length s → get_or c i 0 < get_or s i 0
below_axis [] [] i h lt = absurd (omega arith)
below_axis [] (n ∷ ns) i h lt = elim h [ ]
below_axis (x ∷ xs) [] i h lt = elim h [ ]
below_axis (x ∷ xs) (n ∷ ns) zero h lt = h.0
below_axis (x ∷ xs) (n ∷ ns) (suc i) h lt = below_axis xs ns i h.1 (omega arith)

-- a shape without a zero has coordinates
pub count_positive : (s : List ℕ) → ((i : ℕ) → i < length s → 0 < get_or s i 0) → 0 < count_of s
count_positive [] h = omega arith
count_positive (n ∷ ns) h =
    let a : 0 < n = h 0 (omega arith) in
    let b : 0 < count_of ns = count_positive ns (λ i lt. h (suc i) (omega arith)) in
    positive_product n (count_of ns) a b

-- what a product of the first axes says of the whole, where no axis is 0
pub product_no_more : (s : List ℕ) (i p : ℕ) → ((k : ℕ) → k < length s → 0 < get_or s k 0) → i < length s → p * count_of (drop i s) ≡ count_of s → p * get_or s i 0 ≤ count_of s
product_no_more s i p h lt e =
    let rest : 0 < count_of (drop (i + 1) s) =
    count_positive (drop (i + 1) s) (λ k lt. rw (get_or-drop (i + 1) s k 0) (h (i + 1 + k) (omega (arith, length-drop (i + 1) s)))) in
    let whole = count_of-drop s i lt in
    no_more_by_factors p (get_or s i 0) (count_of (drop (i + 1) s)) (count_of (drop i s)) (count_of s) rest whole e

pub product_more : (s : List ℕ) (i p : ℕ) → i < length s → p * count_of (drop i s) ≡ count_of s → (p * get_or s i 0) * count_of (drop (i + 1) s) ≡ count_of s
product_more s i p lt e = omega (arith, e, ap (λ k. p * k) (count_of-drop s i lt))

pub product_zero : (s : List ℕ) (i : ℕ) → i < length s → get_or s i 0 ≡ 0 → 0 ≡ count_of s
product_zero [] i lt e = absurd (omega arith)
product_zero (n ∷ ns) zero lt e = rw e (omega arith)
product_zero (n ∷ ns) (suc i) lt e = rw (← product_zero ns i (omega arith) e) (omega arith)

-- the last axes of a shape that has a coordinate inside count no more than the whole
pub count_of_drop_le : (c s : List ℕ) (i : ℕ) → IsInside c s → count_of (drop i s) ≤ count_of s
count_of_drop_le c s zero h = omega arith
count_of_drop_le c [] (suc i) h = omega arith
count_of_drop_le [] (n ∷ ns) (suc i) h = elim h [ ]
count_of_drop_le (x ∷ xs) (n ∷ ns) (suc i) h =
    le_product n (count_of ns) (count_of (drop i ns)) (omega (arith, h.0)) (count_of_drop_le xs ns i h.1)

pub product_all : (s : List ℕ) (i p : ℕ) → length s ≤ i → p * count_of (drop i s) ≡ count_of s → p ≡ count_of s
product_all s i p h e = let f = rw (drop_all i s h) at e in omega (arith, f)

-- the count of a shape's last axes fits under the whole, where a coordinate lies inside
pub stride_no_more : (c s : List ℕ) (i j : ℕ) → IsInside c s → i < length s → i + 1 ≡ j → count_of (drop j s) * get_or s i 0 ≤ count_of s
stride_no_more c s i j h lt e = rw (← e) (let le = count_of_drop_le c s i h in omega (arith, count_of-drop s i lt, le))

-- dividing a count by its first axis leaves the count of the rest
pub stride_divided : (s : List ℕ) (i k : ℕ) → i < length s → 0 < k → k ≡ count_of (drop i s) → (k / get_or s i 0 ≡ count_of (drop (i + 1) s)) × (0 < count_of (drop (i + 1) s))
stride_divided s i k lt pos e =
    let whole = e ∙ count_of-drop s i lt in
    let positive = both_positive (get_or s i 0) (count_of (drop (i + 1) s)) (omega (arith, whole)) in
    (div-eq_of_eq-mul_right positive.0 whole, positive.1)

pub point_of-drop : (rest : ℕ) (s : List ℕ) (i : ℕ) → i < length s → point_of rest (drop i s) ≡ rest / count_of (drop (i + 1) s) ∷ point_of (rest % count_of (drop (i + 1) s)) (drop (i + 1) s)
point_of-drop rest s i lt = rw (drop_more s i 0 lt)

-- one more number of the point with a number
pub point_more : (xs : List ℕ) (rest : ℕ) (s : List ℕ) (i k : ℕ) → i < length s → k ≡ count_of (drop (i + 1) s) → (xs ++ (rest / k) ∷ []) ++ point_of (rest % k) (drop (i + 1) s) ≡ xs ++ point_of rest (drop i s)
point_more xs rest s i k lt e = rw (e, append_assoc, point_of-drop rest s i lt) refl
