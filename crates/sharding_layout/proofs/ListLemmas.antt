-- Lists of numbers that ascend by a code: what edits keep, and that such a list is given by its members.
use Rattle.std.proofs.Common.{◌≡◌, ◌⊎◌, inl, inr, ℕ, zero, suc, ◌+◌, ◌<◌, ◌≤◌, Bool, true, false, if◌then◌else◌, List, [], ◌∷◌, ◌++◌, length, map, get_or, refl, sym, ap, ◌∙◌, subst, arith}
use Rattle.std.specs.List.{AllByRecursion, Contains, filter, range_with_len}
use Rattle.std.proofs.lemmas.Bool.{false≢true}
use Rattle.std.proofs.lemmas.List.FromFn.{length-range_with_len, get_or-range_with_len}
use Rattle.std.proofs.lemmas.List.Sorted.{Contains-permutation}
use Rattle.sharding_format.specs.WriteOrder.{put_in, sorted_by}
use Rattle.sharding_format.specs.WriteOrderLaws.{sorted_by_permutes}
use Rattle.sharding_layout.specs.steps.Reached.{Ascends}

-- ---- each member
pub all_weaker : (P Q : ℕ → Type 0) (xs : List ℕ) → ((x : ℕ) → P x → Q x) → AllByRecursion P xs → AllByRecursion Q xs
all_weaker P Q [] so h = tt
all_weaker P Q (x ∷ xs) so h = (so x h.0, all_weaker P Q xs so h.1)

pub all_both : (P Q : ℕ → Type 0) (xs : List ℕ) → AllByRecursion P xs → AllByRecursion Q xs → AllByRecursion (λ x. P x × Q x) xs
all_both P Q [] h k = tt
all_both P Q (x ∷ xs) h k = ((h.0, k.0), all_both P Q xs h.1 k.1)

pub all_append : (P : ℕ → Type 0) (xs ys : List ℕ) → AllByRecursion P xs → AllByRecursion P ys → AllByRecursion P (xs ++ ys)
all_append P [] ys h k = k
all_append P (x ∷ xs) ys h k = (h.0, all_append P xs ys h.1 k)

pub all_map : (P : ℕ → Type 0) (g : ℕ → ℕ) (xs : List ℕ) → AllByRecursion (λ x. P (g x)) xs → AllByRecursion P (map g xs)
all_map P g [] h = tt
all_map P g (x ∷ xs) h = (h.0, all_map P g xs h.1)

-- what passes a test passes it
pub all_filter : (P : ℕ → Type 0) (test : ℕ → Bool) (xs : List ℕ) → AllByRecursion P xs → AllByRecursion (λ x. P x × (test x ≡ true)) (filter test xs)
all_filter P test [] h = tt
all_filter P test (x ∷ xs) h = go (test x) refl (all_filter P test xs h.1)
  where
    go : (b : Bool) → test x ≡ b → AllByRecursion (λ x. P x × (test x ≡ true)) (filter test xs) → AllByRecursion (λ x. P x × (test x ≡ true)) (filter test (x ∷ xs))
    go true e rest = rw e ((h.0, e), rest)
    go false e rest = rw e rest

-- ---- ascending
pub ascends_append : (f : ℕ → ℕ) (w : ℕ) (xs ys : List ℕ) → Ascends f xs → Ascends f ys
    → AllByRecursion (λ x. f x < w) xs → AllByRecursion (λ y. w ≤ f y) ys → Ascends f (xs ++ ys)
ascends_append f w [] ys hx hy low high = hy
ascends_append f w (x ∷ xs) ys hx hy low high = (
  all_append (λ y. f x < f y) xs ys hx.0 (all_weaker (λ y. w ≤ f y) (λ y. f x < f y) ys (λ y up. omega (arith, up, low.0)) high),
  ascends_append f w xs ys hx.1 hy low.1 high,
)

pub ascends_filter : (f : ℕ → ℕ) (test : ℕ → Bool) (xs : List ℕ) → Ascends f xs → Ascends f (filter test xs)
ascends_filter f test [] h = tt
ascends_filter f test (x ∷ xs) h = go (test x) refl (ascends_filter f test xs h.1)
  where
    go : (b : Bool) → test x ≡ b → Ascends f (filter test xs) → Ascends f (filter test (x ∷ xs))
    go true e rest = rw e (all_weaker (λ y. (f x < f y) × (test y ≡ true)) (λ y. f x < f y) (filter test xs) (λ y p. p.0) (all_filter (λ y. f x < f y) test xs h.0), rest)
    go false e rest = rw e rest

-- where each code grows by as much
pub ascends_map : (f : ℕ → ℕ) (g : ℕ → ℕ) (w : ℕ) (xs : List ℕ) → AllByRecursion (λ x. f (g x) ≡ f x + w) xs → Ascends f xs → Ascends f (map g xs)
ascends_map f g w [] grows h = tt
ascends_map f g w (x ∷ xs) grows h = (
  all_map (λ y. f (g x) < f y) g xs (all_weaker (λ y. (f x < f y) × (f (g y) ≡ f y + w)) (λ y. f (g x) < f (g y)) xs
      (λ y p. omega (arith, p.0, p.1, grows.0)) (all_both (λ y. f x < f y) (λ y. f (g y) ≡ f y + w) xs h.0 grows.1)),
  ascends_map f g w xs grows.1 h.1,
)

-- ---- members
abbrev pub Has : List ℕ → ℕ → Type 0
Has [] z = ⊥
Has (x ∷ xs) z = (x ≡ z) ⊎ Has xs z

pub has_at : (xs : List ℕ) (k z : ℕ) → k < length xs → get_or xs k z ≡ z → Has xs z
has_at [] k z below is = absurd (omega arith)
has_at (x ∷ xs) zero z below is = inl is
has_at (x ∷ xs) (suc k) z below is = inr (has_at xs k z (omega arith) is)

pub has_contained : (xs : List ℕ) (z : ℕ) → Contains xs z → Has xs z
has_contained xs z h = has_at xs h.0 z h.1 h.2

pub contains_had : (xs : List ℕ) (z : ℕ) → Has xs z → Contains xs z
contains_had [] z h = absurd h
contains_had (x ∷ xs) z h =
    elim h [
      | inl here ↦ (0, omega arith, here)
      | inr later ↦ let found = contains_had xs z later in (suc found.0, omega (arith, found.1), found.2)
    ]

pub all_had : (P : ℕ → Type 0) (xs : List ℕ) (z : ℕ) → AllByRecursion P xs → Has xs z → P z
all_had P [] z h has = absurd has
all_had P (x ∷ xs) z h has = elim has [ inl here ↦ subst P here h.0 | inr later ↦ all_had P xs z h.1 later ]

pub had_append_left : (xs ys : List ℕ) (z : ℕ) → Has xs z → Has (xs ++ ys) z
had_append_left [] ys z h = absurd h
had_append_left (x ∷ xs) ys z h = elim h [ inl here ↦ inl here | inr later ↦ inr (had_append_left xs ys z later) ]

pub had_append_right : (xs ys : List ℕ) (z : ℕ) → Has ys z → Has (xs ++ ys) z
had_append_right [] ys z h = h
had_append_right (x ∷ xs) ys z h = inr (had_append_right xs ys z h)

pub had_map : (g : ℕ → ℕ) (xs : List ℕ) (z : ℕ) → Has xs z → Has (map g xs) (g z)
had_map g [] z h = absurd h
had_map g (x ∷ xs) z h = elim h [ inl here ↦ inl (ap g here) | inr later ↦ inr (had_map g xs z later) ]

pub had_filter : (test : ℕ → Bool) (xs : List ℕ) (z : ℕ) → test z ≡ true → Has xs z → Has (filter test xs) z
had_filter test [] z passes h = absurd h
had_filter test (x ∷ xs) z passes h = go (test x) refl (λ later. had_filter test xs z passes later)
  where
    go : (b : Bool) → test x ≡ b → (Has xs z → Has (filter test xs) z) → Has (filter test (x ∷ xs)) z
    go true e rest = rw e (elim h [ inl here ↦ inl here | inr later ↦ inr (rest later) ])
    go false e rest = rw e (elim h [ inl here ↦ absurd (false≢true (sym e ∙ ap test here ∙ passes)) | inr later ↦ rest later ])

-- ---- a list that ascends is given by its members
pub same_members : (f : ℕ → ℕ) (xs ys : List ℕ) → Ascends f xs → Ascends f ys → ((z : ℕ) → Has xs z → Has ys z) → ((z : ℕ) → Has ys z → Has xs z) → xs ≡ ys
same_members f [] [] hx hy there back = refl
same_members f [] (y ∷ ys) hx hy there back = absurd (back y (inl refl))
same_members f (x ∷ xs) [] hx hy there back = absurd (there x (inl refl))
same_members f (x ∷ xs) (y ∷ ys) hx hy there back =
    let first : x ≡ y =
    elim (there x (inl refl)) [
      | inl same ↦ sym same
      | inr later ↦ elim (back y (inl refl)) [
        | inl same ↦ same
        | inr after ↦ absurd (omega (arith, all_had (λ z. f y < f z) ys x hy.0 later, all_had (λ z. f x < f z) xs y hx.0 after))
      ]
    ] in
    let rest : xs ≡ ys =
    same_members f xs ys hx.1 hy.1
    (λ z in_xs. elim (there z (inr in_xs)) [
      | inl same ↦ absurd (omega (arith, all_had (λ z. f x < f z) xs z hx.0 in_xs, ap f (first ∙ same)))
      | inr later ↦ later
    ])
    (λ z in_ys. elim (back z (inr in_ys)) [
      | inl same ↦ absurd (omega (arith, all_had (λ z. f y < f z) ys z hy.0 in_ys, ap f (sym first ∙ same)))
      | inr later ↦ later
    ]) in
    ap (λ k. k ∷ xs) first ∙ ap (λ zs. y ∷ zs) rest

-- ---- sorting
module _ (f : ℕ → ℕ) (n : ℕ) (before : ℕ → ℕ → Bool)
    (transparent : (j k : ℕ) → j < n → k < n → ((before j k ≡ true) × (f j < f k)) ⊎ ((before j k ≡ false) × (f k ≤ f j)))
    (one : (j k : ℕ) → j < n → k < n → f j ≡ f k → j ≡ k) where
  all_put_in : (P : ℕ → Type 0) (k : ℕ) (js : List ℕ) → P k → AllByRecursion P js → AllByRecursion P (put_in before k js)
  all_put_in P k [] h each = (h, tt)
  all_put_in P k (j ∷ js) h each =
      elim (before k j) as (λ t. AllByRecursion P (if t then k ∷ j ∷ js else j ∷ put_in before k js)) [
        | true ↦ (h, each)
        | false ↦ (each.0, all_put_in P k js h each.1)
      ]

  put_in_ascends : (k : ℕ) (js : List ℕ) → k < n → AllByRecursion (λ j. (j < n) × (¬ (k ≡ j))) js → Ascends f js → Ascends f (put_in before k js)
  put_in_ascends k [] below others h = (tt, tt)
  put_in_ascends k (j ∷ js) below others h =
      elim (transparent k j below others.0.0) [
        | inl less ↦ rw less.0 ((less.1, all_weaker (λ y. f j < f y) (λ y. f k < f y) js (λ y up. omega (arith, up, less.1)) h.0), h)
        | inr more ↦
            let other : ¬ (f k ≡ f j) = λ same. others.0.1 (one k j below others.0.0 same) in
            let up : f j < f k = omega (arith, more.1, other) in
            rw more.0 (all_put_in (λ y. f j < f y) k js up h.0, put_in_ascends k js below others.1 h.1)
      ]

  -- the numbers from s on, sorted
  sorted_from : (s m : ℕ) → s + m ≤ n
      → Ascends f (sorted_by before (range_with_len s m)) × AllByRecursion (λ j. (j < n) × (s ≤ j)) (sorted_by before (range_with_len s m))
  sorted_from s zero room = (tt, tt)
  sorted_from s (suc m) room =
      let rest = sorted_from (s + 1) m (omega arith) in
      let sorted = sorted_by before (range_with_len (s + 1) m) in (
        put_in_ascends s sorted (omega arith)
            (all_weaker (λ j. (j < n) × (s + 1 ≤ j)) (λ j. (j < n) × (¬ (s ≡ j))) sorted (λ j h. (h.0, λ same. omega (arith, same, h.1))) rest.1) rest.0,
        all_put_in (λ j. (j < n) × (s ≤ j)) s sorted (omega arith, omega arith)
            (all_weaker (λ j. (j < n) × (s + 1 ≤ j)) (λ j. (j < n) × (s ≤ j)) sorted (λ j h. (h.0, omega (arith, h.1))) rest.1),
      )

  range_has : (z : ℕ) → z < n → Contains (range_with_len 0 n) z
  range_has z below = (z, omega (arith, length-range_with_len 0 n), get_or-range_with_len 0 n z z below ∙ plain z)
    where
      plain : (k : ℕ) → 0 + k ≡ k
      plain k = omega arith

  -- a list that ascends and has just the numbers below n is these, sorted
  pub sorted_is : (xs : List ℕ) → Ascends f xs → AllByRecursion (λ k. k < n) xs → ((k : ℕ) → k < n → Has xs k) → xs ≡ sorted_by before (range_with_len 0 n)
  sorted_is xs h below all =
      let sorted = sorted_by before (range_with_len 0 n) in
      let made = sorted_from 0 n (omega arith) in
      same_members f xs sorted h made.0
      (λ z has. has_contained sorted z (Contains-permutation (range_with_len 0 n) sorted z (sorted_by_permutes before (range_with_len 0 n)) (range_has z (all_had (λ k. k < n) xs z below has))))
      (λ z has. all z (all_had (λ j. (j < n) × (0 ≤ j)) sorted z made.1 has).0)

-- in a list that ascends one code is one number
pub one_code : (f : ℕ → ℕ) (xs : List ℕ) (j k : ℕ) → Ascends f xs → Has xs j → Has xs k → f j ≡ f k → j ≡ k
one_code f [] j k h of_j of_k same = absurd of_j
one_code f (x ∷ xs) j k h of_j of_k same =
    elim of_j [
      | inl first ↦ elim of_k [
        | inl again ↦ sym first ∙ again
        | inr later ↦ absurd (omega (arith, all_had (λ z. f x < f z) xs k h.0 later, ap f first, same))
      ]
      | inr after ↦ elim of_k [
        | inl again ↦ absurd (omega (arith, all_had (λ z. f x < f z) xs j h.0 after, ap f again, same))
        | inr later ↦ one_code f xs j k h.1 after later same
      ]
    ]
