-- The numbers of a grid, listed bit by bit: what one more bit along an axis adds, and that in the end they are the order of the
-- Z-curve.
use Rattle.std.proofs.Common.{◌≡◌, ◌⊎◌, inl, inr, ℕ, zero, suc, ◌+◌, ◌-◌, ◌*◌, ◌/◌, ◌%◌, ◌^◌, ◌<◌, ◌≤◌, Bool, true, List, [], ◌∷◌, ◌++◌, length, get_or, set, drop, refl, sym, ap, ◌∙◌, subst, arith, ltb}
use Rattle.std.specs.List.{All, AllByRecursion, filter, range_with_len}
use Rattle.std.specs.Int.{bit_at}
use Rattle.std.proofs.Math.Nat.{pow-suc, mod-eq_of_lt}
use Rattle.std.proofs.lemmas.Nat.{pow_pos, mod-pow-add}
use Rattle.std.proofs.lemmas.List.FromFn.{length-range_with_len, get_or-range_with_len}
use Rattle.std.proofs.lemmas.Bool.{cases_lt, lt-ltb, ltb-true}
use Rattle.std.proofs.lemmas.List.{get_or-drop, length-drop, get_or-set_same, get_or-set_other, get_or_past}
use Rattle.std.proofs.lemmas.List.Elements.{All-from_recursion}
use Rattle.parts_row_major.specs.Numbering.{count_of, number_of, point_of, IsInside}
use Rattle.parts_row_major.proofs.NumberingLaws.{count_positive, count_of-drop, count_of_drop_le, length-point_of, number_below, point_inside, point_of-number_of, number_of-point_of, below_axis}
use Rattle.parts_row_major.proofs.PointLaws.{point_of_at}
use Rattle.sharding_format.specs.WriteOrder.{interleaved_bits, is_before, numbers_in_order}
use Rattle.sharding_format.specs.declared.order.SubchunkWriteOrder.TheVariants.{Morton}
use Rattle.sharding_layout.specs.steps.Reached.{binary, moved, morton_code, IsReached, AreReached, Ascends}
use Rattle.sharding_layout.proofs.CodeLemmas.{length-interleaved, before_tells, code_further, code_below}
use Rattle.sharding_layout.proofs.ListLemmas.{Has, has_at, has_contained, contains_had, had_append_left, had_append_right, had_map, had_filter, all_weaker, all_append, all_map, all_filter, ascends_append, ascends_filter, ascends_map, sorted_is, one_code}

-- ---- a coordinate with another number along one axis
number_set : (c s : List ℕ) (a v : ℕ) → length c ≡ length s → a < length s
    → number_of (set c a v) s + get_or c a 0 * count_of (drop (suc a) s) ≡ number_of c s + v * count_of (drop (suc a) s)
number_set [] [] a v e h = absurd (omega arith)
number_set [] (n ∷ ns) a v e h = absurd (omega arith)
number_set (x ∷ xs) [] a v e h = absurd (omega arith)
number_set (x ∷ xs) (n ∷ ns) zero v e h = omega arith
number_set (x ∷ xs) (n ∷ ns) (suc a) v e h = omega (arith, number_set xs ns a v (omega arith) (omega arith))

inside_set : (c s : List ℕ) (a v : ℕ) → IsInside c s → a < length s → v < get_or s a 0 → IsInside (set c a v) s
inside_set [] [] a v h lt below = absurd (omega arith)
inside_set [] (n ∷ ns) a v h lt below = absurd h
inside_set (x ∷ xs) [] a v h lt below = absurd h
inside_set (x ∷ xs) (n ∷ ns) zero v h lt below = (below, h.1)
inside_set (x ∷ xs) (n ∷ ns) (suc a) v h lt below = (h.0, inside_set xs ns a v h.1 (omega arith) below)

-- the number of such a coordinate, and its coordinate again
record IsMovedTo (s : List ℕ) (k a v m : ℕ) : Type 0 where
  below : m < count_of s
  point : point_of m s ≡ set (point_of k s) a v
  distance : m + get_or (point_of k s) a 0 * count_of (drop (suc a) s) ≡ k + v * count_of (drop (suc a) s)

moved_to : (s : List ℕ) (k a v : ℕ) → k < count_of s → a < length s → v < get_or s a 0 → IsMovedTo s k a v (number_of (set (point_of k s) a v) s)
moved_to s k a v below axis small =
    let p = point_of k s in
    let inside : IsInside (set p a v) s = inside_set p s a v (point_inside k s below) axis small in
    record {
      below = number_below (set p a v) s inside;
      point = point_of-number_of (set p a v) s inside;
      distance = omega (arith, number_set p s a v (length-point_of k s) axis, number_of-point_of k s below);
    }

-- ---- one bit more along one axis
module _ (s : List ℕ) (a b e : ℕ) (long : suc a + e ≡ length s) (few : b < 64) where
  abbrev stride : ℕ
  stride = count_of (drop (suc a) s)

  abbrev len : ℕ
  len = get_or s a 0

  abbrev at : ℕ → ℕ
  at k = get_or (point_of k s) a 0

  axis : a < length s
  axis = omega (arith, long)

  -- what the test reads is the number along the axis
  pub along : (k : ℕ) → k < count_of s → (k / stride) % len ≡ at k
  along k below = sym (point_of_at k s a (suc a) below axis (omega arith))

  wide : 2 ^ (b + 1) ≡ 2 ^ b + 2 ^ b
  wide = let next : b + 1 ≡ suc b = omega arith in ap (λ n. 2 ^ n) next ∙ pow-suc 2 b ∙ twice
    where
      twice : 2 ^ b * 2 ≡ 2 ^ b + 2 ^ b
      twice = omega arith

  nearer : (p : List ℕ) → IsReached b (suc a) p → IsReached b a p
  nearer p h = record { front = λ y lt. h.front y (omega arith); every = h.every }

  farther : (p : List ℕ) → IsReached b a p → get_or p a 0 < 2 ^ b → IsReached b (suc a) p
  farther p h small = record {
    front = λ y lt. elim (cases_lt y a) [ inl less ↦ h.front y less | inr more ↦ let same : a ≡ y = omega arith in subst (λ z. get_or p z 0 < 2 ^ b) same small ];
    every = h.every;
  }

  -- a coordinate with another number along the axis
  reached_set : (p : List ℕ) (v : ℕ) → a < length p → IsReached b a p → v < 2 ^ (b + 1) → IsReached b a (set p a v)
  reached_set p v inside h small = record {
    front = λ y lt. rw (get_or-set_other p a y v 0 (λ same. omega (arith, same))) (h.front y lt);
    every = λ y. elim (cases_lt y a) [
      | inl less ↦ rw (get_or-set_other p a y v 0 (λ same. omega (arith, same))) (h.every y)
      | inr upto ↦ elim (cases_lt a y) [
        | inl more ↦ rw (get_or-set_other p a y v 0 (λ same. omega (arith, same))) (h.every y)
        | inr back ↦ let same : y ≡ a = omega arith in rw same (rw (get_or-set_same p a v 0 inside) small)
      ]
    ];
  }

  inside_point : (k : ℕ) → a < length (point_of k s)
  inside_point k = omega (arith, axis, length-point_of k s)

  abbrev Listed : ℕ → ℕ → Type 0
  Listed x k = (k < count_of s) × IsReached b x (point_of k s)

  abbrev code : ℕ → ℕ
  code k = morton_code (point_of k s)

  abbrev weight : ℕ
  weight = 2 ^ e * 2 ^ (b * length s)

  abbrev go : ℕ → ℕ
  go k = k + 2 ^ b * stride

  record IsFurther (k : ℕ) : Type 0 where
    listed : Listed a (go k)
    more : code (go k) ≡ code k + weight

  further : (k : ℕ) → Listed (suc a) k → at k + 2 ^ b < len → IsFurther k
  further k h room =
      let p = point_of k s in
      let v = at k + 2 ^ b in
      let to = moved_to s k a v h.0 axis room in
      let m = number_of (set p a v) s in
      let is : m ≡ go k = omega (arith, to.distance) in
      let small : at k < 2 ^ b = h.1.front a (omega arith) in
      let code_more : morton_code (set p a v) ≡ morton_code p + 2 ^ e * 2 ^ (b * length p) =
      code_further p a b e (omega (arith, long, length-point_of k s)) small few in
      let pair : ((go k < count_of s) × IsReached b a (point_of (go k) s)) × (code (go k) ≡ code k + weight) =
      subst (λ j. ((j < count_of s) × IsReached b a (point_of j s)) × (code j ≡ code k + weight)) is (
        (to.below, rw to.point (reached_set p v (inside_point k) (nearer p h.1) (omega (arith, small, wide)))),
        ap morton_code to.point ∙ code_more ∙ ap (λ n. morton_code p + 2 ^ e * 2 ^ (b * n)) (length-point_of k s),
      )
      in record { listed = pair.0; more = pair.1 }

  abbrev test : ℕ → Bool
  test k = ltb ((k / stride) % len + 2 ^ b) len

  module _ (numbers : List ℕ) (h : AreReached s b (suc a) numbers) where
    abbrev kept : List ℕ
    kept = filter test numbers

    room_of : (k : ℕ) → Listed (suc a) k × (test k ≡ true) → at k + 2 ^ b < len
    room_of k t = omega (arith, ltb-true ((k / stride) % len + 2 ^ b) len t.1, along k t.0.0)

    kept_listed : AllByRecursion (λ k. Listed (suc a) k × (test k ≡ true)) kept
    kept_listed = all_filter (Listed (suc a)) test numbers h.inside

    kept_further : AllByRecursion IsFurther kept
    kept_further = all_weaker (λ k. Listed (suc a) k × (test k ≡ true)) IsFurther kept (λ k t. further k t.0 (room_of k t)) kept_listed

    abbrev added : List ℕ
    added = moved (2 ^ b) stride len numbers

    one_more_all : (k : ℕ) → Listed a k → Has (numbers ++ added) k
    one_more_all k listed =
        elim (cases_lt (at k) (2 ^ b)) [
          | inl small ↦ had_append_left numbers added k (has_contained numbers k (h.all k listed.0 (farther (point_of k s) listed.1 small)))
          | inr large ↦
              let v = at k - 2 ^ b in
              let p = point_of k s in
              let below : at k < 2 ^ (b + 1) = listed.1.every a in
              let inside : at k < len = below_axis p s a (point_inside k s listed.0) axis in
              let v_small : v < 2 ^ b = omega (arith, below, wide, large) in
              let to = moved_to s k a v listed.0 axis (omega (arith, inside)) in
              let m = number_of (set p a v) s in
              let at_m : at m ≡ v = ap (λ q. get_or q a 0) to.point ∙ get_or-set_same p a v 0 (inside_point k) in
              let m_reached : IsReached b a (point_of m s) = rw to.point (reached_set p v (inside_point k) listed.1 (omega (arith, v_small, wide))) in
              let m_listed = h.all m to.below (farther (point_of m s) m_reached (omega (arith, at_m, v_small))) in
              let passes : test m ≡ true = lt-ltb ((m / stride) % len + 2 ^ b) len (omega (arith, along m to.below, at_m, large, inside)) in
              let split : at k ≡ v + 2 ^ b = omega (arith, large) in
              let product : at k * stride ≡ (v + 2 ^ b) * stride = ap (λ n. n * stride) split in
              let is : go m ≡ k = omega (arith, to.distance, product) in
              had_append_right numbers added k (subst (Has added) is (had_map go kept m (had_filter test numbers m passes (has_contained numbers m m_listed))))
        ]

    -- the list with what lies this bit further along the axis
    pub one_more : AreReached s b a (numbers ++ added)
    one_more = record {
      inside = all_append (Listed a) numbers added
          (all_weaker (Listed (suc a)) (Listed a) numbers (λ k l. (l.0, nearer (point_of k s) l.1)) h.inside)
          (all_map (Listed a) go kept (all_weaker IsFurther (λ k. Listed a (go k)) kept (λ k f. f.listed) kept_further));
      ascends = ascends_append code weight numbers added h.ascends
          (ascends_map code go weight kept (all_weaker IsFurther (λ k. code (go k) ≡ code k + weight) kept (λ k f. f.more) kept_further) (ascends_filter code test numbers h.ascends))
          (all_weaker (Listed (suc a)) (λ k. code k < weight) numbers (λ k l.
          let low = code_below (point_of k s) (suc a) b e few (long ∙ sym (length-point_of k s)) l.1 in
          omega (arith, low, ap (λ n. 2 ^ e * 2 ^ (b * n)) (length-point_of k s))) h.inside)
          (all_map (λ k. weight ≤ code k) go kept (all_weaker IsFurther (λ k. weight ≤ code (go k)) kept (λ k f. omega (arith, f.more)) kept_further));
      all = λ k below reached. contains_had (numbers ++ added) k (one_more_all k (below, reached));
    }

    -- an axis that has no such bit adds nothing
    pub none_more : len ≤ 2 ^ b → AreReached s b a numbers
    none_more short = record {
      inside = all_weaker (Listed (suc a)) (Listed a) numbers (λ k l. (l.0, nearer (point_of k s) l.1)) h.inside;
      ascends = h.ascends;
      all = λ k below reached. h.all k below (farther (point_of k s) reached (omega (arith, short, below_axis (point_of k s) s a (point_inside k s below) axis)));
    }

    -- what the code needs of each number in the list
    pub near : All (λ k. (k / stride) % len < 2 ^ b) numbers
    near = All-from_recursion (λ k. (k / stride) % len < 2 ^ b) numbers
        (all_weaker (Listed (suc a)) (λ k. (k / stride) % len < 2 ^ b) numbers (λ k l. omega (arith, along k l.0, l.1.front a (omega arith))) h.inside)

    pub fits : count_of s < 2 ^ 64 → All (λ k. (k / stride) % len + 2 ^ b < len → k + 2 ^ b * stride < 2 ^ 64) numbers
    fits small = All-from_recursion (λ k. (k / stride) % len + 2 ^ b < len → k + 2 ^ b * stride < 2 ^ 64) numbers
        (all_weaker (Listed (suc a)) (λ k. (k / stride) % len + 2 ^ b < len → k + 2 ^ b * stride < 2 ^ 64) numbers
        (λ k l room. omega (arith, small, (further k l (omega (arith, room, along k l.0))).listed.0)) h.inside)

-- what a step of the loop over the axes needs and gives
pub record IsAxisStep (s : List ℕ) (b j step stride : ℕ) (numbers : List ℕ) : Type 0 where
  pub some : 0 < stride
  pub more : stride * get_or s (j - 1) 0 ≡ count_of (drop (j - 1) s)
  pub more_fits : stride * get_or s (j - 1) 0 < 2 ^ 64
  pub near : All (λ k. (k / stride) % get_or s (j - 1) 0 < step) numbers
  pub fits : All (λ k. (k / stride) % get_or s (j - 1) 0 + step < get_or s (j - 1) 0 → k + step * stride < 2 ^ 64) numbers
  pub added : AreReached s b (j - 1) (numbers ++ moved step stride (get_or s (j - 1) 0) numbers)
  pub none : get_or s (j - 1) 0 ≤ step → AreReached s b (j - 1) numbers

pub axis_step_of : (s : List ℕ) (b j step stride : ℕ) (numbers : List ℕ) → ((i : ℕ) → i < length s → 0 < get_or s i 0) → count_of s < 2 ^ 64 → b < 64
    → 0 < j → j ≤ length s → step ≡ 2 ^ b → stride ≡ count_of (drop j s) → AreReached s b j numbers
    → IsAxisStep s b j step stride numbers
axis_step_of s b j step stride numbers positive small few some_axis upto step_is stride_is h =
    let a = j - 1 in
    let e = length s - j in
    let next : j ≡ suc a = omega arith in
    let long : suc a + e ≡ length s = omega arith in
    let plus : a + 1 ≡ j = omega arith in
    let stride_suc : stride ≡ count_of (drop (suc a) s) = stride_is ∙ ap (λ n. count_of (drop n s)) next in
    let reached : AreReached s b (suc a) numbers = subst (λ n. AreReached s b n numbers) next h in
    let whole : count_of (drop a s) ≡ get_or s a 0 * count_of (drop j s) = rw plus at (count_of-drop s a (omega arith)) in
    let counted : 0 < count_of s = count_positive s positive in
    let inside = point_inside 0 s counted in
    let no_more : count_of (drop a s) ≤ count_of s = count_of_drop_le (point_of 0 s) s a inside in
    let rest : 0 < count_of (drop j s) =
    count_positive (drop j s) (λ i below. rw (get_or-drop j s i 0) (positive (j + i) (omega (arith, length-drop j s)))) in
    record {
      some = omega (arith, stride_is, rest);
      more = rw stride_is (omega (arith, whole));
      more_fits = rw stride_is (omega (arith, whole, no_more, small));
      near = rw (step_is, stride_suc) (near s a b e long few numbers reached);
      fits = rw (step_is, stride_suc) (fits s a b e long few numbers reached small);
      added = rw (step_is, stride_suc) (one_more s a b e long few numbers reached);
      none = λ short. none_more s a b e long few numbers reached (omega (arith, short, step_is));
    }

-- ---- the first bit, the next bit, and all bits
zero_point : (s : List ℕ) (y : ℕ) → 0 < count_of s → get_or (point_of 0 s) y 0 ≡ 0
zero_point s y some =
    elim (cases_lt y (length s)) [
      | inl inside ↦ point_of_at 0 s y (y + 1) some inside refl ∙ nothing (count_of (drop (y + 1) s)) (get_or s y 0)
      | inr past ↦ get_or_past (point_of 0 s) y 0 (omega (arith, length-point_of 0 s))
    ]
  where
    nothing : (d n : ℕ) → 0 / d % n ≡ 0
    nothing d n = omega arith

zeros_number : (c s : List ℕ) → length c ≡ length s → ((y : ℕ) → get_or c y 0 < 1) → number_of c s ≡ 0
zeros_number [] s e h = refl
zeros_number (x ∷ xs) [] e h = refl
zeros_number (x ∷ xs) (n ∷ ns) e h =
    let first : x ≡ 0 = omega (arith, h 0) in
    rw first (omega (arith, zeros_number xs ns (omega arith) (λ y. h (suc y))))

every_axis : (p : List ℕ) (w : ℕ) → 0 < w → ((y : ℕ) → y < length p → get_or p y 0 < w) → (y : ℕ) → get_or p y 0 < w
every_axis p w some h y =
    elim (cases_lt y (length p)) [ inl inside ↦ h y inside | inr past ↦ omega (arith, some, get_or_past p y 0 past) ]

pub first_reached : (s : List ℕ) → 0 < count_of s → AreReached s 0 (length s) (0 ∷ [])
first_reached s some = record {
  inside = ((some, record { front = λ y lt. omega (arith, zero_point s y some); every = λ y. omega (arith, zero_point s y some) }), tt);
  ascends = (tt, tt);
  all = λ k below reached.
      let p = point_of k s in
      let zeros : (y : ℕ) → get_or p y 0 < 1 = every_axis p 1 (omega arith) (λ y lt. reached.front y (omega (arith, length-point_of k s))) in
      let is : 0 ≡ k = sym (zeros_number p s (length-point_of k s) zeros) ∙ number_of-point_of k s below in
      (0, omega arith, is);
}

pub next_bit : (s : List ℕ) (b : ℕ) (numbers : List ℕ) → AreReached s b 0 numbers → AreReached s (b + 1) (length s) numbers
next_bit s b numbers h = record {
  inside = all_weaker (λ k. (k < count_of s) × IsReached b 0 (point_of k s)) (λ k. (k < count_of s) × IsReached (b + 1) (length s) (point_of k s)) numbers
      (λ k l. (
        l.0,
        record {
          front = λ y lt. l.1.every y;
          every = λ y. let next : b + 1 + 1 ≡ suc (b + 1) = omega arith in omega (arith, l.1.every y, ap (λ n. 2 ^ n) next, pow-suc 2 (b + 1));
        },
      )) h.inside;
  ascends = h.ascends;
  all = λ k below reached. h.all k below (record {
    front = λ y lt. absurd (omega arith);
    every = every_axis (point_of k s) (2 ^ (b + 1)) (pow_pos (b + 1)) (λ y lt. reached.front y (omega (arith, length-point_of k s)));
  });
}

pub all_reached : (s : List ℕ) (b : ℕ) (numbers : List ℕ) → ((y : ℕ) → y < length s → get_or s y 0 ≤ 2 ^ b) → AreReached s b (length s) numbers
    → numbers ≡ numbers_in_order Morton s
unfolding numbers_in_order
all_reached s b numbers enough h =
    let n = count_of s in
    let code : ℕ → ℕ = λ k. morton_code (point_of k s) in
    let below : AllByRecursion (λ k. k < n) numbers =
    all_weaker (λ k. (k < n) × IsReached b (length s) (point_of k s)) (λ k. k < n) numbers (λ k l. l.0) h.inside in
    let small : (k : ℕ) → k < n → (y : ℕ) → y < length s → get_or (point_of k s) y 0 < 2 ^ b =
    λ k lt y inside. omega (arith, enough y inside, below_axis (point_of k s) s y (point_inside k s lt) inside) in
    let all : (k : ℕ) → k < n → Has numbers k =
    λ k lt. has_contained numbers k (h.all k lt (record {
      front = λ y inside. small k lt y inside;
      every = let next : b + 1 ≡ suc b = omega arith in
          every_axis (point_of k s) (2 ^ (b + 1)) (pow_pos (b + 1))
          (λ y inside. omega (arith, small k lt y (omega (arith, inside, length-point_of k s)), ap (λ m. 2 ^ m) next, pow-suc 2 b));
    })) in
    sorted_is code n (λ j k. is_before (point_of j s) (point_of k s))
    (λ j k _ _. before_tells (point_of j s) (point_of k s) (length-point_of j s ∙ sym (length-point_of k s)))
    (λ j k j_below k_below same. one_code code numbers j k h.ascends (all j j_below) (all k k_below) same)
    numbers h.ascends below all

-- ---- where the Z-curve ascends
code_on_axis : (n x : ℕ) → binary (interleaved_bits n (x ∷ [])) ≡ x % 2 ^ n
code_on_axis zero x = omega arith
code_on_axis (suc n) x =
    let next : suc n ≡ 1 + n = omega arith in
    let long : 2 ^ length (interleaved_bits n (x ∷ [])) ≡ 2 ^ n = ap (λ m. 2 ^ m) (length-interleaved n (x ∷ []) ∙ times_one n) in
    let product = ap (λ w. bit_at x n * w) long in
    let split : x % 2 ^ suc n ≡ (x / 2 ^ n % 2 ^ 1) * 2 ^ n + x % 2 ^ n = ap (λ m. x % 2 ^ m) next ∙ mod-pow-add x 1 n in
    omega (arith, product, code_on_axis n x, split)
  where
    times_one : (n : ℕ) → n * 1 ≡ n
    times_one n = omega arith

one_axis : (n k : ℕ) → k < n → n < 2 ^ 64 → morton_code (point_of k (n ∷ [])) ≡ k
unfolding morton_code
one_axis n k below small =
    let whole : k / 1 ≡ k = omega arith in
    ap (λ x. binary (interleaved_bits 64 (x ∷ []))) whole ∙ code_on_axis 64 k ∙ mod-eq_of_lt (omega arith)

range_ascends : (f : ℕ → ℕ) (s m : ℕ) → ((k : ℕ) → k < s + m → f k ≡ k) → Ascends f (range_with_len s m) × AllByRecursion (λ k. (s ≤ k) × (k < s + m)) (range_with_len s m)
range_ascends f s zero same = (tt, tt)
range_ascends f s (suc m) same =
    let rest = range_ascends f (s + 1) m (λ k below. same k (omega arith)) in (
      (all_weaker (λ k. (s + 1 ≤ k) × (k < s + 1 + m)) (λ k. f s < f k) (range_with_len (s + 1) m) (λ k h. omega (arith, h.0, same s (omega arith), same k (omega (arith, h.1)))) rest.1, rest.0),
      ((omega arith, omega arith), all_weaker (λ k. (s + 1 ≤ k) × (k < s + 1 + m)) (λ k. (s ≤ k) × (k < s + suc m)) (range_with_len (s + 1) m) (λ k h. (omega (arith, h.0), omega (arith, h.1))) rest.1),
    )

plain : (k : ℕ) → 0 + k ≡ k
plain k = omega arith

along_one_axis : (n : ℕ) → n * 1 < 2 ^ 64 → range_with_len 0 (n * 1) ≡ numbers_in_order Morton (n ∷ [])
unfolding numbers_in_order
along_one_axis n small =
    let s = n ∷ [] in
    let m = n * 1 in
    let code : ℕ → ℕ = λ k. morton_code (point_of k s) in
    let code_is : (k : ℕ) → k < 0 + m → code k ≡ k = λ k below. one_axis n k (omega arith) (omega arith) in
    let made = range_ascends code 0 m code_is in
    sorted_is code m (λ j k. is_before (point_of j s) (point_of k s))
    (λ j k _ _. before_tells (point_of j s) (point_of k s) refl)
    (λ j k j_below k_below same. sym (code_is j (omega arith)) ∙ same ∙ code_is k (omega arith))
    (range_with_len 0 m) made.0 (all_weaker (λ k. (0 ≤ k) × (k < 0 + m)) (λ k. k < m) (range_with_len 0 m) (λ k h. omega (arith, h.1)) made.1)
    (λ k below. has_at (range_with_len 0 m) k k (omega (arith, length-range_with_len 0 m)) (get_or-range_with_len 0 m k k below ∙ plain k))

one_subchunk : (s : List ℕ) (n : ℕ) → n ≡ count_of s → 0 < n → n < 2 → range_with_len 0 n ≡ numbers_in_order Morton s
unfolding numbers_in_order
one_subchunk s n is some few = let one : n ≡ 1 = omega arith in rw (← is, one) refl

pub ascends_by_itself : (s : List ℕ) (n : ℕ) → n ≡ count_of s → 0 < n → n < 2 ^ 64 → (length s < 2) ⊎ (n < 2) → range_with_len 0 n ≡ numbers_in_order Morton s
ascends_by_itself [] n is some small h = one_subchunk [] n is some (omega arith)
ascends_by_itself (a ∷ []) n is some small h = rw is (along_one_axis a (omega (arith, is)))
ascends_by_itself (a ∷ b ∷ s) n is some small h = elim h [ inl few ↦ absurd (omega (arith, few)) | inr one ↦ one_subchunk (a ∷ b ∷ s) n is some one ]
