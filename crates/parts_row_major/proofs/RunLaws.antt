-- The points of a subset whose numbers follow one another.
use Rattle.std.proofs.Common.{◌≡◌, ℕ, zero, suc, ◌+◌, ◌-◌, ◌*◌, ◌/◌, ◌%◌, ◌<◌, ◌≤◌, List, [], ◌∷◌, ◌++◌, length, get_or, take, drop, refl, ap, sym, ◌∙◌, arith, map, append_assoc}
use Rattle.std.proofs.lemmas.List.{drop_all, same_lists, append-nil, map-append, take_at, drop_at, length-append}
use Rattle.std.proofs.lemmas.List.FromFn.{length-range_with_len, get_or-range_with_len, length-map-range_with_len, get_or-map-range_with_len, map-range_with_len_more}
use Rattle.std.proofs.lemmas.List.Concat.{flat_map-append}
use Rattle.std.proofs.lemmas.Nat.{row_fits, mul-add-lt, div-mul-add, mod-mul-add, div-add-mod', mod_below, mul-le}
use Rattle.std.proofs.lemmas.List.Elements.{All-map, All-head, All-rest, All-from_get_or, All-weaker}
use Rattle.std.proofs.Math.Nat.{div-eq_of_eq-mul_left}
use Rattle.std.specs.List.{All, AllZip, range_with_len, flat_map}
use Rattle.parts_row_major.specs.Numbering.{count_of, number_of, point_of, zip_with}
use Rattle.parts_row_major.specs.Subsets.{Subset, IsSubset, LiesIn, number_in, numbers_in}
use Rattle.parts_row_major.specs.Pieces.{IsUpdated}
use Rattle.parts_row_major.specs.Runs.{IsRunLength, runs_from, runs_end_to_end, AreLeft, IsPartly}
use Rattle.parts_row_major.proofs.NumberingLaws.{rest_positive, both_positive, le_product, count_of-drop, number_of-point_of, length-point_of}
use Rattle.parts_row_major.proofs.PointLaws.{count_split}
use Rattle.parts_row_major.proofs.PieceLaws.{number_in_below, same_point, updated_none, updated_run}

-- a subset that spans every axis starts at 0, so its points are those of the shape
pub spanned_points : (start shape : List ℕ) (point : List ℕ) → length start ≡ length shape → length point ≡ length shape → AllZip ◌≤◌ (zip_with ◌+◌ start shape) shape → zip_with ◌+◌ start point ≡ point
spanned_points [] [] [] e g h = refl
spanned_points [] [] (c ∷ cs) e g h = absurd (omega arith)
spanned_points [] (n ∷ ns) point e g h = absurd (omega arith)
spanned_points (a ∷ more) [] point e g h = absurd (omega arith)
spanned_points (a ∷ more) (n ∷ ns) [] e g h = absurd (omega arith)
spanned_points (a ∷ more) (n ∷ ns) (c ∷ cs) e g h =
    let z : a + c ≡ c = omega (arith, h.0) in
    rw (z, spanned_points more ns cs (omega arith) (omega arith) h.1) refl

-- whole blocks and what is over them
pub blocks : (q r m run c : ℕ) → 0 < m → r < run → c ≡ m * run → ((q * run + r) / c ≡ q / m) × ((q * run + r) % c ≡ (q % m) * run + r)
blocks q r m run c pm lt e =
    let whole = div-add-mod' q m in
    let d = q / m in
    let b = q % m in
    let below : b * run + r < run * m = mul-add-lt b run r m (mod_below q m pm) lt in
    let split : q * run + r ≡ d * c + (b * run + r) = rw e (omega (arith, ap (λ x. x * run) whole)) in
    let small : b * run + r < c = omega (arith, below, e) in
    (ap (λ x. x / c) split ∙ div-mul-add d c (b * run + r) small, ap (λ x. x % c) split ∙ mod-mul-add d c (b * run + r) small)

pub whole_blocks : (q m run c : ℕ) → 0 < m → 0 < run → c ≡ m * run → ((q * run) / c ≡ q / m) × ((q * run) % c ≡ (q % m) * run)
whole_blocks q m run c pm pr e =
    let none : q * run + 0 ≡ q * run = omega arith in
    let none_left : (q % m) * run + 0 ≡ (q % m) * run = omega arith in
    let both = blocks q 0 m run c pm pr e in
    (ap (λ x. x / c) (sym none) ∙ both.0, ap (λ x. x % c) (sym none) ∙ (both.1 ∙ none_left))

pub spanned_number : (start shape : List ℕ) (i : ℕ) → length start ≡ length shape → AllZip ◌≤◌ (zip_with ◌+◌ start shape) shape → i < count_of shape → number_of (zip_with ◌+◌ start (point_of i shape)) shape ≡ i
spanned_number start shape i e h lt =
    ap (λ c. number_of c shape) (spanned_points start shape (point_of i shape) e (length-point_of i shape) h) ∙ number_of-point_of i shape lt

pub whole_number : (a i : ℕ) (start shape : List ℕ) → length start ≡ length shape → AllZip ◌≤◌ (zip_with ◌+◌ start shape) shape → 0 < count_of shape
    → (a + i / count_of shape) * count_of shape + number_of (zip_with ◌+◌ start (point_of (i % count_of shape) shape)) shape ≡ a * count_of shape + i
whole_number a i start shape e h pos =
    omega (arith, spanned_number start shape (i % count_of shape) e h (mod_below i (count_of shape) pos), div-add-mod' i (count_of shape))

-- numbers of the points of one run follow one another
pub run_step : (start len shape : List ℕ) (axis q r : ℕ) → length start ≡ length len → AllZip ◌≤◌ (zip_with ◌+◌ start len) shape
    → drop (axis + 1) len ≡ drop (axis + 1) shape → r < count_of (drop axis len) → q * count_of (drop axis len) + r < count_of len
    → number_of (zip_with ◌+◌ start (point_of (q * count_of (drop axis len) + r) len)) shape ≡ number_of (zip_with ◌+◌ start (point_of (q * count_of (drop axis len)) len)) shape + r
run_step [] [] shape axis q r e h same lt below =
    let one : count_of (drop axis []) ≡ 1 = ap count_of (drop_all {X = ℕ} axis [] (omega arith)) in
    omega arith
run_step [] (n ∷ ns) shape axis q r e h same lt below = absurd (omega arith)
run_step (a ∷ more) [] shape axis q r e h same lt below = absurd (omega arith)
run_step (a ∷ more) (n ∷ ns) [] axis q r e h same lt below = elim h [ ]
run_step (a ∷ more) (n ∷ ns) (s ∷ ss) zero q r e h same lt below =
    let spanned : ns ≡ ss = same in
    let inside = rw (← spanned) at h.1 in
    let run = n * count_of ns in
    let positive = both_positive n (count_of ns) (omega arith) in
    let last = whole_number a (q * run + r) more ns (omega arith) inside positive.1 in
    let first = whole_number a (q * run) more ns (omega arith) inside positive.1 in
    rw (← spanned) (omega (arith, last, first))
run_step (a ∷ more) (n ∷ ns) (s ∷ ss) (suc axis) q r e h same lt below =
    let next : suc axis + 1 ≡ suc (axis + 1) = omega arith in
    let spanned : drop (axis + 1) ns ≡ drop (axis + 1) ss = rw next at same in
    let run = count_of (drop axis ns) in
    let m = count_of (take axis ns) in
    let c = sym (count_split ns axis) in
    let pc : 0 < count_of ns = rest_positive (q * run + r) n (count_of ns) below in
    let positive = both_positive m run (omega (arith, c)) in
    let last = blocks q r m run (count_of ns) positive.0 lt c in
    let first = whole_blocks q m run (count_of ns) positive.0 positive.1 c in
    let small : (q % m) * run + r < count_of ns = rw last.1 at (mod_below (q * run + r) (count_of ns) pc) in
    let step = run_step more ns ss axis (q % m) r (omega arith) h.1 spanned lt small in
    rw (last.0, last.1, first.0, first.1) (omega (arith, step))

pub tail_count_le : (s : List ℕ) (i : ℕ) → 0 < count_of s → count_of (drop i s) ≤ count_of s
tail_count_le s i pos =
    let split = count_split s i in
    let positive = both_positive (count_of (take i s)) (count_of (drop i s)) (omega (arith, split)) in
    let wide = le_product (count_of (take i s)) (count_of (drop i s)) (count_of (drop i s)) positive.0 (omega arith) in
    omega (arith, wide, split)

pub tail_step : (s : List ℕ) (i j k : ℕ) → i < length s → i + 1 ≡ j → k ≡ count_of (drop j s) → 0 < count_of s → k * get_or s i 0 ≤ count_of s
tail_step s i j k lt e ke pos =
    let here : k ≡ count_of (drop (i + 1) s) = rw e ke in
    let le = tail_count_le s i pos in
    rw here (omega (arith, count_of-drop s i lt, le))

-- ---- runs laid end to end
pub range_split : (a n k : ℕ) → range_with_len a (n + k) ≡ range_with_len a n ++ range_with_len (a + n) k
range_split a zero k =
    let z : zero + k ≡ k = omega arith in
    let w : a + zero ≡ a = omega arith in
    rw (z, w) refl
range_split a (suc n) k =
    let s : suc n + k ≡ suc (n + k) = omega arith in
    let t : a + suc n ≡ a + 1 + n = omega arith in
    rw (s, t) (ap (λ xs. a ∷ xs) (range_split (a + 1) n k))

pub run_numbers : (f : ℕ → ℕ) (first run : ℕ) → ((r : ℕ) → r < run → f (first + r) ≡ f first + r) → map f (range_with_len first run) ≡ range_with_len (f first) run
run_numbers f first run follow =
    same_lists (map f (range_with_len first run)) (range_with_len (f first) run)
    (length-map-range_with_len f first run ∙ sym (length-range_with_len (f first) run))
    (λ k d lt.
    let small : k < run = omega (arith, length-map-range_with_len f first run) in
    get_or-map-range_with_len f first run k (first + k) d small refl
    ∙ (follow k small ∙ sym (get_or-range_with_len (f first) run k d small)))

pub end_to_end_runs : (f : ℕ → ℕ) (run many : ℕ) → ((q r : ℕ) → q < many → r < run → f (q * run + r) ≡ f (q * run) + r)
    → runs_end_to_end (map (λ i. (f (i * run), run)) (range_with_len 0 many)) ≡ map f (range_with_len 0 (many * run))
end_to_end_runs f run zero follow = let z : 0 * run ≡ 0 = omega arith in rw z refl
end_to_end_runs f run (suc m) follow =
    let e : suc m ≡ m + 1 = omega arith in
    let before = end_to_end_runs f run m (λ q r lt small. follow q r (omega arith) small) in
    let last = run_numbers f (m * run) run (λ r small. follow m r (omega arith) small) in
    let whole : suc m * run ≡ m * run + run = omega arith in
    let start : 0 + m * run ≡ m * run = omega arith in
    let pair : ℕ → ℕ × ℕ = λ i. (f (i * run), run) in
    let left : runs_end_to_end (map pair (range_with_len 0 (suc m))) ≡ runs_end_to_end (map pair (range_with_len 0 m)) ++ range_with_len (f (m * run)) run =
    ap (λ k. runs_end_to_end (map pair (range_with_len 0 k))) e
    ∙ (ap runs_end_to_end (map-range_with_len_more pair 0 m m (omega arith))
    ∙ (flat_map-append (λ (r : ℕ × ℕ). range_with_len r.0 r.1) (map pair (range_with_len 0 m)) (pair m ∷ [])
    ∙ ap (λ xs. runs_end_to_end (map pair (range_with_len 0 m)) ++ xs) (append-nil (range_with_len (f (m * run)) run)))) in
    let right : map f (range_with_len 0 (suc m * run)) ≡ map f (range_with_len 0 (m * run)) ++ map f (range_with_len (m * run) run) =
    rw (whole, range_split 0 (m * run) run, start) (map-append f (range_with_len 0 (m * run)) (range_with_len (m * run) run)) in
    left ∙ (ap (λ xs. xs ++ range_with_len (f (m * run)) run) before ∙ (ap (λ xs. map f (range_with_len 0 (m * run)) ++ xs) (sym last) ∙ sym right))

pub runs_next : (subset : Subset) (shape : List ℕ) (run next many : ℕ) → next < many → runs_from subset shape run next many ≡ (number_in subset shape (next * run), run) ∷ runs_from subset shape run (next + 1) many
runs_next subset shape run next many lt =
    let e : many - next ≡ suc (many - (next + 1)) = omega arith in
    rw e refl

-- numbers of one run of a subset follow one another
pub run_follows : (subset : Subset) (shape : List ℕ) (run many : ℕ) → length subset.start ≡ length subset.shape → LiesIn subset shape → IsRunLength subset.shape shape run → many * run ≡ count_of subset.shape
    → (q r : ℕ) → q < many → r < run → number_in subset shape (q * run + r) ≡ number_in subset shape (q * run) + r
run_follows subset shape run many same inside long all q r lt small =
    let below : q * run + r < count_of subset.shape = omega (arith, all, row_fits q run many run lt (omega arith)) in
    rw long.2 (run_step subset.start subset.shape shape long.0 q r same inside long.1.later_spanned (omega (arith, long.2)) (rw long.2 at below))

-- each run of a subset ends within the shape
pub runs_within : (subset : Subset) (shape : List ℕ) (run many : ℕ) → length subset.start ≡ length subset.shape → LiesIn subset shape → IsRunLength subset.shape shape run → 0 < run → many * run ≡ count_of subset.shape
    → All (λ r. r.0 + r.1 ≤ count_of shape) (runs_from subset shape run 0 many)
runs_within subset shape run many same inside long some all =
    All-map (λ (r : ℕ × ℕ). r.0 + r.1 ≤ count_of shape) (λ i. (number_in subset shape (i * run), run)) (range_with_len 0 (many - 0))
    (All-from_get_or (λ i. number_in subset shape (i * run) + run ≤ count_of shape) (range_with_len 0 (many - 0)) 0 (λ k lt.
    let here = get_or-range_with_len 0 (many - 0) k 0 (omega (arith, length-range_with_len 0 (many - 0))) in
    let small : k < many = omega (arith, length-range_with_len 0 (many - 0)) in
    let follows = run_follows subset shape run many same inside long all k (run - 1) small (omega arith) in
    let last = number_in_below subset shape (k * run + (run - 1)) inside (omega (arith, all, row_fits k run many run small (omega arith))) in
    let at : number_in subset shape (k * run) + run ≤ count_of shape = omega (arith, follows, last) in
    let none : 0 + k ≡ k = omega arith in
    rw (here, none) at))

-- the runs of a subset are its numbers
pub runs_are_numbers : (subset : Subset) (shape : List ℕ) (run many : ℕ) → length subset.start ≡ length subset.shape → LiesIn subset shape → IsRunLength subset.shape shape run → many * run ≡ count_of subset.shape
    → runs_end_to_end (runs_from subset shape run 0 many) ≡ numbers_in subset shape
runs_are_numbers subset shape run many same inside long all =
    let none : many - 0 ≡ many = omega arith in
    let follow = run_follows subset shape run many same inside long all in
    rw (none, ← all) (end_to_end_runs (number_in subset shape) run many follow)

-- a run's length divides the subset's count
pub run_divides : (len shape : List ℕ) (run : ℕ) → IsRunLength len shape run → 0 < count_of len → (0 < run) × ((count_of len / run) * run ≡ count_of len)
run_divides len shape run long pos =
    let split = count_split len long.0 in
    let first = count_of (take long.0 len) in
    let whole : first * run ≡ count_of len = rw long.2 split in
    let positive = both_positive first run (omega (arith, whole)) in
    let quotient : count_of len / run ≡ first = div-eq_of_eq-mul_left positive.1 (sym whole) in
    (positive.1, rw quotient whole)

pub runs_are_long : (subset : Subset) (shape : List ℕ) (run next many : ℕ) → IsRunLength subset.shape shape run → All (λ r. IsRunLength subset.shape shape r.1) (runs_from subset shape run next many)
runs_are_long subset shape run next many long =
    All-map (λ r. IsRunLength subset.shape shape r.1) (λ i. (number_in subset shape (i * run), run)) (range_with_len next (many - next))
    (λ k d lt. long)

-- one run more is taken
pub runs_more : (f : ℕ → List ℕ) (part added after : List ℕ) (runs rest : List (ℕ × ℕ)) (first len : ℕ) → runs ≡ (first, len) ∷ rest → added ≡ flat_map f (range_with_len first len) → after ≡ part ++ added
    → after ++ flat_map f (runs_end_to_end rest) ≡ part ++ flat_map f (runs_end_to_end runs)
runs_more f part added after runs rest first len e a s =
    rw (s, e, a) (append_assoc part (flat_map f (range_with_len first len)) (flat_map f (runs_end_to_end rest))
    ∙ ap (λ xs. part ++ xs) (sym (flat_map-append f (range_with_len first len) (runs_end_to_end rest))))

-- the runs that are left, when the places before `done` are done
pub record LeftMore (position : ℕ → ℕ) (total done first len : ℕ) (rest : List (ℕ × ℕ)) : Type 0 where
  pub follow : (r : ℕ) → r < len → position (done + r) ≡ first + r
  pub left : AreLeft position total (done + len) rest

pub left_more : (position : ℕ → ℕ) (total done first len : ℕ) (runs rest : List (ℕ × ℕ)) → runs ≡ (first, len) ∷ rest → AreLeft position total done runs → LeftMore position total done first len rest
left_more position total done first len runs rest is h =
    let stored_slices : range_with_len first len ++ runs_end_to_end rest ≡ map position (range_with_len done (total - done)) = rw is at h.stored_slices in
    let m = total - (done + len) in
    let long : len + length (runs_end_to_end rest) ≡ total - done =
    omega (arith, ap length stored_slices, length-append (range_with_len first len) (runs_end_to_end rest), length-range_with_len first len, length-map-range_with_len position done (total - done)) in
    let split : total - done ≡ len + m = omega (arith, long, h.some) in
    let parts : map position (range_with_len done (total - done)) ≡ map position (range_with_len done len) ++ map position (range_with_len (done + len) m) =
    rw (split, range_split done len m) (map-append position (range_with_len done len) (range_with_len (done + len) m)) in
    let both = stored_slices ∙ parts in
    let this : range_with_len first len ≡ map position (range_with_len done len) =
    sym (take_at (range_with_len first len) (runs_end_to_end rest) len (length-range_with_len first len))
    ∙ (ap (take len) both ∙ take_at (map position (range_with_len done len)) (map position (range_with_len (done + len) m)) len (length-map-range_with_len position done len)) in
    let later : runs_end_to_end rest ≡ map position (range_with_len (done + len) m) =
    sym (drop_at (range_with_len first len) (runs_end_to_end rest) len (length-range_with_len first len))
    ∙ (ap (drop len) both ∙ drop_at (map position (range_with_len done len)) (map position (range_with_len (done + len) m)) len (length-map-range_with_len position done len)) in
    record {
      follow = λ r lt. sym (get_or-map-range_with_len position done len r (done + r) 0 lt refl) ∙ (ap (λ xs. get_or xs r 0) (sym this) ∙ get_or-range_with_len first len r 0 lt);
      left = record { stored_slices = later; some = omega (arith, long, h.some) };
    }

-- when no run is left, all is done
pub left_none : (position : ℕ → ℕ) (total done : ℕ) → AreLeft position total done [] → done ≡ total
left_none position total done h = omega (arith, h.some, ap length h.stored_slices, length-map-range_with_len position done (total - done))

-- each part of a run that fits is within the bytes
pub runs_fit : (count size bytes : ℕ) (runs : List (ℕ × ℕ)) → bytes ≡ count * size → All (λ run. run.0 + run.1 ≤ count) runs → All (λ run. (run.0 + run.1) * size ≤ bytes) runs
runs_fit count size bytes runs e h =
    All-weaker (λ (run : ℕ × ℕ). run.0 + run.1 ≤ count) (λ (run : ℕ × ℕ). (run.0 + run.1) * size ≤ bytes) (λ run le. omega (arith, e, mul-le (run.0 + run.1) size count size le (omega arith))) runs h

-- at first all runs are left
pub left_all : (subset : Subset) (shape : List ℕ) (runs : List (ℕ × ℕ)) → runs_end_to_end runs ≡ numbers_in subset shape → AreLeft (number_in subset shape) (count_of subset.shape) 0 runs
left_all subset shape runs stored_slices =
    let whole : count_of subset.shape - 0 ≡ count_of subset.shape = omega arith in
    record { stored_slices = rw whole stored_slices; some = omega arith }

-- the next of the runs that are left ends within the shape
pub next_within : (count first len : ℕ) (runs rest : List (ℕ × ℕ)) → runs ≡ (first, len) ∷ rest → All (λ run. run.0 + run.1 ≤ count) runs → first + len ≤ count
next_within count first len runs rest is h =
    All-head (λ (run : ℕ × ℕ). run.0 + run.1 ≤ count) (first, len) rest (rw is at h)

-- before the first run
pub partly_none : (subset : Subset) (shape : List ℕ) (runs : List (ℕ × ℕ)) (old update : ℕ → List ℕ) → runs_end_to_end runs ≡ numbers_in subset shape → All (λ run. run.0 + run.1 ≤ count_of shape) runs → IsPartly subset shape 0 runs old update old
partly_none subset shape runs old update stored_slices within = record {
  left = left_all subset shape runs stored_slices;
  within = within;
  so_far = updated_none (number_in subset shape) old update;
}

-- one run more is written
pub partly_more : (subset : Subset) (shape : List ℕ) (done first len : ℕ) (runs rest : List (ℕ × ℕ)) (old update new newer : ℕ → List ℕ) → IsSubset subset.start subset.shape → LiesIn subset shape
    → runs ≡ (first, len) ∷ rest → IsPartly subset shape done runs old update new
    → ((r : ℕ) → r < len → newer (first + r) ≡ update (done + r)) → ((i : ℕ) → i < first → newer i ≡ new i) → ((i : ℕ) → first + len ≤ i → newer i ≡ new i)
    → IsPartly subset shape (done + len) rest old update newer
partly_more subset shape done first len runs rest old update new newer well inside is known written before after =
    let m = left_more (number_in subset shape) (count_of subset.shape) done first len runs rest is known.left in
    let most = m.left.some in
    record {
      left = m.left;
      within = All-rest (λ (run : ℕ × ℕ). run.0 + run.1 ≤ count_of shape) (first, len) rest runs is known.within;
      so_far = updated_run done len first (number_in subset shape) old update new newer known.so_far
          (λ k r lt small e. let same = same_point subset shape k (done + r) well inside (omega arith) (omega arith) e in omega arith)
          m.follow written before after;
    }

-- the bounds of the next run, in elements and in bytes
pub record NextFits (subset : Subset) (shape : List ℕ) (done first len size : ℕ) : Type 0 where
  pub within : first + len ≤ count_of shape
  pub bytes : (first + len) * size ≤ count_of shape * size
  pub most : done + len ≤ count_of subset.shape
  pub update : (done + len) * size ≤ count_of subset.shape * size

pub next_fits : (subset : Subset) (shape : List ℕ) (done first len size : ℕ) (runs rest : List (ℕ × ℕ)) (old update new : ℕ → List ℕ) → runs ≡ (first, len) ∷ rest → IsPartly subset shape done runs old update new → NextFits subset shape done first len size
next_fits subset shape done first len size runs rest old update new is known =
    let m = left_more (number_in subset shape) (count_of subset.shape) done first len runs rest is known.left in
    let w = next_within (count_of shape) first len runs rest is known.within in
    record {
      within = w;
      bytes = mul-le (first + len) size (count_of shape) size w (omega arith);
      most = m.left.some;
      update = mul-le (done + len) size (count_of subset.shape) size m.left.some (omega arith);
    }

-- when no run is left
pub partly_all : (subset : Subset) (shape : List ℕ) (done : ℕ) (runs : List (ℕ × ℕ)) (old update new : ℕ → List ℕ) → runs ≡ [] → IsPartly subset shape done runs old update new → IsUpdated (count_of subset.shape) (number_in subset shape) old update new
partly_all subset shape done runs old update new is known =
    rw (left_none (number_in subset shape) (count_of subset.shape) done (rw is at known.left)) at known.so_far

-- the numbers of one run more of a subset
pub run_numbers_more : (made more : List ℕ) (runs rest : List (ℕ × ℕ)) (first len : ℕ) → runs ≡ (first, len) ∷ rest → more ≡ made ++ range_with_len first len → more ++ runs_end_to_end rest ≡ made ++ runs_end_to_end runs
run_numbers_more made more runs rest first len e is =
    rw (e, is) (append_assoc made (range_with_len first len) (runs_end_to_end rest))
