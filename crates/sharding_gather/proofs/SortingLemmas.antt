-- Asked cells in the order of their subchunks, and the run of those that lie in one.
use Rattle.std.proofs.Common.{◌≡◌, ◌≢◌, ℕ, ◌+◌, ◌-◌, ◌<◌, ◌≤◌, Bool, true, false, not, ◌&&◌, eqb, List, [], ◌∷◌, ◌++◌, length, map, get_or, take, drop, zero, suc, add-one, cond, subst, refl, ap, sym, ◌∙◌, arith, inl, inr}
use Rattle.std.proofs.lemmas.Bool.{cases_lt, cases_eq, eq-eqb, ne_eqb, lt-ltb, le-ltb}
use Rattle.std.proofs.lemmas.List.{append-nil, map-append, take-append-drop, get_or-take, get_or-drop, length-take-le, length-drop, take_all}
use Rattle.std.proofs.lemmas.List.Elements.{All-head, All-tail, All-from_get_or, filter-append, filter_agree}
use Rattle.std.proofs.lemmas.List.FromFn.{filter_of_map_range_with_len_more, map-range_with_len_more, length-map-range_with_len, get_or-map-range_with_len}
use Rattle.std.proofs.lemmas.List.Sorted.{All-permutation, Contains-permutation}
use Rattle.std.specs.List.{All, filter, range_with_len}
use Rattle.std.specs.List.Sorted.{IsNonDecreasingBy, IsPermutation, IsStableByKey, ties}
use Rattle.std.specs.Ordering.{is_lt, nat_cmp}
use Rattle.std.specs.declared.cmp.Ordering.TheVariants.{Equal, Greater}
use Rattle.sharding_format.specs.ReadRefusals.{positions_in}
use Rattle.sharding_gather.specs.steps.Sorting.{requested_cell, requested_at, AreSorted, IsWritten}
use Rattle.sharding_gather.specs.declared.sorted.RequestedCell.{RequestedCell}
use Rattle.sharding_gather.proofs.GroupingLemmas.{positions_more}

-- one more value of a function
pub values_more : {X : Type 0} (f : ℕ → X) (xs ys : List X) (x : X) (i : ℕ) → xs ≡ map f (range_with_len 0 i) → ys ≡ xs ++ x ∷ [] → x ≡ f i → ys ≡ map f (range_with_len 0 (i + 1))
values_more f xs ys x i so_far grown is =
    grown ∙ ap (λ t. t ++ x ∷ []) so_far ∙ ap (λ t. map f (range_with_len 0 i) ++ t ∷ []) is ∙ sym (map-range_with_len_more f 0 i i (omega arith))

abbrev pub cell_of : ℕ → ℕ → ℕ → RequestedCell
cell_of k p rank = record { subchunk = k; position = p; rank = rank }

-- cells with one subchunk and one place
pub same_cell : (k l p q rank : ℕ) → k ≡ l → p ≡ q → cell_of k p rank ≡ cell_of l q rank
same_cell k l p q rank same_subchunk same_position = ap (λ n. cell_of n p rank) same_subchunk ∙ ap (λ n. cell_of l n rank) same_position

-- a test that all pass, and one that none passes
pub filter_all : {X : Type 0} (p : X → Bool) (xs : List X) → All (λ x. p x ≡ true) xs → filter p xs ≡ xs
filter_all p [] h = refl
filter_all p (x ∷ xs) h = rw (All-head (λ x. p x ≡ true) x xs h, filter_all p xs (All-tail (λ x. p x ≡ true) x xs h)) refl

pub filter_none : {X : Type 0} (p : X → Bool) (xs : List X) → All (λ x. p x ≡ false) xs → filter p xs ≡ []
filter_none p [] h = refl
filter_none p (x ∷ xs) h = rw (All-head (λ x. p x ≡ false) x xs h, filter_none p xs (All-tail (λ x. p x ≡ false) x xs h)) refl

abbrev of_subchunk : ℕ → RequestedCell → Bool
of_subchunk k cell = eqb cell.subchunk k

not_less : (b : Bool) → is_lt (cond b Equal Greater) ≡ false
not_less true = refl
not_less false = refl

-- a cell ties with one of subchunk k where it is of that subchunk
ties_subchunk : (k s : ℕ) → not (is_lt (nat_cmp k s)) && not (is_lt (nat_cmp s k)) ≡ eqb s k
ties_subchunk k s =
    elim (cases_eq s k) [
      | inl same ↦ rw (le-ltb k s (omega arith), le-ltb s k (omega arith), not_less (eqb k s), not_less (eqb s k), eq-eqb s k same) refl
      | inr other ↦ elim (cases_lt k s) [
        | inl above ↦ rw (lt-ltb k s above, ne_eqb s k other) refl
        | inr below ↦ rw (le-ltb k s below, not_less (eqb k s), lt-ltb s k (omega (arith, below, other)), ne_eqb s k other) refl
      ]
    ]

map_one : (b : Bool) (x : RequestedCell) → map (λ (cell : RequestedCell). cell.position) (cond b (x ∷ []) []) ≡ cond b (x.position ∷ []) []
map_one true x = refl
map_one false x = refl

-- the places of the first n cells, before they are sorted
positions_of_cells : (shape sub numbers : List ℕ) (k n : ℕ) → n ≤ length numbers
    → map (λ (cell : RequestedCell). cell.position) (filter (of_subchunk k) (map (requested_cell shape sub numbers) (range_with_len 0 n))) ≡ positions_in shape sub (take n numbers) k
positions_of_cells shape sub numbers k zero le = refl
positions_of_cells shape sub numbers k (suc n) le =
    let position : RequestedCell → ℕ = λ cell. cell.position in
    let f = requested_cell shape sub numbers in
    let Holds : ℕ → Type 0 = λ m. map position (filter (of_subchunk k) (map f (range_with_len 0 m))) ≡ positions_in shape sub (take m numbers) k in
    subst Holds (add-one n)
    (ap (map position) (filter_of_map_range_with_len_more (of_subchunk k) f 0 n n (omega arith))
    ∙ map-append position (filter (of_subchunk k) (map f (range_with_len 0 n))) (cond (of_subchunk k (f n)) (f n ∷ []) [])
    ∙ ap (λ t. t ++ map position (cond (of_subchunk k (f n)) (f n ∷ []) [])) (positions_of_cells shape sub numbers k n (omega arith))
    ∙ ap (λ t. positions_in shape sub (take n numbers) k ++ t) (map_one (of_subchunk k (f n)) (f n))
    ∙ sym (positions_more shape sub numbers n k (of_subchunk k (f n)) (omega arith) refl))

-- a stable sort by their subchunks puts all requested cells in order
pub sorted_from_stable : (shape sub numbers : List ℕ) (cells requested : List RequestedCell) → cells ≡ map (requested_cell shape sub numbers) (range_with_len 0 (length numbers)) → IsPermutation cells requested
    → IsNonDecreasingBy (λ cell. cell.subchunk) requested → IsStableByKey (λ cell. cell.subchunk) nat_cmp cells requested → AreSorted shape sub numbers requested
sorted_from_stable shape sub numbers cells requested are moved rising stable =
    let f = requested_cell shape sub numbers in
    let position : RequestedCell → ℕ = λ cell. cell.position in
    let OfCells : RequestedCell → Type 0 = λ cell. (cell.rank < length numbers) × (cell ≡ f cell.rank) in
    let none : RequestedCell = record { subchunk = 0; position = 0; rank = 0 } in
    let many = length-map-range_with_len f 0 (length numbers) in
    let each : All OfCells (map f (range_with_len 0 (length numbers))) =
    All-from_get_or OfCells (map f (range_with_len 0 (length numbers))) none (λ i lt.
    let below : i < length numbers = omega (arith, many) in
    rw (get_or-map-range_with_len f 0 (length numbers) i i none below (omega arith)) (below, refl)) in
    record {
      rising = rising;
      positions = λ k.
          ap (map position)
          (sym (filter_agree (ties (λ x y. is_lt (nat_cmp x.subchunk y.subchunk)) (record { subchunk = k; position = 0; rank = 0 })) (of_subchunk k) (λ cell. ties_subchunk k cell.subchunk) requested)
          ∙ stable (record { subchunk = k; position = 0; rank = 0 })
          ∙ filter_agree (ties (λ x y. is_lt (nat_cmp x.subchunk y.subchunk)) (record { subchunk = k; position = 0; rank = 0 })) (of_subchunk k) (λ cell. ties_subchunk k cell.subchunk) cells
          ∙ ap (filter (of_subchunk k)) are)
          ∙ positions_of_cells shape sub numbers k (length numbers) (omega arith)
          ∙ ap (λ is. positions_in shape sub is k) (take_all (length numbers) numbers (omega arith));
      each = All-permutation OfCells cells requested moved (rw are each);
      all = λ i lt. Contains-permutation cells requested (f i) moved
          (rw are (i, omega (arith, many), get_or-map-range_with_len f 0 (length numbers) i i (f i) lt (omega arith)));
    }

-- a run of cells from place i on: all cells of a subchunk, and no others
pub record IsRun (requested : List RequestedCell) (i n : ℕ) : Type 0 where
  pub some : 0 < n
  pub within : i + n ≤ length requested
  pub lower : (a : ℕ) → a < i → (requested_at requested a).subchunk < (requested_at requested i).subchunk
  pub same : (a : ℕ) → i ≤ a → a < i + n → (requested_at requested a).subchunk ≡ (requested_at requested i).subchunk
  pub higher : (a : ℕ) → i + n ≤ a → a < length requested → (requested_at requested i).subchunk < (requested_at requested a).subchunk

-- the first cells of what is left are a run
pub run_from_first : (requested : List RequestedCell) (i n : ℕ) → IsNonDecreasingBy (λ (cell : RequestedCell). cell.subchunk) requested → i < length requested → 0 < n → n ≤ length (drop i requested)
    → ((a : ℕ) → a < i → (requested_at requested a).subchunk < (requested_at requested i).subchunk)
    → ((a : ℕ) → a < n → (requested_at (drop i requested) a).subchunk ≡ (requested_at (drop i requested) 0).subchunk)
    → (n < length (drop i requested) → (requested_at (drop i requested) n).subchunk ≢ (requested_at (drop i requested) 0).subchunk) → IsRun requested i n
run_from_first requested i n rising lt some within lower same other =
    let none = cell_of 0 0 0 in
    let long = length-drop i requested in
    let subchunk : RequestedCell → ℕ = λ cell. cell.subchunk in
    let first : (requested_at (drop i requested) 0).subchunk ≡ (requested_at requested i).subchunk = ap subchunk (get_or-drop i requested 0 none) ∙ ap (λ a. (requested_at requested a).subchunk) (omega arith) in
    record {
      some = some;
      within = omega (arith, long);
      lower = lower;
      same = λ a le below.
          let b = a - i in
          let at : i + b ≡ a = omega (arith, le) in
          ap (λ c. (requested_at requested c).subchunk) (sym at) ∙ (ap subchunk (sym (get_or-drop i requested b none)) ∙ (same b (omega (arith, le, below)) ∙ first));
      higher = λ a le below.
          let next = ap subchunk (get_or-drop i requested n none) in
          let differs : (requested_at requested (i + n)).subchunk ≢ (requested_at requested i).subchunk = λ e. other (omega (arith, long, le, below)) (next ∙ (e ∙ sym first)) in
          let up = rising i (i + n) none (omega arith) (omega (arith, le, below)) in
          let far = rising (i + n) a none le below in
          omega (arith, differs, up, far);
    }

-- the places of a run are those that are asked of its subchunk
pub run_positions : (shape sub numbers : List ℕ) (requested : List RequestedCell) (i n : ℕ) → AreSorted shape sub numbers requested → IsRun requested i n
    → map (λ (cell : RequestedCell). cell.position) (take n (drop i requested)) ≡ positions_in shape sub numbers (requested_at requested i).subchunk
run_positions shape sub numbers requested i n sorted run =
    let none = cell_of 0 0 0 in
    let k = (requested_at requested i).subchunk in
    let test : RequestedCell → Bool = of_subchunk k in
    let Passes : RequestedCell → Type 0 = λ cell. test cell ≡ true in
    let Fails : RequestedCell → Type 0 = λ cell. test cell ≡ false in
    let position : RequestedCell → ℕ = λ cell. cell.position in
    let rest = drop i requested in
    let long = length-drop i requested in
    let at : (j : ℕ) → get_or rest j none ≡ requested_at requested (i + j) = λ j. get_or-drop i requested j none in
    let before : filter test (take i requested) ≡ [] = filter_none test (take i requested) (All-from_get_or Fails (take i requested) none (λ a lt.
    let below : a < i = omega (arith, length-take-le i requested (omega (arith, run.within))) in
    rw (get_or-take i requested a none below) (ne_eqb _ _ (λ e. omega (arith, e, run.lower a below))))) in
    let among : filter test (take n rest) ≡ take n rest = filter_all test (take n rest) (All-from_get_or Passes (take n rest) none (λ a lt.
    let below : a < n = omega (arith, lt, length-take-le n rest (omega (arith, long, run.within))) in
    rw (get_or-take n rest a none below, at a) (eq-eqb _ _ (run.same (i + a) (omega arith) (omega (arith, below)))))) in
    let after : filter test (drop n rest) ≡ [] = filter_none test (drop n rest) (All-from_get_or Fails (drop n rest) none (λ a lt.
    let below : i + (n + a) < length requested = omega (arith, lt, length-drop n rest, long) in
    rw (get_or-drop n rest a none, at (n + a)) (ne_eqb _ _ (λ e. omega (arith, e, run.higher (i + (n + a)) (omega arith) below))))) in
    let all : filter test requested ≡ take n rest =
    ap (filter test) (sym (take-append-drop i requested)) ∙ (filter-append test (take i requested) rest
    ∙ (ap (λ t. t ++ filter test rest) before
    ∙ (ap (filter test) (sym (take-append-drop n rest)) ∙ (filter-append test (take n rest) (drop n rest)
    ∙ (ap (λ t. filter test (take n rest) ++ t) after ∙ (append-nil (filter test (take n rest)) ∙ among)))))) in
    ap (map position) (sym all) ∙ sorted.positions k

-- before any cell is written
pub written_none : {X : Type 0} (requested : List RequestedCell) (old update : ℕ → X) → IsWritten requested 0 old update old
written_none requested old update = record {
  inside = λ r lt. absurd (omega (arith, lt));
  outside = λ i other. refl;
}

-- one more cell
pub written_more : {X : Type 0} (requested : List RequestedCell) (n : ℕ) (first old update new : ℕ → X) → IsWritten requested n first update old
    → new (requested_at requested n).rank ≡ update n → ((i : ℕ) → i ≢ (requested_at requested n).rank → new i ≡ old i) → IsWritten requested (n + 1) first update new
written_more requested n first old update new so_far written others =
    let rank : ℕ → ℕ = λ r. (requested_at requested r).rank in
    record {
      inside = λ r lt. elim (cases_eq (rank r) (rank n)) [
        | inl same ↦ (n, omega arith, sym same, ap new same ∙ written)
        | inr other ↦
            let before : r < n = omega (arith, lt, λ (e : r ≡ n). other (ap rank e)) in
            let found = so_far.inside r before in
            (found.0, omega (arith, found.1), found.2, others (rank r) other ∙ found.3)
      ];
      outside = λ i apart.
          others i (λ e. apart n (omega arith) (sym e)) ∙ so_far.outside i (λ r lt. apart r (omega (arith, lt)));
    }

-- its first cell, and how many there are
pub run_first : (requested : List RequestedCell) (i n : ℕ) → 0 < n → requested_at (take n (drop i requested)) 0 ≡ requested_at requested i
run_first requested i n some = get_or-take n (drop i requested) 0 (cell_of 0 0 0) some ∙ (get_or-drop i requested 0 (cell_of 0 0 0) ∙ ap (requested_at requested) (omega arith))

pub run_counted : (requested : List RequestedCell) (i n : ℕ) → n ≤ length (drop i requested) → length (take n (drop i requested)) ≡ n
run_counted requested i n within = length-take-le n (drop i requested) within
