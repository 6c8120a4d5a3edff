-- The places of a subset's cells in a subchunk that it touches are those of the part where both meet.
use Rattle.std.proofs.Common.{◌≡◌, ◌≢◌, ℕ, zero, suc, ◌+◌, ◌<◌, ◌≤◌, ◌^◌, Bool, true, false, cond, eqb, List, [], ◌∷◌, length, map, get_or, refl, ap, sym, ◌∙◌, arith, inl, inr}
use Rattle.std.proofs.lemmas.Bool.{cases_lt, eq-eqb}
use Rattle.std.proofs.lemmas.Bool.Decides.{eqb_tells}
use Rattle.std.proofs.lemmas.List.{length-map, get_or-map}
use Rattle.std.proofs.lemmas.List.Elements.{length_all_zip, All-from_get_or, All-get_or, All-filter, filter_passes}
use Rattle.std.proofs.lemmas.List.Kept.{AllPairs-filter}
use Rattle.std.proofs.lemmas.List.FromFn.{get_or-map-range_with_len, length-map-range_with_len}
use Rattle.std.specs.List.{All, AllPairs, Contains, filter}
use Rattle.parts_row_major.specs.Numbering.{count_of}
use Rattle.parts_row_major.specs.Subsets.{Subset, IsSubset, LiesIn, number_in, numbers_in}
use Rattle.parts_subsets.specs.Grid.{Divides, grid_of, subchunk_number, position_number, cell_number, subset_of_subchunk}
use Rattle.parts_subsets.specs.Touched.{Touches}
use Rattle.parts_subsets.specs.Selections.{IsSelectionOf, subset_selection}
use Rattle.parts_row_major.proofs.CountLaws.{subset_count_le}
use Rattle.parts_row_major.proofs.SubsetLaws.{lies_in_length, length-points_of}
use Rattle.parts_row_major.proofs.PieceLaws.{number_in_below}
use Rattle.parts_subsets.proofs.TouchedLaws.{number_rising}
use Rattle.parts_subsets.proofs.GridLaws.{count-grid, at_least, position_number-below, cell_number-located, subchunk_number-cell_number, position_number-cell_number, subset_of_subchunk-axes, subset_of_subchunk-lies_in, number_in-subset_of_subchunk}
use Rattle.sharding_format.specs.ReadRefusals.{positions_in}
use Rattle.sharding_gather.specs.SubchunkOverlaps.{IsSubchunkOverlap}
use Rattle.sharding_gather.proofs.GroupingLemmas.{member_from_requested}

-- a list in which each number is below all later ones
abbrev Rising : List ℕ → Type 0
Rising xs = AllPairs (λ x y. x < y) xs

rising_tail : (x : ℕ) (xs : List ℕ) → Rising (x ∷ xs) → Rising xs
rising_tail x xs up i j d lt below = up (suc i) (suc j) d (omega arith) (omega arith)

first_least : (x : ℕ) (xs : List ℕ) (y : ℕ) → Rising (x ∷ xs) → Contains (x ∷ xs) y → x ≤ y
first_least x xs y up (zero, lt, is) = omega (arith, is)
first_least x xs y up (suc i, lt, is) = omega (arith, up 0 (suc i) y (omega arith) lt, is)

first_below : (x : ℕ) (xs : List ℕ) (y : ℕ) → Rising (x ∷ xs) → Contains xs y → x < y
first_below x xs y up (i, lt, is) = omega (arith, up 0 (suc i) y (omega arith) (omega (arith, lt)), is)

later : (x : ℕ) (xs : List ℕ) (y : ℕ) → Contains xs y → Contains (x ∷ xs) y
later x xs y (i, lt, is) = (suc i, omega (arith, lt), is)

not_first : (x : ℕ) (xs : List ℕ) (y : ℕ) → Contains (x ∷ xs) y → x < y → Contains xs y
not_first x xs y (zero, lt, is) less = absurd (omega (arith, is, less))
not_first x xs y (suc i, lt, is) less = (i, omega (arith, lt), is)

-- two lists that rise and have the same members are one
pub same_rising : (xs ys : List ℕ) → Rising xs → Rising ys → ((x : ℕ) → Contains xs x → Contains ys x) → ((y : ℕ) → Contains ys y → Contains xs y) → xs ≡ ys
same_rising [] [] up also there back = refl
same_rising [] (y ∷ ys) up also there back = let none = back y (0, omega arith, refl) in absurd (omega (arith, none.1))
same_rising (x ∷ xs) [] up also there back = let none = there x (0, omega arith, refl) in absurd (omega (arith, none.1))
same_rising (x ∷ xs) (y ∷ ys) up also there back =
    let one = first_least x xs y up (back y (0, omega arith, refl)) in
    let two = first_least y ys x also (there x (0, omega arith, refl)) in
    let same : x ≡ y = omega (arith, one, two) in
    let rest : xs ≡ ys =
    same_rising xs ys (rising_tail x xs up) (rising_tail y ys also)
    (λ z h. not_first y ys z (there z (later x xs z h)) (omega (arith, first_below x xs z up h, same)))
    (λ z h. not_first x xs z (back z (later y ys z h)) (omega (arith, first_below y ys z also h, same))) in
    ap (λ t. t ∷ xs) same ∙ ap (λ t. y ∷ t) rest

-- what passes a test is kept by a filter
Contains-filter : (p : ℕ → Bool) (xs : List ℕ) (x : ℕ) → Contains xs x → p x ≡ true → Contains (filter p xs) x
Contains-filter p [] x (i, lt, is) passes = absurd (omega (arith, lt))
Contains-filter p (y ∷ ys) x (zero, lt, is) passes =
    let here : p y ≡ true = ap p is ∙ passes in
    rw here (0, omega arith, is)
Contains-filter p (y ∷ ys) x (suc i, lt, is) passes =
    let rest = Contains-filter p ys x (i, omega (arith, lt), is) passes in
    elim (p y) as (λ b. Contains (cond b (y ∷ filter p ys) (filter p ys)) x) [
      | true ↦ later y (filter p ys) x rest
      | false ↦ rest
    ]

module _ (subset : Subset) (shape : List ℕ) where
  -- the number of a point of a subset
  pub numbers_at : (q d : ℕ) → q < count_of subset.shape → get_or (numbers_in subset shape) q d ≡ number_in subset shape q
  numbers_at q d lt = get_or-map-range_with_len (number_in subset shape) 0 (count_of subset.shape) q q d lt (omega arith)

  pub numbers_counted : length (numbers_in subset shape) ≡ count_of subset.shape
  numbers_counted = length-map-range_with_len (number_in subset shape) 0 (count_of subset.shape)

  -- these rise
  numbers_rising : IsSubset subset.start subset.shape → LiesIn subset shape → Rising (numbers_in subset shape)
  numbers_rising well inside i j d lt below =
      let small : j < count_of subset.shape = omega (arith, below, numbers_counted) in
      let axes = length_all_zip (λ first len. first + len < 2 ^ 64) subset.start subset.shape well in
      rw (numbers_at i d (omega (arith, lt, small)), numbers_at j d small) (number_rising subset.start subset.shape shape i j axes inside lt small)

  number_there : (q : ℕ) → q < count_of subset.shape → Contains (numbers_in subset shape) (number_in subset shape q)
  number_there q lt = (q, omega (arith, lt, numbers_counted), numbers_at q (number_in subset shape q) lt)

-- the places of cells of one subchunk rise with their numbers
position_rising : (shape sub : List ℕ) (k i j : ℕ) → Divides sub shape → k < count_of (grid_of shape sub) → i < count_of shape → j < count_of shape
    → subchunk_number shape sub i ≡ k → subchunk_number shape sub j ≡ k → i < j → position_number shape sub i < position_number shape sub j
position_rising shape sub k i j divides below li lj at_i at_j lt =
    let cell_i : cell_number shape sub k (position_number shape sub i) ≡ i = ap (λ s. cell_number shape sub s (position_number shape sub i)) (sym at_i) ∙ cell_number-located shape sub divides i li in
    let cell_j : cell_number shape sub k (position_number shape sub j) ≡ j = ap (λ s. cell_number shape sub s (position_number shape sub j)) (sym at_j) ∙ cell_number-located shape sub divides j lj in
    elim (cases_lt (position_number shape sub i) (position_number shape sub j)) [
      | inl less ↦ less
      | inr ge ↦ elim (cases_lt (position_number shape sub j) (position_number shape sub i)) [
        | inl more ↦
            let rises = number_rising (subset_of_subchunk shape sub k).start sub shape (position_number shape sub j) (position_number shape sub i) (subset_of_subchunk-axes shape sub k divides)
            (subset_of_subchunk-lies_in shape sub k divides below) more (position_number-below shape sub divides i li) in
            absurd (omega (arith, rises, lt, cell_i, cell_j, number_in-subset_of_subchunk shape sub k (position_number shape sub i), number_in-subset_of_subchunk shape sub k (position_number shape sub j)))
        | inr le ↦
            let same : position_number shape sub i ≡ position_number shape sub j = omega (arith, ge, le) in
            absurd (omega (arith, lt, cell_i, cell_j, ap (cell_number shape sub k) same))
      ]
    ]

-- a subchunk of which cells of a subset are asked is touched
pub touched_from_requested : (shape sub : List ℕ) (subset : Subset) (k : ℕ) → positions_in shape sub (numbers_in subset shape) k ≢ [] → Touches shape sub subset k
touched_from_requested shape sub subset k some =
    let found = member_from_requested shape sub (numbers_in subset shape) k some in
    let lt : found.0 < length (numbers_in subset shape) = omega (arith, found.1, length-map (numbers_in subset shape) (subchunk_number shape sub)) in
    let small : found.0 < count_of subset.shape = omega (arith, lt, numbers_counted subset shape) in
    (found.0, small, ap (subchunk_number shape sub) (sym (numbers_at subset shape found.0 0 small)) ∙ (sym (get_or-map (subchunk_number shape sub) (numbers_in subset shape) found.0 0 k lt) ∙ found.2))

module _ (shape sub : List ℕ) (subset : Subset) (k : ℕ) (divides : Divides sub shape) (below : k < count_of (grid_of shape sub)) (well : IsSubset subset.start subset.shape) (inside : LiesIn subset shape)
    (in_subchunk in_subset : Subset) (m : IsSubchunkOverlap shape sub subset k in_subchunk in_subset) where
  abbrev test : ℕ → Bool
  test i = eqb (subchunk_number shape sub i) k

  abbrev cells : List ℕ
  cells = filter test (numbers_in subset shape)

  -- a cell of the subset in the subchunk
  record IsRequested (i : ℕ) : Type 0 where
    point : ℕ
    point_below : point < count_of subset.shape
    is : number_in subset shape point ≡ i

  all_requested : All IsRequested cells
  all_requested = All-filter test IsRequested (numbers_in subset shape) (All-from_get_or IsRequested (numbers_in subset shape) 0 (λ q lt.
      let small : q < count_of subset.shape = omega (arith, lt, numbers_counted subset shape) in
      record { point = q; point_below = small; is = sym (numbers_at subset shape q 0 small) }))

  all_here : All (λ i. test i ≡ true) cells
  all_here = filter_passes test (numbers_in subset shape)

  here : (i : ℕ) → test i ≡ true → subchunk_number shape sub i ≡ k
  here i passes = elim (eqb_tells (subchunk_number shape sub i) k) [ inl is ↦ is.1 | inr not ↦ let clash : true ≡ false = sym passes ∙ not.0 in cc ]

  requested_below : (j : ℕ) → j < length cells → get_or cells j 0 < count_of shape
  requested_below j lt =
      let found = All-get_or IsRequested cells j 0 lt all_requested in
      omega (arith, found.is, number_in_below subset shape found.point inside found.point_below)

  requested_rising : Rising (map (position_number shape sub) cells)
  requested_rising i j d lt small =
      let lj : j < length cells = omega (arith, small, length-map cells (position_number shape sub)) in
      let li : i < length cells = omega (arith, lt, lj) in
      rw (get_or-map (position_number shape sub) cells i 0 d li, get_or-map (position_number shape sub) cells j 0 d lj)
      (position_rising shape sub k (get_or cells i 0) (get_or cells j 0) divides below (requested_below i li) (requested_below j lj)
      (here (get_or cells i 0) (All-get_or (λ c. test c ≡ true) cells i 0 li all_here)) (here (get_or cells j 0) (All-get_or (λ c. test c ≡ true) cells j 0 lj all_here))
      (AllPairs-filter (λ x y. x < y) test (numbers_in subset shape) (numbers_rising subset shape well inside) i j 0 lt lj))

  requested_met : (p : ℕ) → Contains (map (position_number shape sub) cells) p → Contains (numbers_in in_subchunk sub) p
  requested_met p (j, lt, is) =
      let lj : j < length cells = omega (arith, lt, length-map cells (position_number shape sub)) in
      let i = get_or cells j 0 in
      let found = All-get_or IsRequested cells j 0 lj all_requested in
      let at = here i (All-get_or (λ c. test c ≡ true) cells j 0 lj all_here) in
      let position : position_number shape sub i ≡ p = sym (get_or-map (position_number shape sub) cells j 0 p lj) ∙ is in
      let li = requested_below j lj in
      let cell : cell_number shape sub k p ≡ i = ap (λ t. cell_number shape sub k t) (sym position) ∙ (ap (λ s. cell_number shape sub s (position_number shape sub i)) (sym at) ∙ cell_number-located shape sub divides i li) in
      let met = m.met p found.point (omega (arith, position, position_number-below shape sub divides i li)) found.point_below (cell ∙ sym found.is) in
      (met.0, omega (arith, met.1, numbers_counted in_subchunk sub), numbers_at in_subchunk sub met.0 p met.1 ∙ met.2)

  met_requested : (p : ℕ) → Contains (numbers_in in_subchunk sub) p → Contains (map (position_number shape sub) cells) p
  met_requested p (r, lt, is) =
      let small : r < count_of in_subchunk.shape = omega (arith, lt, numbers_counted in_subchunk sub) in
      let at : number_in in_subchunk sub r ≡ p = sym (numbers_at in_subchunk sub r p small) ∙ is in
      let inner : p < count_of sub = omega (arith, at, number_in_below in_subchunk sub r m.sub_inside small) in
      let q = number_in in_subset subset.shape r in
      let q_below = number_in_below in_subset subset.shape r m.subset_inside (omega (arith, small, ap count_of m.same_shape)) in
      let cell : cell_number shape sub k p ≡ number_in subset shape q = ap (cell_number shape sub k) (sym at) ∙ m.one_cell r small in
      let i = number_in subset shape q in
      let at_k : subchunk_number shape sub i ≡ k = ap (subchunk_number shape sub) (sym cell) ∙ subchunk_number-cell_number shape sub divides k p below inner in
      let position : position_number shape sub i ≡ p = ap (position_number shape sub) (sym cell) ∙ position_number-cell_number shape sub divides k p below inner in
      let found = Contains-filter test (numbers_in subset shape) i (number_there subset shape q q_below) (eq-eqb _ _ at_k) in
      let there : get_or cells found.0 i ≡ i = found.2 in (
        found.0,
        omega (arith, found.1, length-map cells (position_number shape sub)),
        get_or-map (position_number shape sub) cells found.0 i p found.1 ∙ (ap (position_number shape sub) there ∙ position),
      )

  -- the requested places are those of the overlap
  pub positions_met : positions_in shape sub (numbers_in subset shape) k ≡ numbers_in in_subchunk sub
  positions_met = same_rising (map (position_number shape sub) cells) (numbers_in in_subchunk sub) requested_rising (numbers_rising in_subchunk sub m.sub_well_formed m.sub_inside) requested_met met_requested

  -- of which there are some, where the subchunk is touched
  pub some_met : Touches shape sub subset k → 0 < count_of in_subchunk.shape
  some_met (q, q_below, at) =
      let i = number_in subset shape q in
      let li = number_in_below subset shape q inside q_below in
      let cell : cell_number shape sub k (position_number shape sub i) ≡ i = ap (λ s. cell_number shape sub s (position_number shape sub i)) (sym at) ∙ cell_number-located shape sub divides i li in
      let met = m.met (position_number shape sub i) q (position_number-below shape sub divides i li) q_below cell in
      omega (arith, met.1)

-- what is asked of a subchunk where a subset meets it
module _ (shape sub : List ℕ) (subset : Subset) (k : ℕ) (in_subchunk in_subset : Subset) (m : IsSubchunkOverlap shape sub subset k in_subchunk in_subset) where
  met_axes : length in_subchunk.start ≡ length in_subchunk.shape
  met_axes = length_all_zip (λ first len. first + len < 2 ^ 64) in_subchunk.start in_subchunk.shape m.sub_well_formed

  pub met_selection : count_of sub < 2 ^ 64 → IsSelectionOf sub (subset_selection in_subchunk)
  met_selection fits = record {
    axes = lies_in_length in_subchunk.start in_subchunk.shape sub met_axes m.sub_inside;
    within = m.sub_inside;
    counted = omega (arith, length-points_of in_subchunk, subset_count_le in_subchunk.start in_subchunk.shape sub met_axes m.sub_inside, fits);
  }

-- a subchunk has no more places than the shape has cells
pub positions_fit : (shape sub : List ℕ) (k : ℕ) → Divides sub shape → k < count_of (grid_of shape sub) → count_of shape < 2 ^ 64 → count_of sub < 2 ^ 64
positions_fit shape sub k divides below fits =
    omega (arith, count-grid shape sub divides, at_least (count_of sub) (count_of (grid_of shape sub)) (omega (arith, below)), fits)
