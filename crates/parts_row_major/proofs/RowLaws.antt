-- The runs of a subset along one axis lie a stride apart.
use Rattle.std.proofs.Common.{◌≡◌, ◌≢◌, ℕ, zero, suc, ◌+◌, ◌-◌, ◌*◌, ◌/◌, ◌%◌, ◌^◌, ◌<◌, ◌≤◌, List, [], ◌∷◌, length, get_or, take, drop, refl, ap, sym, ◌∙◌, arith, inl, inr}
use Rattle.std.proofs.lemmas.Nat.{mod_below, mul-le, row_fits, div-add-mod'}
use Rattle.std.proofs.lemmas.Bool.{cases_lt}
use Rattle.std.proofs.Math.Nat.{div-eq_of_eq-mul_left}
use Rattle.std.specs.List.{AllZip}
use Rattle.parts_row_major.specs.Numbering.{count_of, number_of, point_of, zip_with}
use Rattle.parts_row_major.specs.Subsets.{Subset, LiesIn, number_in}
use Rattle.parts_row_major.specs.Runs.{IsRunLength, IsRowSet, AreRows, IsRunning, IsStepping, AreSubsetRows}
use Rattle.parts_row_major.proofs.NumberingLaws.{rest_positive, both_positive, le_product, count_of-drop}
use Rattle.parts_row_major.proofs.PointLaws.{count_split}
use Rattle.parts_row_major.proofs.RunLaws.{blocks, whole_blocks, run_follows}

-- the number of the point that is `r` further along an axis
pub row_step : (start len shape : List ℕ) (axis q r : ℕ) → length start ≡ length len → AllZip ◌≤◌ (zip_with ◌+◌ start len) shape → axis < length len
    → r < get_or len axis 0 → q * count_of (drop axis len) + r * count_of (drop (axis + 1) len) < count_of len
    → number_of (zip_with ◌+◌ start (point_of (q * count_of (drop axis len) + r * count_of (drop (axis + 1) len)) len)) shape
    ≡ number_of (zip_with ◌+◌ start (point_of (q * count_of (drop axis len)) len)) shape + r * count_of (drop (axis + 1) shape)
row_step [] [] shape axis q r e h lt small below = absurd (omega arith)
row_step [] (n ∷ ns) shape axis q r e h lt small below = absurd (omega arith)
row_step (a ∷ more) [] shape axis q r e h lt small below = absurd (omega arith)
row_step (a ∷ more) (n ∷ ns) [] axis q r e h lt small below = elim h [ ]
row_step (a ∷ more) (n ∷ ns) (s ∷ ss) zero q r e h lt small below =
    let c = count_of ns in
    let pc : 0 < c = rest_positive (q * (n * c) + r * c) n c below in
    let last = whole_blocks (q * n + r) 1 c c (omega arith) pc (omega arith) in
    let first = whole_blocks (q * n) 1 c c (omega arith) pc (omega arith) in
    let split : (q * n + r) * c ≡ q * (n * c) + r * c = omega arith in
    let split_first : (q * n) * c ≡ q * (n * c) = omega arith in
    let over_last : (q * n + r) % 1 ≡ 0 = omega (arith, mod_below (q * n + r) 1 (omega arith)) in
    let over_first : (q * n) % 1 ≡ 0 = omega (arith, mod_below (q * n) 1 (omega arith)) in
    let whole_last : (q * n + r) / 1 ≡ q * n + r = omega (arith, div-add-mod' (q * n + r) 1) in
    let whole_first : (q * n) / 1 ≡ q * n = omega (arith, div-add-mod' (q * n) 1) in
    rw (← split, ← split_first, last.0, last.1, first.0, first.1, over_last, over_first, whole_last, whole_first) (omega arith)
row_step (a ∷ more) (n ∷ ns) (s ∷ ss) (suc axis) q r e h lt small below =
    let next : suc axis + 1 ≡ suc (axis + 1) = omega arith in
    let run = count_of (drop axis ns) in
    let c = count_of (drop (axis + 1) ns) in
    let m = count_of (take axis ns) in
    let split = sym (count_split ns axis) in
    let low : q * run + r * c < n * count_of ns = rw next at below in
    let pc : 0 < count_of ns = rest_positive (q * run + r * c) n (count_of ns) low in
    let positive = both_positive m run (omega (arith, split)) in
    let this = count_of-drop ns axis (omega arith) in
    let each = both_positive (get_or ns axis 0) c (omega (arith, this, positive.1)) in
    let within : r * c < run = omega (arith, this, row_fits r c (get_or ns axis 0) c small (omega arith), each.1) in
    let last = blocks q (r * c) m run (count_of ns) positive.0 within split in
    let first = whole_blocks q m run (count_of ns) positive.0 positive.1 split in
    let under : (q % m) * run + r * c < count_of ns = rw last.1 at (mod_below (q * run + r * c) (count_of ns) pc) in
    let step = row_step more ns ss axis (q % m) r (omega arith) h.1 (omega arith) small under in
    rw (next, last.0, last.1, first.0, first.1) (omega (arith, step))

-- the axis that a run begins at, and the runs along the axis before it
pub row_set_found : (len shape : List ℕ) (i j run rows : ℕ) → i < length len → i + 1 ≡ j → drop j len ≡ drop j shape → length len ≡ length shape → run ≡ count_of (drop j len)
    → get_or len i 0 ≢ get_or shape i 0 → (i ≡ 0 → rows ≡ 1) → (0 < i → rows ≡ get_or len (i - 1) 0) → IsRowSet len shape (run * get_or len i 0) rows (run * get_or shape i 0)
row_set_found len shape i j run rows lt e spanned same is differ one more =
    let here : drop (i + 1) len ≡ drop (i + 1) shape = rw e spanned in
    let run_is : run ≡ count_of (drop (i + 1) len) = rw e is in
    let run_is_around : run ≡ count_of (drop (i + 1) shape) = run_is ∙ ap count_of here in
    record {
      axis = i;
      inside = omega arith;
      run_axis = record { later_spanned = here; least = λ p. differ };
      run_is = rw run_is (omega (arith, count_of-drop len i lt));
      stride_is = rw run_is_around (omega (arith, count_of-drop shape i (omega arith)));
      one = one;
      more = more;
    }

-- the runs of a subset lie in whole row sets
pub subset_rows_at : (subset : Subset) (shape : List ℕ) (axis run rows stride many : ℕ) → length subset.start ≡ length subset.shape → LiesIn subset shape → 0 < count_of subset.shape → axis ≤ length subset.shape
    → run ≡ count_of (drop axis subset.shape) → stride ≡ count_of (drop axis shape) → (axis ≡ 0 → rows ≡ 1) → (0 < axis → rows ≡ get_or subset.shape (axis - 1) 0) → many * run ≡ count_of subset.shape
    → AreRows (λ i. number_in subset shape (i * run)) rows stride many
subset_rows_at subset shape zero run rows stride many same inside some within re se one more all =
    let single : rows ≡ 1 = one refl in
    record {
      some = omega arith;
      whole = (many, rw single (omega arith));
      steps = λ q r small lt.
          let none : r ≡ 0 = omega arith in
          let at : q * rows + r ≡ q * rows = omega arith in
          ap (λ i. number_in subset shape (i * run)) at ∙ rw none (omega arith);
    }
subset_rows_at subset shape (suc axis) run rows stride many same inside some within re se one more all =
    let len = subset.shape in
    let next : suc axis ≡ axis + 1 = omega arith in
    let back : suc axis - 1 ≡ axis = omega arith in
    let run_is : run ≡ count_of (drop (axis + 1) len) = rw next at re in
    let stride_is : stride ≡ count_of (drop (axis + 1) shape) = rw next at se in
    let rows_is : rows ≡ get_or len axis 0 = rw back at (more (omega arith)) in
    let set : count_of (drop axis len) ≡ rows * run = rw (rows_is, run_is) (count_of-drop len axis (omega arith)) in
    let split : count_of (take axis len) * (rows * run) ≡ count_of len = rw set at (count_split len axis) in
    let positive = both_positive (count_of (take axis len)) (rows * run) (omega (arith, split)) in
    let each = both_positive rows run positive.1 in
    let sets : count_of len ≡ (count_of (take axis len) * rows) * run = omega (arith, split) in
    record {
      some = each.0;
      whole = (count_of (take axis len), sym (div-eq_of_eq-mul_left each.1 (sym all)) ∙ div-eq_of_eq-mul_left each.1 sets);
      steps = λ q r small lt.
          let apart : (q * rows + r) * run ≡ q * count_of (drop axis len) + r * count_of (drop (axis + 1) len) = rw (set, ← run_is) (omega arith) in
          let begin : (q * rows) * run ≡ q * count_of (drop axis len) = rw set (omega arith) in
          let fits = row_fits (q * rows + r) run many run lt (omega arith) in
          let below : q * count_of (drop axis len) + r * count_of (drop (axis + 1) len) < count_of len = omega (arith, apart, fits, all, each.1) in
          let step = row_step subset.start len shape axis q r same inside (omega arith) (omega (arith, rows_is)) below in
          ap (number_in subset shape) apart ∙ (step ∙ rw (← begin, ← stride_is) refl);
    }

pub subset_rows : (subset : Subset) (shape : List ℕ) (run rows stride many : ℕ) → length subset.start ≡ length subset.shape → LiesIn subset shape → 0 < count_of subset.shape → IsRowSet subset.shape shape run rows stride → many * run ≡ count_of subset.shape
    → AreRows (λ i. number_in subset shape (i * run)) rows stride many
subset_rows subset shape run rows stride many same inside some set all =
    subset_rows_at subset shape set.axis run rows stride many same inside some set.inside set.run_is set.stride_is set.one set.more all

-- before the first place
pub stepping_none : (position : ℕ → ℕ) (rows stride many : ℕ) → AreRows position rows stride many → IsStepping position rows stride 0 0 many 0
stepping_none position rows stride many are = record {
  are_rows = are;
  turned = (0, omega arith);
  before = omega arith;
  within = omega arith;
  here = λ k lt. absurd (omega arith);
}

-- a row set fits where its first place does
pub set_fits : (set sets rows next turn many : ℕ) → turn ≡ set * rows → many ≡ sets * rows → next ≡ turn → next < many → turn + rows ≤ many
set_fits set sets rows next turn many te me e lt =
    elim (cases_lt set sets) [
      | inl below ↦ omega (arith, te, me, row_fits set rows sets rows below (omega arith))
      | inr above ↦ absurd (omega (arith, te, me, e, lt, mul-le sets rows set rows above (omega arith)))
    ]

pub turn_fits : (position : ℕ → ℕ) (rows stride next turn many last : ℕ) → IsStepping position rows stride next turn many last → next ≡ turn → next < many → turn + rows ≤ many
turn_fits position rows stride next turn many last known e lt =
    set_fits known.turned.0 known.are_rows.whole.0 rows next turn many known.turned.1 known.are_rows.whole.1 e lt

-- the first place of a row set
pub stepping_turn : (position : ℕ → ℕ) (rows stride next turn many last first : ℕ) → IsStepping position rows stride next turn many last → next ≡ turn → next < many → first ≡ position next → IsStepping position rows stride (next + 1) (turn + rows) many first
stepping_turn position rows stride next turn many last first known e lt is =
    let set = known.turned.0 in
    let at : next ≡ set * rows = e ∙ known.turned.1 in
    let fits = turn_fits position rows stride next turn many last known e lt in
    record {
      are_rows = known.are_rows;
      turned = (set + 1, omega (arith, known.turned.1));
      before = omega (arith, known.are_rows.some);
      within = fits;
      here = λ k small.
          let step = known.are_rows.steps set (k + 1) (omega (arith, e)) (omega (arith, at, fits)) in
          let there : next + 1 + k ≡ set * rows + (k + 1) = omega (arith, at) in
          ap position there ∙ (step ∙ ap (λ n. n + (k + 1) * stride) (ap position (sym at) ∙ sym is));
    }

-- a further place of a row set
pub position_next : (position : ℕ → ℕ) (rows stride next turn many last : ℕ) → IsStepping position rows stride next turn many last → next < turn → last + stride ≡ position next
position_next position rows stride next turn many last known lt =
    let none : next + 0 ≡ next = omega arith in
    let here : position next ≡ last + (0 + 1) * stride = rw none at (known.here 0 (omega arith)) in
    omega (arith, here)

pub stepping_more : (position : ℕ → ℕ) (rows stride next turn many last : ℕ) → IsStepping position rows stride next turn many last → next < turn → IsStepping position rows stride (next + 1) turn many (last + stride)
stepping_more position rows stride next turn many last known lt = record {
  are_rows = known.are_rows;
  turned = known.turned;
  before = omega arith;
  within = known.within;
  here = λ k small.
      let there : next + 1 + k ≡ next + (k + 1) = omega arith in
      ap position there ∙ (known.here (k + 1) (omega arith) ∙ omega arith);
}

-- a run that is to come begins at a point of the subset
pub run_below : (subset : Subset) (shape : List ℕ) (run next many : ℕ) → IsRunning subset shape run next many → next < many → next * run < count_of subset.shape
run_below subset shape run next many known lt = omega (arith, known.all, known.some, row_fits next run many run lt (omega arith))

-- a factor of a smaller product is smaller
below_by_factor : (k rows run : ℕ) → k * run < rows * run → k < rows
below_by_factor k rows run lt = elim (cases_lt k rows) [
  | inl below ↦ below
  | inr above ↦ absurd (omega (arith, lt, mul-le rows run k run above (omega arith)))
]

-- a subset that has no points has no rows
pub no_rows : (subset : Subset) (shape : List ℕ) → count_of subset.shape ≡ 0 → AreSubsetRows subset shape 1 1 1 0
no_rows subset shape none = record { some = omega arith; some_rows = omega arith; all = omega arith; fits = omega arith; set_fits = omega arith; each = λ q j lt. absurd (omega arith) }

-- the rows of a subset whose runs are whole row sets
pub rows_of_subset : (subset : Subset) (shape : List ℕ) (run rows stride many sets : ℕ) → length subset.start ≡ length subset.shape → LiesIn subset shape → 0 < count_of subset.shape → count_of subset.shape < 2 ^ 64
    → IsRunLength subset.shape shape run → 0 < run → many * run ≡ count_of subset.shape → AreRows (λ i. number_in subset shape (i * run)) rows stride many → sets ≡ many / rows
    → AreSubsetRows subset shape run rows stride sets
rows_of_subset subset shape run rows stride many sets same inside points fits long some all are is =
    let whole : sets ≡ are.whole.0 = is ∙ div-eq_of_eq-mul_left are.some are.whole.1 in
    let many_is : many ≡ sets * rows = omega (arith, rw (← whole) at are.whole.1) in
    let split : sets * (rows * run) ≡ (sets * rows) * run = omega arith in
    let full_subset : sets * (rows * run) ≡ count_of subset.shape = split ∙ (ap (λ m. m * run) (sym many_is) ∙ all) in
    let positive = both_positive sets (rows * run) (omega (arith, full_subset, points)) in
    record {
      some = some;
      some_rows = are.some;
      all = full_subset;
      fits = fits;
      set_fits = omega (arith, full_subset, le_product sets (rows * run) (rows * run) positive.0 (omega arith));
      each = λ q j lq lj.
          let k = j / run in
          let r = j % run in
          let split = div-add-mod' j run in
          let small = mod_below j run some in
          let row : k < rows = below_by_factor k rows run (omega (arith, split, lj)) in
          let run_at : q * rows + k < many = omega (arith, many_is, row_fits q rows sets rows lq (omega arith), row) in
          let at : q * (rows * run) + j ≡ (q * rows + k) * run + r = omega (arith, split) in
          let first : q * (rows * run) ≡ (q * rows) * run = omega arith in
          let follow = run_follows subset shape run many same inside long all (q * rows + k) r run_at small in
          let step = are.steps q k row run_at in
          rw (at, follow, first) (ap (λ n. n + r) step);
    }
