-- Elements that lie in as many rows of two arrays: where they lie with one axis more, and where those of a set lie.
use Rattle.std.proofs.Common.{◌≡◌, ◌∙◌, ℕ, ◌+◌, ◌*◌, ◌/◌, ◌%◌, ◌<◌, ◌≤◌, ◌-◌, List, [], ◌∷◌, ◌++◌, length, refl, ap, sym, arith}
use Rattle.std.proofs.lemmas.Nat.{div-mul-add, mod-mul-add, mod_below, div_below, div-add-mod', row_fits}
use Rattle.std.proofs.Math.Nat.{zero-div, zero-mod, mul-add-div_right, div-eq_of_lt, mod-eq_of_lt, add-mul-mod_self_right, div-div-eq-div-mul}
use Rattle.parts_row_major.proofs.NumberingLaws.{both_positive, positive_product}
use Rattle.parts_row_major.specs.Numbering.{count_of}
use Rattle.parts_row_major.specs.Pieces.{IsUpdated}
use Rattle.parts_row_major.specs.Runs.{row_position}
use Rattle.parts_row_major.specs.Subsets.{Subset, number_in}
use Rattle.parts_subsets.proofs.RowSetLaws.{row_at}
use Rattle.parts_strided_copy.specs.Paired.{rows_along, steps_to, element_along, elements_in_rows, into_at, AreRowsOf}
use Rattle.parts_strided_copy.specs.declared.paired.RowStep.{RowStep}
use Rattle.parts_strided_copy.specs.declared.paired.PairedRows.{PairedRows}

-- whole rounds of all rows lead back to the first
pub steps_to-rounds : (stride : RowStep → ℕ) (steps : List RowStep) (u y : ℕ) → 0 < rows_along steps → steps_to stride steps (u * rows_along steps + y) ≡ steps_to stride steps y
steps_to-rounds stride [] u y some = refl
steps_to-rounds stride (step ∷ more) u y some =
    let each = both_positive step.rows (rows_along more) some in
    let rounds = u * rows_along more in
    let turned : u * (step.rows * rows_along more) + y ≡ rounds * step.rows + y = omega arith in
    let swapped : rounds * step.rows + y ≡ y + rounds * step.rows = omega arith in
    let digit : (rounds * step.rows + y) % step.rows ≡ y % step.rows = ap (λ n. n % step.rows) swapped ∙ add-mul-mod_self_right y rounds step.rows in
    let rest : (rounds * step.rows + y) / step.rows ≡ rounds + y / step.rows = mul-add-div_right each.0 rounds y in
    rw (turned, digit, rest) (ap (λ n. (y % step.rows) * stride step + n) (steps_to-rounds stride more u (y / step.rows) each.1))

-- one axis more, outside of the others
pub steps_to-push : (stride : RowStep → ℕ) (steps : List RowStep) (step : RowStep) (row : ℕ) → 0 < rows_along steps
    → steps_to stride (steps ++ step ∷ []) row ≡ steps_to stride steps row + (row / rows_along steps % step.rows) * stride step
steps_to-push stride [] step row some =
    let whole : row / 1 ≡ row = omega arith in
    rw whole (omega arith)
steps_to-push stride (first ∷ more) step row some =
    let each = both_positive first.rows (rows_along more) some in
    let later = steps_to-push stride more step (row / first.rows) each.1 in
    let divided = div-div-eq-div-mul row first.rows (rows_along more) in
    omega (arith, later, ap (λ n. (n % step.rows) * stride step) divided)

pub rows_along-push : (steps : List RowStep) (step : RowStep) → rows_along (steps ++ step ∷ []) ≡ step.rows * rows_along steps
rows_along-push [] step = refl
rows_along-push (first ∷ more) step = omega (arith, ap (λ n. first.rows * n) (rows_along-push more step))

-- a number by its row and its place there, where it is that of an element of a round of all rows
pub record InRound (run rows u k : ℕ) : Type 0 where
  pub x : ℕ
  pub y : ℕ
  pub x_below : x < run
  pub y_below : y < rows
  pub rest : k % (run * rows) ≡ y * run + x
  pub over : k / run ≡ u * rows + y
  pub place : k % run ≡ x

pub in_round : (run rows k : ℕ) → 0 < run → 0 < rows → InRound run rows (k / (run * rows)) k
in_round run rows k some_run some =
    let count = run * rows in
    let u = k / count in
    let v = k % count in
    let below : v < rows * run = omega (arith, mod_below k count (positive_product run rows some_run some)) in
    let within : v / run < rows = div_below v run rows some_run below in
    let whole : k ≡ (u * rows + v / run) * run + v % run = omega (arith, div-add-mod' k count, div-add-mod' v run) in
    record {
      x = v % run;
      y = v / run;
      x_below = mod_below v run some_run;
      y_below = within;
      rest = omega (arith, div-add-mod' v run);
      over = ap (λ n. n / run) whole ∙ div-mul-add (u * rows + v / run) run (v % run) (mod_below v run some_run);
      place = ap (λ n. n % run) whole ∙ mod-mul-add (u * rows + v / run) run (v % run) (mod_below v run some_run);
    }

-- where an element lies with one axis more
pub pushed_along : (stride : RowStep → ℕ) (run : ℕ) (steps : List RowStep) (step : RowStep) (k : ℕ) → 0 < run → 0 < rows_along steps → k < step.rows * (run * rows_along steps)
    → element_along stride run (steps ++ step ∷ []) k ≡ (k / (run * rows_along steps)) * stride step + element_along stride run steps (k % (run * rows_along steps))
pushed_along stride run steps step k some_run some lt =
    let rows = rows_along steps in
    let u = k / (run * rows) in
    let in_it = in_round run rows k some_run some in
    let y = in_it.y in
    let x = in_it.x in
    let u_below : u < step.rows = div_below k (run * rows) step.rows (positive_product run rows some_run some) lt in
    let turn : (u * rows + y) / rows ≡ u = div-mul-add u rows y in_it.y_below in
    let digit : (u * rows + y) / rows % step.rows ≡ u = ap (λ n. n % step.rows) turn ∙ mod-eq_of_lt u_below in
    let pushed = steps_to-push stride steps step (u * rows + y) some in
    let rounds = steps_to-rounds stride steps u y some in
    let over : steps_to stride (steps ++ step ∷ []) (k / run) ≡ steps_to stride steps y + u * stride step =
    ap (steps_to stride (steps ++ step ∷ [])) in_it.over ∙ (pushed ∙ omega (arith, rounds, ap (λ n. n * stride step) digit)) in
    let here : (k % (run * rows)) / run ≡ y = ap (λ n. n / run) in_it.rest ∙ div-mul-add y run x in_it.x_below in
    let place : (k % (run * rows)) % run ≡ x = ap (λ n. n % run) in_it.rest ∙ mod-mul-add y run x in_it.x_below in
    omega (arith, over, in_it.place, place, ap (steps_to stride steps) here)

-- the steps of one row alone lead nowhere
pub steps_to-alone : (stride : RowStep → ℕ) (first : RowStep) (more : List RowStep) (row : ℕ) → first.rows ≡ 1 → steps_to stride (first ∷ more) row ≡ steps_to stride more row
steps_to-alone stride first more row one =
    let digit : row % 1 ≡ 0 = omega arith in
    let whole : row / 1 ≡ row = omega arith in
    rw (one, digit, whole) (omega arith)

-- where an element of one row alone lies
pub alone_along : (stride : RowStep → ℕ) (run : ℕ) (first : RowStep) (k : ℕ) → first.rows ≡ 1 → k < run → element_along stride run (first ∷ []) k ≡ k
alone_along stride run first k one lt =
    let none = steps_to-alone stride first [] (k / run) one in
    omega (arith, none, mod-eq_of_lt lt)

-- where the elements of a set lie
pub set_along : (stride : RowStep → ℕ) (first run : ℕ) (step : RowStep) (others : List RowStep) (q j : ℕ) → 0 < run → 0 < step.rows → j < step.rows * run
    → first + element_along stride run (step ∷ others) (q * (step.rows * run) + j) ≡ row_position (first + steps_to stride others q) (stride step) run j
set_along stride first run step others q j some_run some lt =
    let n = step.rows in
    let k = q * (n * run) + j in
    let y_below : j / run < n = div_below j run n some_run lt in
    let x_below = mod_below j run some_run in
    let whole : k ≡ (q * n + j / run) * run + j % run = omega (arith, div-add-mod' j run) in
    let over : k / run ≡ q * n + j / run = ap (λ m. m / run) whole ∙ div-mul-add (q * n + j / run) run (j % run) x_below in
    let place : k % run ≡ j % run = ap (λ m. m % run) whole ∙ mod-mul-add (q * n + j / run) run (j % run) x_below in
    let turn = div-mul-add q n (j / run) y_below in
    let digit = mod-mul-add q n (j / run) y_below in
    rw (over, place, turn, digit) (omega arith)

-- where an element lies with one axis more that has one coordinate
pub kept_along : (stride : RowStep → ℕ) (run : ℕ) (steps : List RowStep) (by len k : ℕ) → len ≡ 1 → k < len * (run * rows_along steps)
    → element_along stride run steps k ≡ (k / (run * rows_along steps)) * by + element_along stride run steps (k % (run * rows_along steps))
kept_along stride run steps by len k one lt =
    let count = run * rows_along steps in
    let small : k < count = omega (arith, lt, ap (λ n. n * count) one) in
    rw (div-eq_of_lt small, mod-eq_of_lt small) (omega arith)

-- where an element lies with one axis more along which one row goes on
pub merged_along : (stride : RowStep → ℕ) (run len : ℕ) (first : RowStep) (others : List RowStep) (k : ℕ) → first.rows ≡ 1 → others ≡ [] → 0 < run
    → k < len * (run * rows_along (first ∷ others))
    → element_along stride (run * len) (first ∷ others) k ≡ (k / (run * rows_along (first ∷ others))) * run + element_along stride run (first ∷ others) (k % (run * rows_along (first ∷ others)))
merged_along stride run len first [] k one none some lt =
    let count : run * (first.rows * 1) ≡ run = omega (arith, ap (λ n. run * n) one) in
    let below : k < run * len = omega (arith, lt, ap (λ n. len * n) count) in
    let here = alone_along stride (run * len) first k one below in
    let there = alone_along stride run first (k % run) one (mod_below k run some) in
    rw count (here ∙ omega (arith, there, div-add-mod' k run))
merged_along stride run len first (step ∷ more) k one none some lt = absurd (omega (arith, ap length none))

-- the elements of a set are some of all
pub set_below : (run rows : ℕ) (others : List RowStep) (sets q j : ℕ) → sets ≡ rows_along others → q < sets → j < rows * run → q * (rows * run) + j < run * (rows * rows_along others)
set_below run rows others sets q j counted lt small =
    omega (arith, row_fits q (rows * run) sets (rows * run) lt (omega arith), ap (λ n. n * (rows * run)) counted)

-- a row of a set ends within bytes that hold each of its elements
pub set_row_ends : (stride : RowStep → ℕ) (first run : ℕ) (step : RowStep) (others : List RowStep) (sets q size : ℕ) {most : ℕ} → 0 < run → 0 < step.rows → sets ≡ rows_along others → q < sets
    → ((k : ℕ) → k < run * (step.rows * rows_along others) → (first + element_along stride run (step ∷ others) k) * size + size ≤ most)
    → (k : ℕ) → k < step.rows → (first + steps_to stride others q + k * stride step + run) * size ≤ most
set_row_ends stride first run step others sets q size some_run some counted lt inside k small =
    let j = k * run + (run - 1) in
    let fits = row_fits k run step.rows run small (omega arith) in
    let j_below : j < step.rows * run = omega (arith, fits, some_run) in
    let begins = first + steps_to stride others q in
    let at = set_along stride first run step others q j some_run some j_below ∙ row_at begins (stride step) run k (run - 1) (omega (arith, some_run)) in
    let end : first + element_along stride run (step ∷ others) (q * (step.rows * run) + j) + 1 ≡ begins + k * stride step + run = omega (arith, at, some_run) in
    omega (arith, ap (λ n. n * size) end, inside (q * (step.rows * run) + j) (set_below run step.rows others sets q j counted lt j_below))

-- what is written at the places of rows is written at the points of the subset whose rows they are
pub rows_updated : (rows : PairedRows) (subset : Subset) (shape : List ℕ) {old update new : ℕ → List ℕ} → AreRowsOf rows subset shape → IsUpdated (elements_in_rows rows) (into_at rows) old update new
    → IsUpdated (count_of subset.shape) (number_in subset shape) old update new
rows_updated rows subset shape {new = new} are wrote = record {
  inside = λ k lt. ap new (sym (are.at k lt)) ∙ wrote.inside k (omega (arith, lt, are.counted));
  outside = λ i h. wrote.outside i (λ k lt e. let small : k < count_of subset.shape = omega (arith, lt, are.counted) in h k small (sym (are.at k small) ∙ e));
}

-- the first element of rows is the first of all
steps_to-first : (stride : RowStep → ℕ) (steps : List RowStep) → steps_to stride steps 0 ≡ 0
steps_to-first stride [] = refl
steps_to-first stride (step ∷ more) = rw (zero-mod step.rows, zero-div step.rows) (omega (arith, steps_to-first stride more))

pub along-first : (stride : RowStep → ℕ) (run : ℕ) (steps : List RowStep) (k : ℕ) → k < 1 → element_along stride run steps k ≡ 0
along-first stride run steps k lt =
    let none : k ≡ 0 = omega arith in
    rw (none, zero-mod run, zero-div run) (omega (arith, steps_to-first stride steps))
