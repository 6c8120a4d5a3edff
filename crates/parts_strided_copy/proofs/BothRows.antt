-- Rows of two subsets at once: the shorter runs lie end to end in the longer ones.
use Rattle.std.proofs.Common.{◌≡◌, ℕ, ◌+◌, ◌*◌, ◌/◌, ◌%◌, ◌<◌, List, ap, sym, ◌∙◌, arith}
use Rattle.std.proofs.lemmas.Nat.{row_fits, div-add-mod'}
use Rattle.std.proofs.Math.Nat.{mod-lt, lt_of_mul-lt-mul_right, eq_of_mul-eq-mul_right}
use Rattle.parts_row_major.specs.Numbering.{count_of}
use Rattle.parts_row_major.specs.Subsets.{Subset, number_in}
use Rattle.parts_row_major.specs.Runs.{AreSubsetRows}
use Rattle.parts_row_major.proofs.NumberingLaws.{positive_product, le_product}
use Rattle.parts_subsets.proofs.RowSetLaws.{row_at, end_to_end}

-- as many sets of as many rows of as many elements
pub same_sets : (a b rows run : ℕ) → 0 < rows → 0 < run → a * (rows * run) ≡ b * (rows * run) → a ≡ b
same_sets a b rows run some_rows some same = eq_of_mul-eq-mul_right (rows * run) (positive_product rows run some_rows some) a b same

-- what a number divides is a whole number of times it
pub whole_multiple : (run size : ℕ) → run % size ≡ 0 → run ≡ run / size * size
whole_multiple run size none = omega (arith, div-add-mod' run size, none)

regrouped : (q rows run k i : ℕ) → q * (rows * run) + (k * run + i) ≡ (q * rows + k) * run + i
regrouped q rows run k i = omega arith

regrouped_set : (r m size s : ℕ) → r * (m * size) + s * size ≡ (r * m + s) * size
regrouped_set r m size s = omega arith

-- the elements of a run have numbers that follow one another
in_run : (subset : Subset) (shape : List ℕ) (run rows stride sets r o : ℕ) → AreSubsetRows subset shape run rows stride sets → o < run → r < sets * rows
    → number_in subset shape (r * run + o) ≡ number_in subset shape (r * run) + o
in_run subset shape run rows stride sets r o are lt within =
    let q = r / rows in
    let k = r % rows in
    let small : k < rows = mod-lt r are.some_rows in
    let whole : q * rows + k ≡ r = div-add-mod' r rows in
    let below : q < sets = lt_of_mul-lt-mul_right rows (omega (arith, whole, within)) in
    let set = rows * run in
    let fits = row_fits k run rows run small (omega arith) in
    let at : (i : ℕ) → i < run → number_in subset shape (r * run + i) ≡ number_in subset shape (q * set) + k * stride + i =
    λ i li.
    let here : q * set + (k * run + i) ≡ r * run + i = regrouped q rows run k i ∙ ap (λ n. n * run + i) whole in
    rw here at (are.each q (k * run + i) below (omega (arith, fits)) ∙ row_at (number_in subset shape (q * set)) stride run k i li) in
    let none : r * run + 0 ≡ r * run = omega arith in
    let first = rw none at (at 0 are.some) in
    at o lt ∙ omega (arith, first)

-- a subset has the rows of another whose sets have so many elements that its runs are whole numbers of them
pub finer : (subset : Subset) (shape : List ℕ) (run rows stride sets : ℕ) → AreSubsetRows subset shape run rows stride sets
    → (fine_run fine_rows fine_sets m : ℕ) → 0 < fine_run → 0 < fine_rows → fine_sets * (fine_rows * fine_run) ≡ count_of subset.shape → run ≡ m * (fine_rows * fine_run)
    → AreSubsetRows subset shape fine_run fine_rows fine_run fine_sets
finer subset shape run rows stride sets are fine_run fine_rows fine_sets m some some_rows all whole =
    let size = fine_rows * fine_run in
    let positive : 0 < size = positive_product fine_rows fine_run some_rows some in
    let many : 0 < m = lt_of_mul-lt-mul_right size (omega (arith, whole, are.some)) in
    record {
      some = some;
      some_rows = some_rows;
      all = all;
      fits = are.fits;
      set_fits = omega (arith, whole, le_product m size size many (omega arith), le_product rows run run are.some_rows (omega arith), are.set_fits);
      each = λ q j lq lj.
          let r = q / m in
          let s = q % m in
          let small : s < m = mod-lt q many in
          let split : r * m + s ≡ q = div-add-mod' q m in
          let fits = row_fits s size m size small (omega arith) in
          let last = row_fits q size fine_sets size lq (omega arith) in
          let start : q * size ≡ r * run + s * size = ap (λ n. n * size) (sym split) ∙ (sym (regrouped_set r m size s) ∙ ap (λ n. r * n + s * size) (sym whole)) in
          let product : sets * (rows * run) ≡ sets * rows * run = omega arith in
          let within : r < sets * rows = lt_of_mul-lt-mul_right run (omega (arith, start, last, all, are.all, product, positive)) in
          let here = in_run subset shape run rows stride sets r (s * size) are (omega (arith, fits)) within in
          let there = in_run subset shape run rows stride sets r (s * size + j) are (omega (arith, fits)) within in
          let sum : number_in subset shape (r * run) + s * size + j ≡ number_in subset shape (r * run) + (s * size + j) = omega arith in
          let moved : q * size + j ≡ r * run + (s * size + j) = omega (arith, start) in
          rw moved (there ∙ sym (end_to_end (number_in subset shape (q * size)) fine_run j ∙ (rw start (ap (λ n. n + j) here) ∙ sum)));
    }
