-- Rows of elements, within the bytes of an array.
use Rattle.std.proofs.Common.{◌≡◌, ◌∙◌, ℕ, ◌+◌, ◌-◌, ◌*◌, ◌<◌, ◌≤◌, List, ap, sym, arith}
use Rattle.std.proofs.lemmas.Nat.{row_fits}
use Rattle.parts_row_major.specs.Numbering.{count_of}
use Rattle.parts_row_major.specs.Subsets.{Subset, LiesIn, number_in}
use Rattle.parts_row_major.specs.Runs.{row_position, AreSubsetRows}
use Rattle.parts_row_major.proofs.PieceLaws.{number_in_below}
use Rattle.parts_subsets.proofs.GridLaws.{at_least}
use Rattle.parts_subsets.proofs.RowSetLaws.{row_at}

-- a row ends within the bytes
pub row_ends : (first stride run size k : ℕ) → 0 < size → {most : ℕ} → (first + k * stride + run) * size ≤ most → first + k * stride + run ≤ most
row_ends first stride run size k some {most} within = omega (arith, at_least (first + k * stride + run) size some, within)

-- a row of a set ends within the bytes that hold the last of its elements, each moved by as much
pub moved_row_ends : (subset : Subset) (shape : List ℕ) (run rows stride sets q k moved size : ℕ) {most : ℕ} → AreSubsetRows subset shape run rows stride sets → q < sets → k < rows
    → ((i : ℕ) → i < count_of subset.shape → (moved + number_in subset shape i) * size + size ≤ most)
    → (moved + number_in subset shape (q * (rows * run)) + k * stride + run) * size ≤ most
moved_row_ends subset shape run rows stride sets q k moved size are lt small inside =
    let set = rows * run in
    let fits = row_fits k run rows run small (omega arith) in
    let last : k * run + (run - 1) < set = omega (arith, fits, are.some) in
    let at = are.each q (k * run + (run - 1)) lt last ∙ row_at (number_in subset shape (q * set)) stride run k (run - 1) (omega (arith, are.some)) in
    let most_set : q * set + set ≤ count_of subset.shape = omega (arith, are.all, row_fits q set sets set lt (omega arith)) in
    let end : moved + number_in subset shape (q * set + (k * run + (run - 1))) + 1 ≡ moved + number_in subset shape (q * set) + k * stride + run = omega (arith, at, are.some) in
    omega (arith, ap (λ n. n * size) end, inside (q * set + (k * run + (run - 1))) (omega (arith, most_set, last)))

-- an element of a subset lies within the bytes of the array that the subset lies in
pub element_inside : (subset : Subset) (shape : List ℕ) (k size : ℕ) → LiesIn subset shape → k < count_of subset.shape → {most : ℕ} → most ≡ count_of shape * size
    → (0 + number_in subset shape k) * size + size ≤ most
element_inside subset shape k size inside lt whole =
    omega (arith, row_fits (number_in subset shape k) size (count_of shape) size (number_in_below subset shape k inside lt) (omega arith), whole)

-- where the elements of a subset lie that has one set of rows, each moved by as much
pub record OneSet (subset : Subset) (shape : List ℕ) (run rows stride first moved : ℕ) : Type 0 where
  pub count_is : rows * run ≡ count_of subset.shape
  pub start : moved + first ≡ moved + number_in subset shape (0 * (rows * run))
  pub at : (k : ℕ) → k < rows * run → row_position (moved + first) stride run k ≡ moved + number_in subset shape k

pub one_set : (subset : Subset) (shape : List ℕ) (run rows stride sets first moved : ℕ) → AreSubsetRows subset shape run rows stride sets → sets ≡ 1
    → (0 < sets → first ≡ number_in subset shape 0) → OneSet subset shape run rows stride first moved
one_set subset shape run rows stride sets first moved are one first_is =
    let lt : 0 < sets = omega (arith, one) in
    let none : 0 ≡ 0 * (rows * run) = omega arith in
    let begins = first_is lt ∙ ap (number_in subset shape) none in
    let all : 1 * (rows * run) ≡ count_of subset.shape = ap (λ q. q * (rows * run)) (sym one) ∙ are.all in
    record {
      count_is = omega (arith, all);
      start = omega (arith, begins);
      at = λ k small.
          let here : k ≡ 0 * (rows * run) + k = omega arith in
          omega (arith, begins, ap (number_in subset shape) here, are.each 0 k lt small);
    }
