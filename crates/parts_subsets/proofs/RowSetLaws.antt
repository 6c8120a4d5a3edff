-- Sets of rows: where their elements lie, and what was written of them.
use Rattle.std.proofs.Common.{◌≡◌, ℕ, ◌+◌, ◌-◌, ◌*◌, ◌<◌, ◌≤◌, List, refl, ap, sym, ◌∙◌, arith, inl, inr}
use Rattle.std.proofs.lemmas.Nat.{row_fits, div-add-mod', div-mul-add, mod-mul-add}
use Rattle.std.proofs.lemmas.Bool.{cases_lt}
use Rattle.parts_row_major.specs.Numbering.{count_of}
use Rattle.parts_row_major.specs.Subsets.{Subset, IsSubset, LiesIn, number_in}
use Rattle.parts_row_major.specs.Pieces.{IsUpdated}
use Rattle.parts_row_major.specs.Runs.{row_position, AreSubsetRows}
use Rattle.parts_row_major.proofs.NumberingLaws.{positive_product}
use Rattle.parts_row_major.proofs.PieceLaws.{number_in_below, same_point, updated_run}

-- the place of an element of a row
pub row_at : (first stride run k r : ℕ) → r < run → row_position first stride run (k * run + r) ≡ first + k * stride + r
row_at first stride run k r lt = rw (div-mul-add k run r lt, mod-mul-add k run r lt) refl

-- rows that lie end to end
pub end_to_end : (first run j : ℕ) → row_position first run run j ≡ first + j
end_to_end first run j = omega (arith, div-add-mod' j run)

-- one row more is written
pub rows_more : (k rows run first stride : ℕ) (old update new newer : ℕ → List ℕ) → IsUpdated (k * run) (row_position first stride run) old update new
    → ((i j : ℕ) → i < rows * run → j < rows * run → row_position first stride run i ≡ row_position first stride run j → i ≡ j) → k < rows
    → ((r : ℕ) → r < run → newer (first + k * stride + r) ≡ update (k * run + r)) → ((i : ℕ) → i < first + k * stride → newer i ≡ new i)
    → ((i : ℕ) → first + k * stride + run ≤ i → newer i ≡ new i) → IsUpdated ((k + 1) * run) (row_position first stride run) old update newer
rows_more k rows run first stride old update new newer so_far apart lt written before after =
    let more : (k + 1) * run ≡ k * run + run = omega arith in
    let fits = row_fits k run rows run lt (omega arith) in
    rw more (updated_run (k * run) run (first + k * stride) (row_position first stride run) old update new newer so_far
    (λ i r below small e. let same = apart i (k * run + r) (omega (arith, fits)) (omega (arith, fits)) e in omega arith)
    (λ r small. row_at first stride run k r small) written before after)

-- the places of one part more are written
pub updated_part : (done len total : ℕ) (position here : ℕ → ℕ) (old update new newer : ℕ → List ℕ) → IsUpdated done position old update new → IsUpdated len here new (λ j. update (done + j)) newer
    → ((j : ℕ) → j < len → position (done + j) ≡ here j) → done + len ≤ total → ((i k : ℕ) → i < total → k < total → position i ≡ position k → i ≡ k) → IsUpdated (done + len) position old update newer
updated_part done len total position here old update new newer so_far part follow within apart = record {
  inside = λ k lt. elim (cases_lt k done) [
    | inl below ↦
        part.outside (position k) (λ j small e. let same = apart (done + j) k (omega arith) (omega arith) (follow j small ∙ e) in omega arith)
        ∙ so_far.inside k below
    | inr past ↦
        let at : done + (k - done) ≡ k = omega arith in
        let wrote = part.inside (k - done) (omega arith) in
        rw at at (ap newer (follow (k - done) (omega arith)) ∙ wrote)
  ];
  outside = λ i h.
      part.outside i (λ j small e. h (done + j) (omega arith) (follow j small ∙ e))
      ∙ so_far.outside i (λ k lt. h k (omega arith));
}

-- a set of rows of a subset lies in the shape, and its elements are so many of the subset's
pub record SetWithin (subset : Subset) (shape : List ℕ) (run rows stride q : ℕ) : Type 0 where
  pub within : (k : ℕ) → k < rows → number_in subset shape (q * (rows * run)) + k * stride + run ≤ count_of shape
  pub part : (k : ℕ) → k < rows → q * (rows * run) + k * run + run ≤ count_of subset.shape
  pub some : 0 < rows * run
  pub most : q * (rows * run) + rows * run ≤ count_of subset.shape
  pub apart : (i j : ℕ) → i < rows * run → j < rows * run
      → row_position (number_in subset shape (q * (rows * run))) stride run i ≡ row_position (number_in subset shape (q * (rows * run))) stride run j → i ≡ j

pub set_within : (subset : Subset) (shape : List ℕ) (run rows stride sets q : ℕ) → IsSubset subset.start subset.shape → LiesIn subset shape → AreSubsetRows subset shape run rows stride sets → q < sets
    → SetWithin subset shape run rows stride q
set_within subset shape run rows stride sets q well inside are lt =
    let set = rows * run in
    let first = number_in subset shape (q * set) in
    let most : q * set + set ≤ count_of subset.shape = omega (arith, are.all, row_fits q set sets set lt (omega arith)) in
    record {
      within = λ k small.
          let fits = row_fits k run rows run small (omega arith) in
          let last : k * run + (run - 1) < set = omega (arith, fits, are.some) in
          let at = are.each q (k * run + (run - 1)) lt last ∙ row_at first stride run k (run - 1) (omega (arith, are.some)) in
          let below = number_in_below subset shape (q * set + (k * run + (run - 1))) inside (omega (arith, most, last)) in
          omega (arith, at, below, are.some);
      part = λ k small. omega (arith, most, row_fits k run rows run small (omega arith));
      some = positive_product rows run are.some_rows are.some;
      most = most;
      apart = λ i j li lj e.
          let same = same_point subset shape (q * set + i) (q * set + j) well inside (omega (arith, most)) (omega (arith, most)) (are.each q i lt li ∙ (e ∙ sym (are.each q j lt lj))) in
          omega (arith, same);
    }
