-- Parts of a subset, put one after the other in any order.
use Rattle.std.proofs.Common.{◌≡◌, ◌≢◌, ℕ, ◌<◌, List, ◌∷◌, Some, inl, inr, refl, sym, ap, ◌∙◌, arith}
use Rattle.std.proofs.lemmas.Bool.{cases_eq}
use Rattle.parts_errors.specs.Words.{Bytes, CellsOf}
use Rattle.parts_row_major.specs.Numbering.{count_of}
use Rattle.parts_row_major.specs.Subsets.{Subset, LiesIn, number_in}
use Rattle.parts_subsets.specs.Grid.{Divides, grid_of, subchunk_number, position_number, cell_number}
use Rattle.parts_row_major.specs.Pieces.{IsUpdated}
use Rattle.parts_row_major.proofs.PieceLaws.{number_in_below}
use Rattle.parts_subsets.proofs.GridLaws.{position_number-below, cell_number-located, subchunk_number-cell_number}
use Rattle.sharding_format.specs.Cells.{indexed_cell}
use Rattle.sharding_gather.specs.SubchunkOverlaps.{IsSubchunkOverlap}
use Rattle.sharding_plans.specs.Puts.{element_of, ArePut, AreApart, AllArePut, AreDecoded}

module _ (shape sub : List ℕ) (subset : Subset) (divides : Divides sub shape) (lies : LiesIn subset shape) (place : ℕ → ℕ) (element : ℕ → ℕ → Bytes) where
  module _ (puts : List ℕ) (first old new : ℕ → Bytes) (k : ℕ) (in_subchunk in_subset : Subset) (apart : AreApart subset place) (below : k < count_of (grid_of shape sub))
      (m : IsSubchunkOverlap shape sub subset k in_subchunk in_subset)
      (wrote : IsUpdated (count_of in_subchunk.shape) (λ r. place (number_in in_subset subset.shape r)) old (λ r. element k (number_in in_subchunk sub r)) new)
      (known : ArePut shape sub subset place element puts first old) where
    in_subset_below : (r : ℕ) → r < count_of in_subchunk.shape → number_in in_subset subset.shape r < count_of subset.shape
    in_subset_below r lr = number_in_below in_subset subset.shape r m.subset_inside (omega (arith, lr, ap count_of m.same_shape))

    -- an element of another subchunk is not overwritten
    kept : (q : ℕ) → q < count_of subset.shape → subchunk_number shape sub (number_in subset shape q) ≢ k → new (place q) ≡ old (place q)
    kept q lq other = wrote.outside (place q) (λ r lr e.
        let same : number_in in_subset subset.shape r ≡ q = apart (number_in in_subset subset.shape r) q (in_subset_below r lr) lq e in
        other (
        ap (λ i. subchunk_number shape sub (number_in subset shape i)) (sym same)
        ∙ (ap (subchunk_number shape sub) (sym (m.one_cell r lr)) ∙ subchunk_number-cell_number shape sub divides k (number_in in_subchunk sub r) below (number_in_below in_subchunk sub r m.sub_inside lr))))

    put_here : (q : ℕ) → q < count_of subset.shape → subchunk_number shape sub (number_in subset shape q) ≡ k → new (place q) ≡ element_of shape sub subset element q
    put_here q lq at =
        let i = number_in subset shape q in
        let li = number_in_below subset shape q lies lq in
        let here : cell_number shape sub k (position_number shape sub i) ≡ i = ap (λ s. cell_number shape sub s (position_number shape sub i)) (sym at) ∙ cell_number-located shape sub divides i li in
        let met = m.met (position_number shape sub i) q (position_number-below shape sub divides i li) lq here in
        ap (λ p. new (place p)) (sym met.3)
        ∙ (wrote.inside met.0 met.1
        ∙ (ap (element k) met.2 ∙ ap (λ s. element s (position_number shape sub i)) (sym at)))

    pub put_more : ArePut shape sub subset place element (k ∷ puts) first new
    put_more = record {
      inside = λ q lq among. elim (cases_eq (subchunk_number shape sub (number_in subset shape q)) k) [
        | inl at ↦ put_here q lq at
        | inr other ↦ elim among [
          | inl at ↦ absurd (other at)
          | inr before ↦ kept q lq other ∙ known.inside q lq before
        ]
      ];
      outside = λ i none. wrote.outside i (λ r lr e. none (number_in in_subset subset.shape r) (in_subset_below r lr) e) ∙ known.outside i none;
    }

  -- once all are put, the elements are the cells of the shard
  pub put_read : (inner_cells : CellsOf) (fill object numbers puts : List ℕ) (first new : ℕ → Bytes) → AllArePut shape sub subset puts
      → AreDecoded inner_cells shape sub subset fill object numbers element → ArePut shape sub subset place element puts first new
      → (q : ℕ) → q < count_of subset.shape
      → indexed_cell inner_cells shape sub fill object numbers (number_in subset shape q) ≡ Some (new (place q))
  put_read inner_cells fill object numbers puts first new all decoded known q lq =
      let i = number_in subset shape q in
      let li = number_in_below subset shape q lies lq in
      decoded (subchunk_number shape sub i) (position_number shape sub i) (q, lq, refl) (position_number-below shape sub divides i li)
      ∙ ap Some (sym (known.inside q lq (all (subchunk_number shape sub i) (q, lq, refl))))
