-- Where a subset and a subchunk that it touches meet.
use Rattle.std.proofs.Common.{◌≡◌, ℕ, ◌+◌, ◌-◌, ◌*◌, ◌^◌, ◌<◌, max, min, inl, inr, List, [], ◌∷◌, ◌++◌, length, get_or, refl, sym, ap, ◌∙◌, arith}
use Rattle.std.proofs.lemmas.Bool.{cases_lt}
use Rattle.std.proofs.lemmas.List.{ext_get_or, length_push, get_or_append_left, get_or_push}
use Rattle.std.proofs.lemmas.List.Elements.{AllZip-get_or}
use Rattle.parts_row_major.specs.Numbering.{count_of, AllPositive, zip_with}
use Rattle.parts_row_major.specs.Subsets.{Subset, IsSubset, LiesIn, number_in}
use Rattle.parts_subsets.specs.Grid.{Divides, grid_of, grid_subset, position_number, cell_number, subset_of_subchunk}
use Rattle.parts_subsets.specs.Touched.{Touches}
use Rattle.parts_subsets.specs.Overlaps.{overlap_of, relative_subset}
use Rattle.parts_row_major.proofs.SubsetLaws.{length-zip_with, get_or-zip_with}
use Rattle.parts_subsets.proofs.OverlapLaws.{HaveSameAxes, SameLengths, same_lengths, overlap_at}
use Rattle.sharding_format.proofs.SubsetLemmas.{zip_with-from_each}
use Rattle.parts_subsets.proofs.GridLaws.{position_number-below, cell_number-located}
use Rattle.parts_row_major.proofs.PieceLaws.{number_in_below}
use Rattle.parts_subsets.proofs.SharedPointLaws.{subchunk_axes, cell_met, met_cell, overlap_within, overlap_within_other, relative_well_formed}
use Rattle.sharding_gather.specs.SubchunkOverlaps.{IsSubchunkOverlap}

-- a subchunk ends below 2 ^ 64 along an axis
pub end_fits : (point sub : List ℕ) (k : ℕ) → length point ≡ length sub → k < length sub → IsSubset (zip_with ◌*◌ point sub) sub → get_or point k 0 * get_or sub k 0 + get_or sub k 0 < 2 ^ 64
end_fits point sub k same lt well =
    let long = length-zip_with ◌*◌ point sub same in
    rw (get_or-zip_with ◌*◌ point sub k (omega arith) lt) at (AllZip-get_or (λ first len. first + len < 2 ^ 64) (zip_with ◌*◌ point sub) sub k 0 0 well (omega (arith, long)))

-- one more number, where all before are told
told_more : (f : ℕ → ℕ) (xs : List ℕ) (n x : ℕ) → length xs ≡ n → ((k : ℕ) → k < n → get_or xs k 0 ≡ f k) → x ≡ f n → (k : ℕ) → k < n + 1 → get_or (xs ++ x ∷ []) k 0 ≡ f k
told_more f xs n x counted before here k lt =
    elim (cases_lt k n) [
      | inl less ↦ get_or_append_left xs (x ∷ []) 0 k (omega arith) ∙ before k less
      | inr ge ↦ let same : n ≡ k = omega arith in rw (← same) (get_or_push xs x 0 n counted ∙ here)
    ]

module _ (start len point sub : List ℕ) where
  -- where a subchunk begins along an axis, and where both that and the subset have begun
  abbrev origin : ℕ → ℕ
  origin k = get_or point k 0 * get_or sub k 0

  abbrev first : ℕ → ℕ
  first k = max (get_or start k 0) (origin k)

  -- what both have along the first n axes
  pub record SpansSoFar (n : ℕ) (in_subchunk in_subset lengths : List ℕ) : Type 0 where
    pub sub_counted : length in_subchunk ≡ n
    pub subset_counted : length in_subset ≡ n
    pub counted : length lengths ≡ n
    pub sub_at : (k : ℕ) → k < n → get_or in_subchunk k 0 ≡ max (get_or start k 0) (get_or point k 0 * get_or sub k 0) - get_or point k 0 * get_or sub k 0
    pub subset_at : (k : ℕ) → k < n → get_or in_subset k 0 ≡ max (get_or start k 0) (get_or point k 0 * get_or sub k 0) - get_or start k 0
    pub len_at : (k : ℕ) → k < n
        → get_or lengths k 0 ≡ min (get_or start k 0 + get_or len k 0) (get_or point k 0 * get_or sub k 0 + get_or sub k 0) - max (get_or start k 0) (get_or point k 0 * get_or sub k 0)

  pub spans_more : (n p x y z : ℕ) (in_subchunk in_subset lengths : List ℕ) → p ≡ get_or point n 0
      → x ≡ max (get_or start n 0) (p * get_or sub n 0) - p * get_or sub n 0
      → y ≡ max (get_or start n 0) (p * get_or sub n 0) - get_or start n 0
      → z ≡ min (get_or start n 0 + get_or len n 0) (p * get_or sub n 0 + get_or sub n 0) - max (get_or start n 0) (p * get_or sub n 0)
      → SpansSoFar n in_subchunk in_subset lengths → SpansSoFar (n + 1) (in_subchunk ++ x ∷ []) (in_subset ++ y ∷ []) (lengths ++ z ∷ [])
  spans_more n p x y z in_subchunk in_subset lengths position x_is y_is z_is so = record {
    sub_counted = length_push in_subchunk x ∙ ap (λ k. k + 1) so.sub_counted;
    subset_counted = length_push in_subset y ∙ ap (λ k. k + 1) so.subset_counted;
    counted = length_push lengths z ∙ ap (λ k. k + 1) so.counted;
    sub_at = told_more (λ k. first k - origin k) in_subchunk n x so.sub_counted so.sub_at (rw position at x_is);
    subset_at = told_more (λ k. first k - get_or start k 0) in_subset n y so.subset_counted so.subset_at (rw position at y_is);
    len_at = told_more (λ k. min (get_or start k 0 + get_or len k 0) (origin k + get_or sub k 0) - first k) lengths n z so.counted so.len_at (rw position at z_is);
  }

  abbrev subset_of : Subset
  subset_of = record { start = start; shape = len }

  abbrev other_of : Subset
  other_of = record { start = zip_with ◌*◌ point sub; shape = sub }

  module _ (n : ℕ) (in_subchunk in_subset lengths : List ℕ) (same : length point ≡ length sub) (alike : HaveSameAxes subset_of other_of) (all : n ≡ length sub) (so : SpansSoFar n in_subchunk in_subset lengths) where
    long : SameLengths subset_of other_of
    long = same_lengths subset_of other_of alike

    origin_at : (k : ℕ) → k < length start → get_or (zip_with ◌*◌ point sub) k 0 ≡ get_or point k 0 * get_or sub k 0
    origin_at k lt = get_or-zip_with ◌*◌ point sub k (omega (arith, long.other_shape)) (omega (arith, long.other_shape))

    lengths_met : lengths ≡ (overlap_of subset_of other_of).shape
    lengths_met =
        ext_get_or 0 lengths (overlap_of subset_of other_of).shape (omega (arith, so.counted, long.overlap_shape, long.other_shape)) (λ k lt.
        let below : k < length start = omega (arith, so.counted, long.other_shape) in
        so.len_at k (omega (arith, so.counted)) ∙ sym (rw (origin_at k below) at (overlap_at subset_of other_of k alike below).shape))

    pub met_in_subchunk : record { start = in_subchunk; shape = lengths } ≡ relative_subset (overlap_of subset_of other_of) (zip_with ◌*◌ point sub)
    met_in_subchunk =
        let is = zip_with-from_each ◌-◌ (overlap_of subset_of other_of).start (zip_with ◌*◌ point sub) in_subchunk (omega (arith, long.starts, long.other_start)) (omega (arith, so.sub_counted, long.starts, long.other_shape)) (λ k lt.
        let below : k < length start = omega (arith, lt, long.starts) in
        rw ((overlap_at subset_of other_of k alike below).start, origin_at k below) (so.sub_at k (omega (arith, long.other_shape)))) in
        rw (is, lengths_met) refl

    pub met_in_subset : record { start = in_subset; shape = lengths } ≡ relative_subset (overlap_of subset_of other_of) start
    met_in_subset =
        let is = zip_with-from_each ◌-◌ (overlap_of subset_of other_of).start start in_subset long.starts (omega (arith, so.subset_counted, long.starts, long.other_shape)) (λ k lt.
        let below : k < length start = omega (arith, lt, long.starts) in
        rw ((overlap_at subset_of other_of k alike below).start, origin_at k below) (so.subset_at k (omega (arith, long.other_shape)))) in
        rw (is, lengths_met) refl

module _ (shape sub : List ℕ) (k : ℕ) (subset : Subset) (positive : AllPositive shape) (fits : count_of shape < 2 ^ 64) (divides : Divides sub shape) (below : k < count_of (grid_of shape sub))
    (well : IsSubset subset.start subset.shape) (inside : LiesIn subset shape) where
  module _ (touches : Touches shape sub subset k) where
    pub overlap_some : 0 < count_of (overlap_of subset (subset_of_subchunk shape sub k)).shape
    overlap_some =
        let q = touches.0 in
        let i = number_in subset shape q in
        let i_below = number_in_below subset shape q inside touches.1 in
        let p = position_number shape sub i in
        let here : cell_number shape sub k p ≡ i = ap (λ j. cell_number shape sub j p) (sym touches.2) ∙ cell_number-located shape sub divides i i_below in
        let met = met_cell shape sub k subset positive fits divides below well inside p q (position_number-below shape sub divides i i_below) touches.1 here in
        omega (arith, met.below)

    -- the overlap, seen from either's start
    pub meets : (in_subchunk in_subset : Subset) → in_subchunk ≡ relative_subset (overlap_of subset (subset_of_subchunk shape sub k)) (subset_of_subchunk shape sub k).start
        → in_subset ≡ relative_subset (overlap_of subset (subset_of_subchunk shape sub k)) subset.start → IsSubchunkOverlap shape sub subset k in_subchunk in_subset
    meets in_subchunk in_subset sub_is subset_is =
        let w = overlap_within subset (subset_of_subchunk shape sub k) (subchunk_axes shape sub k subset positive fits divides below well inside) overlap_some in
        let v = overlap_within_other subset (subset_of_subchunk shape sub k) (subchunk_axes shape sub k subset positive fits divides below well inside) overlap_some in
        rw (sub_is, subset_is) (record {
          sub_inside = v.inside;
          subset_inside = w.inside;
          sub_well_formed = relative_well_formed (overlap_of subset (subset_of_subchunk shape sub k)) (subset_of_subchunk shape sub k) v;
          subset_well_formed = relative_well_formed (overlap_of subset (subset_of_subchunk shape sub k)) subset w;
          same_shape = refl;
          one_cell = cell_met shape sub k subset positive fits divides below well inside;
          met = λ p q p_below q_below same.
              let m = met_cell shape sub k subset positive fits divides below well inside p q p_below q_below same in
              (m.position, m.below, m.in_other, m.in_subset);
        })

    -- what is told of both along each axis, by lists that are the subset's, the grid's and the subchunk's
    pub spans_overlap : (start len grid part : List ℕ) (in_subchunk in_subset : Subset) → start ≡ subset.start → len ≡ subset.shape → grid ≡ grid_of shape sub → part ≡ sub
        → in_subchunk ≡ relative_subset (overlap_of (record { start = start; shape = len }) (grid_subset grid part k)) (grid_subset grid part k).start
        → in_subset ≡ relative_subset (overlap_of (record { start = start; shape = len }) (grid_subset grid part k)) start → IsSubchunkOverlap shape sub subset k in_subchunk in_subset
    spans_overlap start len grid part in_subchunk in_subset start_is len_is grid_is part_is sub_is subset_is =
        meets in_subchunk in_subset (rw (start_is, len_is, grid_is, part_is) at sub_is) (rw (start_is, len_is, grid_is, part_is) at subset_is)
