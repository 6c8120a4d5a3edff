-- The new cells of a subchunk: the update's where the subset has them, and elsewhere the old ones.
use Rattle.std.proofs.Common.{◌≡◌, ℕ, ◌+◌, ◌-◌, ◌^◌, ◌<◌, inl, inr, List, [], Option, Some, length, map, get_or, replicate, sym, ap, ◌∙◌, subst, arith}
use Rattle.std.specs.List.{All}
use Rattle.std.proofs.lemmas.List.{ext_get_or, length-map, get_or-map, length-replicate, get_or-replicate}
use Rattle.std.proofs.lemmas.List.Elements.{length_all_zip, All-get_or, All-from_get_or}
use Rattle.parts_row_major.specs.Numbering.{count_of, number_of, point_of, IsInside, AllPositive}
use Rattle.parts_row_major.specs.Subsets.{Subset, IsSubset, IsServed, LiesIn, number_in}
use Rattle.parts_subsets.specs.Grid.{cell_number}
use Rattle.parts_subsets.specs.Laws.{IsOnAxis}
use Rattle.parts_subsets.specs.Touched.{Touches}
use Rattle.parts_arrays.specs.ArraySpec.{ArraySpec, IsArrayOf}
use Rattle.parts_arrays.specs.Types.{size_of, FitsKind}
use Rattle.parts_arrays.specs.Arrays.{Array, element_of, extracted, IsOverlaid}
use Rattle.parts_row_major.proofs.CountLaws.{subset_count_le}
use Rattle.parts_row_major.proofs.NumberingLaws.{number_below, point_inside, number_of-point_of}
use Rattle.parts_row_major.proofs.SubsetLaws.{all_zip_from_each, lies_in_length, lies_in_at}
use Rattle.parts_row_major.proofs.PieceLaws.{number_in_below}
use Rattle.parts_row_major.proofs.RunLaws.{spanned_number}
use Rattle.parts_subsets.proofs.MissLaws.{on_or_off, position_of_point, elsewhere_from_off}
use Rattle.sharding_gather.specs.SubchunkOverlaps.{IsSubchunkOverlap}
use Rattle.sharding_write.specs.Writing.{IsUncovered, AreNewCells}
use Rattle.sharding_write.specs.WriteRefusals.{Straddles}
use Rattle.sharding_write.proofs.PartLemmas.{counted, element_at, fitting}

-- a subset has as many starts as lengths
pub axes_of : (subset : Subset) → IsSubset subset.start subset.shape → length subset.start ≡ length subset.shape
axes_of subset well = length_all_zip (λ begin len. begin + len < 2 ^ 64) subset.start subset.shape well

module _ (shape : List ℕ) (sub_g : ArraySpec) (subset : Subset) (k : ℕ) (in_subchunk in_subset : Subset) (m : IsSubchunkOverlap shape sub_g.shape subset k in_subchunk in_subset) where
  pub counted_part : (update part : Array) → part ≡ extracted update in_subset subset.shape → length part.elements ≡ count_of in_subchunk.shape
  counted_part update part is = ap (λ (a : Array). length a.elements) is ∙ (counted update in_subset subset.shape ∙ ap count_of (sym m.same_shape))

  -- both subsets lie where they are seen from
  pub served_in_subset : IsSubset subset.start subset.shape → LiesIn subset shape → count_of shape < 2 ^ 64 → IsServed in_subset subset.shape
  served_in_subset well inside fits = (m.subset_inside, omega (arith, subset_count_le subset.start subset.shape shape (axes_of subset well) inside, fits))

  -- the part of the update that was taken out
  part_at : (update part : Array) (r : ℕ) → part ≡ extracted update in_subset subset.shape → r < count_of in_subchunk.shape
      → get_or part.elements r [] ≡ get_or update.elements (number_in in_subset subset.shape r) []
  part_at update part r is lt =
      let below : r < count_of in_subset.shape = omega (arith, lt, ap count_of m.same_shape) in
      ap (λ (a : Array). get_or a.elements r []) is ∙ element_at update in_subset subset.shape r below

  fitting_part : (update part : Array) → part ≡ extracted update in_subset subset.shape → length update.elements ≡ count_of subset.shape → All (FitsKind (size_of sub_g.data_type)) update.elements
      → All (FitsKind (size_of sub_g.data_type)) part.elements
  fitting_part update part is all fits = rw is (fitting (size_of sub_g.data_type) update in_subset subset.shape m.subset_inside all fits)

  -- a subset that has the whole subchunk
  module _ (whole : in_subchunk.shape ≡ sub_g.shape) (axes : length in_subchunk.start ≡ length in_subchunk.shape) where
    whole_position : (r : ℕ) → r < count_of sub_g.shape → number_in in_subchunk sub_g.shape r ≡ r
    whole_position r lt =
        let inside : LiesIn (record { start = in_subchunk.start; shape = sub_g.shape }) sub_g.shape = rw whole at m.sub_inside in
        ap (λ (s : List ℕ). number_in (record { start = in_subchunk.start; shape = s }) sub_g.shape r) whole
        ∙ spanned_number in_subchunk.start sub_g.shape r (rw whole at axes) inside lt

    covered_at : (p : ℕ) → p < count_of sub_g.shape → ¬ (IsUncovered shape sub_g.shape subset k p)
    covered_at p lt none =
        let below : p < count_of in_subchunk.shape = omega (arith, lt, ap count_of whole) in
        let here = m.one_cell p below in
        none (number_in in_subset subset.shape p) (number_in_below in_subset subset.shape p m.subset_inside (omega (arith, below, ap count_of m.same_shape)))
        (ap (cell_number shape sub_g.shape k) (sym (whole_position p lt)) ∙ here)

    pub no_straddle : ¬ (Straddles shape sub_g.shape subset k)
    no_straddle s = covered_at s.position s.inside s.uncovered

    pub covered_array : (update part : Array) → part ≡ extracted update in_subset subset.shape → length update.elements ≡ count_of subset.shape
        → All (FitsKind (size_of sub_g.data_type)) update.elements → IsArrayOf sub_g part.elements
    covered_array update part is counted fits = record { counted = counted_part update part is ∙ ap count_of whole; fitting = fitting_part update part is counted fits }

    pub covered_cells : (update part : Array) (old : ℕ → Option (List ℕ)) → part ≡ extracted update in_subset subset.shape → length update.elements ≡ count_of subset.shape
        → All (FitsKind (size_of sub_g.data_type)) update.elements → AreNewCells shape sub_g subset update.elements old k part.elements
    covered_cells update part old is counted fits = record {
      array = covered_array update part is counted fits;
      given = λ p q p_below q_below same.
          let r = m.met p q p_below q_below same in
          let here : r.0 ≡ p = sym (whole_position r.0 (omega (arith, r.1, ap count_of whole))) ∙ r.2 in
          ap (λ i. get_or part.elements i []) (sym here) ∙ part_at update part r.0 is r.1 ∙ ap (element_of update) r.3;
      kept = λ p p_below none. absurd (covered_at p p_below none);
    }

  -- a subset that has some of the subchunk
  pub overlaid_cells : (update part before after : Array) (old : ℕ → Option (List ℕ)) → part ≡ extracted update in_subset subset.shape → IsOverlaid in_subchunk sub_g.shape before part after
      → IsArrayOf sub_g before.elements → IsArrayOf sub_g after.elements
      → ((p : ℕ) → p < count_of sub_g.shape → old p ≡ Some (get_or before.elements p []))
      → AreNewCells shape sub_g subset update.elements old k after.elements
  overlaid_cells update part before after old is overlaid array array_after cells = record {
    array = array_after;
    given = λ p q p_below q_below same.
        let r = m.met p q p_below q_below same in
        ap (element_of after) (sym r.2) ∙ overlaid.elements.inside r.0 r.1 ∙ part_at update part r.0 is r.1 ∙ ap (element_of update) r.3;
    kept = λ p p_below none. cells p p_below ∙ ap Some (sym (overlaid.elements.outside p (λ r lt here.
        none (number_in in_subset subset.shape r) (number_in_below in_subset subset.shape r m.subset_inside (omega (arith, lt, ap count_of m.same_shape)))
        (ap (cell_number shape sub_g.shape k) (sym here) ∙ m.one_cell r lt))));
  }

  fitting_after : (part before after : Array) (kind_fits : All (FitsKind (size_of sub_g.data_type)) part.elements) → length part.elements ≡ count_of in_subchunk.shape
      → IsOverlaid in_subchunk sub_g.shape before part after → IsArrayOf sub_g before.elements → IsArrayOf sub_g after.elements
  fitting_after part before after kind_fits counted overlaid array = record {
    counted = overlaid.same_count ∙ array.counted;
    fitting = All-from_get_or (FitsKind (size_of sub_g.data_type)) after.elements [] (λ i lt.
        let below : i < count_of sub_g.shape = omega (arith, lt, overlaid.same_count, array.counted) in
        let point = point_of i sub_g.shape in
        let inside = point_inside i sub_g.shape below in
        let same = number_of-point_of i sub_g.shape below in
        elim (on_or_off in_subchunk point (length sub_g.shape)) [
          | inl on ↦
              let place = position_of_point in_subchunk sub_g.shape m.sub_well_formed m.sub_inside point inside on in
              subst (FitsKind (size_of sub_g.data_type)) (sym (overlaid.elements.inside place.0 place.1) ∙ ap (element_of after) (place.2 ∙ same))
              (All-get_or (FitsKind (size_of sub_g.data_type)) part.elements place.0 [] (omega (arith, place.1, counted)) kind_fits)
          | inr off ↦
              let elsewhere = elsewhere_from_off in_subchunk sub_g.shape m.sub_well_formed m.sub_inside point off.0 inside off.1 off.2 in
              subst (FitsKind (size_of sub_g.data_type)) (sym (overlaid.elements.outside i (λ r r_lt here. elsewhere r r_lt (here ∙ sym same))))
              (All-get_or (FitsKind (size_of sub_g.data_type)) before.elements i [] (omega (arith, below, array.counted)) array.fitting)
        ]);
  }

  pub overlaid_array : (update part before after : Array) → part ≡ extracted update in_subset subset.shape → length update.elements ≡ count_of subset.shape
      → All (FitsKind (size_of sub_g.data_type)) update.elements → IsOverlaid in_subchunk sub_g.shape before part after → IsArrayOf sub_g before.elements → IsArrayOf sub_g after.elements
  overlaid_array update part before after is counted fits overlaid array =
      fitting_after part before after (fitting_part update part is counted fits) (counted_part update part is) overlaid array

  -- the subchunk's cells where the subset has some of it
  pub overlaid_part : (update part before after : Array) (old : ℕ → Option (List ℕ)) → part ≡ extracted update in_subset subset.shape → length update.elements ≡ count_of subset.shape
      → All (FitsKind (size_of sub_g.data_type)) update.elements → IsOverlaid in_subchunk sub_g.shape before part after → IsArrayOf sub_g before.elements
      → ((p : ℕ) → p < count_of sub_g.shape → old p ≡ Some (get_or before.elements p [])) → AreNewCells shape sub_g subset update.elements old k after.elements
  overlaid_part update part before after old is counted fits overlaid array cells =
      overlaid_cells update part before after old is overlaid array
      (fitting_after part before after (fitting_part update part is counted fits) (counted_part update part is) overlaid array) cells

  -- where it doesn't have the whole, it leaves the first or the last place
  module _ (positive : AllPositive sub_g.shape) where
    leaves : (point : List ℕ) → IsInside point sub_g.shape → (axis : ℕ) × (axis < length sub_g.shape) × (¬ IsOnAxis in_subchunk point axis) → IsUncovered shape sub_g.shape subset k (number_of point sub_g.shape)
    leaves point inside off = λ q q_below same.
        let r = m.met (number_of point sub_g.shape) q (number_below point sub_g.shape inside) q_below same in
        elsewhere_from_off in_subchunk sub_g.shape m.sub_well_formed m.sub_inside point off.0 inside off.1 off.2 r.0 r.1 r.2

    pub straddles : Touches shape sub_g.shape subset k → (¬ (in_subchunk.shape ≡ sub_g.shape)) → Straddles shape sub_g.shape subset k
    straddles touches some =
        let n = length sub_g.shape in
        let first = replicate {A = ℕ} n 0 in
        let last = map (λ (axis : ℕ). axis - 1) sub_g.shape in
        let first_long : length first ≡ n = length-replicate n 0 in
        let last_long : length last ≡ n = length-map sub_g.shape (λ (axis : ℕ). axis - 1) in
        let first_at : (j : ℕ) → j < n → get_or first j 0 ≡ 0 = λ j lt. get_or-replicate {A = ℕ} n j 0 0 lt in
        let last_at : (j : ℕ) → j < n → get_or last j 0 ≡ get_or sub_g.shape j 0 - 1 = λ j lt. get_or-map (λ (axis : ℕ). axis - 1) sub_g.shape j 0 0 lt in
        let first_in : IsInside first sub_g.shape = all_zip_from_each (λ x axis. x < axis) first sub_g.shape first_long (λ j lt.
        omega (arith, first_at j (omega (arith, lt, first_long)), positive j 0 (omega (arith, lt, first_long)))) in
        let last_in : IsInside last sub_g.shape = all_zip_from_each (λ x axis. x < axis) last sub_g.shape last_long (λ j lt.
        omega (arith, last_at j (omega (arith, lt, last_long)), positive j 0 (omega (arith, lt, last_long)))) in
        let axes = length_all_zip (λ begin len. begin + len < 2 ^ 64) in_subchunk.start in_subchunk.shape m.sub_well_formed in
        let all = lies_in_length in_subchunk.start in_subchunk.shape sub_g.shape axes m.sub_inside in
        elim (on_or_off in_subchunk first n) [
          | inr off ↦ record { touches = touches; position = number_of first sub_g.shape; inside = number_below first sub_g.shape first_in; uncovered = leaves first first_in off }
          | inl on ↦ elim (on_or_off in_subchunk last n) [
            | inr off ↦ record { touches = touches; position = number_of last sub_g.shape; inside = number_below last sub_g.shape last_in; uncovered = leaves last last_in off }
            | inl on_last ↦ absurd (some (ext_get_or 0 in_subchunk.shape sub_g.shape (omega (arith, axes, all)) (λ j lt.
                let below : j < n = omega (arith, lt, axes, all) in
                omega (arith, (on j below).0, first_at j below, (on_last j below).1, last_at j below, positive j 0 below, lies_in_at in_subchunk.start in_subchunk.shape sub_g.shape j axes m.sub_inside below))))
          ]
        ]
