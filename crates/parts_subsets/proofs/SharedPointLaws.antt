-- The points that two subsets of one shape both have: each is a place of the overlap, seen from either subset's start.
use Rattle.std.proofs.Common.{◌≡◌, ℕ, ◌+◌, ◌-◌, ◌^◌, ◌<◌, ◌≤◌, List, length, ap, sym, ◌∙◌, arith}
use Rattle.std.proofs.lemmas.List.{ext_get_or}
use Rattle.std.proofs.lemmas.List.Elements.{length_all_zip, AllZip-get_or}
use Rattle.std.specs.List.{AllZip}
use Rattle.parts_row_major.specs.Numbering.{count_of, IsInside, number_of, point_of, AllPositive, zip_with}
use Rattle.parts_row_major.specs.Subsets.{Subset, IsSubset, LiesIn, point_in, number_in}
use Rattle.parts_subsets.specs.Grid.{Divides, grid_of, cell_number, subset_of_subchunk}
use Rattle.parts_subsets.specs.Overlaps.{overlap_of, relative_subset}
use Rattle.parts_subsets.specs.Laws.{IsInSubset}
use Rattle.parts_row_major.proofs.NumberingLaws.{number_below, point_inside, point_of-number_of, same_from_number, length-point_of}
use Rattle.parts_row_major.proofs.PointLaws.{axis_positive}
use Rattle.parts_row_major.proofs.SubsetLaws.{all_zip_from_each, length-zip_with, get_or-zip_with, shifted_inside, lies_in_length, lies_in_at, lies_in_from_each, length-point_in}
use Rattle.parts_row_major.proofs.PieceLaws.{same_point}
use Rattle.parts_subsets.proofs.MissLaws.{position_of_point, on_every_axis}
use Rattle.parts_subsets.proofs.GridLaws.{axis_le_count, subset_of_subchunk-is_subset, subset_of_subchunk-lies_in, number_in-subset_of_subchunk}
use Rattle.parts_subsets.proofs.OverlapLaws.{HaveSameAxes, same_lengths, overlap_at, overlap_is_subset, overlap_has_both, relative_is_subset}

-- a subset lies within another: it has as many axes, starts no earlier on any and ends no later
pub record LiesWithinSubset (inner outer : Subset) : Type 0 where
  pub well_formed : IsSubset inner.start inner.shape
  pub same_axes : length inner.start ≡ length outer.start
  pub later : AllZip ◌≤◌ outer.start inner.start
  pub inside : LiesIn (relative_subset inner outer.start) outer.shape

-- counted from the outer start the inner subset's points are those points
module _ (inner outer : Subset) (h : LiesWithinSubset inner outer) where
  axes : length inner.start ≡ length inner.shape
  axes = length_all_zip (λ first len. first + len < 2 ^ 64) inner.start inner.shape h.well_formed

  relative_axes : length (relative_subset inner outer.start).start ≡ length inner.start
  relative_axes = length-zip_with ◌-◌ inner.start outer.start h.same_axes

  pub same_point_within : (r : ℕ) → zip_with ◌+◌ outer.start (point_in (relative_subset inner outer.start) r) ≡ point_in inner r
  same_point_within r =
      let rel = relative_subset inner outer.start in
      let at_rel = length-point_in rel.start inner.shape r (relative_axes ∙ axes) in
      let long = length-zip_with ◌+◌ outer.start (point_in rel r) (omega (arith, at_rel, axes, h.same_axes)) in
      let long_inner = length-point_in inner.start inner.shape r axes in
      let many = length-point_of r inner.shape in
      ext_get_or 0 (zip_with ◌+◌ outer.start (point_in rel r)) (point_in inner r) (omega (arith, long, long_inner, axes, h.same_axes)) (λ i lt.
      let small : i < length inner.start = omega (arith, lt, long, h.same_axes) in
      let sum = get_or-zip_with ◌+◌ outer.start (point_in rel r) i (omega (arith, small, h.same_axes)) (omega (arith, small, at_rel, axes)) in
      let position = get_or-zip_with ◌+◌ rel.start (point_of r inner.shape) i (omega (arith, small, relative_axes)) (omega (arith, small, axes, many)) in
      let moved = get_or-zip_with ◌-◌ inner.start outer.start i small (omega (arith, small, h.same_axes)) in
      let here = get_or-zip_with ◌+◌ inner.start (point_of r inner.shape) i small (omega (arith, small, axes, many)) in
      let no_less = AllZip-get_or ◌≤◌ outer.start inner.start i 0 0 h.later (omega (arith, small, h.same_axes)) in
      omega (arith, sum, position, moved, here, no_less))

  pub inside_within : (r : ℕ) → r < count_of inner.shape → IsInside (point_in (relative_subset inner outer.start) r) outer.shape
  inside_within r lt =
      shifted_inside (relative_subset inner outer.start).start inner.shape (point_of r inner.shape) outer.shape (point_inside r inner.shape lt) h.inside

  -- and have its numbers
  pub number_within : (shape : List ℕ) (r : ℕ) → r < count_of inner.shape → number_in outer shape (number_in (relative_subset inner outer.start) outer.shape r) ≡ number_in inner shape r
  number_within shape r lt =
      let rel = relative_subset inner outer.start in
      ap (λ c. number_of (zip_with ◌+◌ outer.start c) shape) (point_of-number_of (point_in rel r) outer.shape (inside_within r lt))
      ∙ ap (λ c. number_of c shape) (same_point_within r)

  pub number_within_below : (r : ℕ) → r < count_of inner.shape → number_in (relative_subset inner outer.start) outer.shape r < count_of outer.shape
  number_within_below r lt = number_below (point_in (relative_subset inner outer.start) r) outer.shape (inside_within r lt)

  pub relative_well_formed : IsSubset (relative_subset inner outer.start).start inner.shape
  relative_well_formed = relative_is_subset inner.start inner.shape outer.start h.same_axes h.later h.well_formed

-- where they meet, the overlap of two subsets lies within each
module _ (subset other : Subset) (h : HaveSameAxes subset other) where
  pub overlap_within : 0 < count_of (overlap_of subset other).shape → LiesWithinSubset (overlap_of subset other) subset
  overlap_within some =
      let o = overlap_of subset other in
      let long = same_lengths subset other h in
      let moved = length-zip_with ◌-◌ o.start subset.start long.starts in
      record {
        well_formed = overlap_is_subset subset other h;
        same_axes = long.starts;
        later = all_zip_from_each ◌≤◌ subset.start o.start (sym long.starts) (λ k lt. let at = overlap_at subset other k h lt in omega (arith, at.start));
        inside = lies_in_from_each (relative_subset o subset.start).start o.shape subset.shape (omega (arith, moved, long.starts, long.overlap_shape)) (omega (arith, moved, long.starts, long.shape)) (λ k lt.
            let below : k < length subset.start = omega (arith, lt, long.shape) in
            let at = overlap_at subset other k h below in
            let here = get_or-zip_with ◌-◌ o.start subset.start k (omega (arith, below, long.starts)) below in
            let positive = axis_positive 0 o.shape k some (omega (arith, below, long.overlap_shape)) in
            omega (arith, here, at.start, at.shape, positive));
      }

  pub overlap_within_other : 0 < count_of (overlap_of subset other).shape → LiesWithinSubset (overlap_of subset other) other
  overlap_within_other some =
      let o = overlap_of subset other in
      let long = same_lengths subset other h in
      let moved = length-zip_with ◌-◌ o.start other.start (omega (arith, long.starts, long.other_start)) in
      record {
        well_formed = overlap_is_subset subset other h;
        same_axes = omega (arith, long.starts, long.other_start);
        later = all_zip_from_each ◌≤◌ other.start o.start (omega (arith, long.starts, long.other_start)) (λ k lt.
            let at = overlap_at subset other k h (omega (arith, lt, long.other_start)) in omega (arith, at.start));
        inside = lies_in_from_each (relative_subset o other.start).start o.shape other.shape (omega (arith, moved, long.starts, long.overlap_shape))
            (omega (arith, moved, long.starts, long.other_shape)) (λ k lt.
            let below : k < length subset.start = omega (arith, lt, long.other_shape) in
            let at = overlap_at subset other k h below in
            let here = get_or-zip_with ◌-◌ o.start other.start k (omega (arith, below, long.starts)) (omega (arith, below, long.other_start)) in
            let positive = axis_positive 0 o.shape k some (omega (arith, below, long.overlap_shape)) in
            omega (arith, here, at.start, at.shape, positive));
      }

-- a place of the overlap at which both subsets have one point
pub record ShareAt (subset other : Subset) (p q : ℕ) : Type 0 where
  pub position : ℕ
  pub below : position < count_of (overlap_of subset other).shape
  pub in_subset : number_in (relative_subset (overlap_of subset other) subset.start) subset.shape position ≡ p
  pub in_other : number_in (relative_subset (overlap_of subset other) other.start) other.shape position ≡ q

-- two subsets of one shape
module _ (subset other : Subset) (shape : List ℕ) (well : IsSubset subset.start subset.shape) (other_well : IsSubset other.start other.shape) (inside : LiesIn subset shape) (other_inside : LiesIn other shape) where
  pub both_axes : HaveSameAxes subset other
  both_axes =
      let one = lies_in_length subset.start subset.shape shape (length_all_zip (λ first len. first + len < 2 ^ 64) subset.start subset.shape well) inside in
      let two = lies_in_length other.start other.shape shape (length_all_zip (λ first len. first + len < 2 ^ 64) other.start other.shape other_well) other_inside in
      record { well_formed = well; other_well_formed = other_well; same_axes = one ∙ sym two }

  -- their overlap lies in the shape
  pub overlap_lies_in : LiesIn (overlap_of subset other) shape
  overlap_lies_in =
      let o = overlap_of subset other in
      let h = both_axes in
      let long = same_lengths subset other h in
      let all = lies_in_length subset.start subset.shape shape (sym long.shape) inside in
      lies_in_from_each o.start o.shape shape (omega (arith, long.starts, long.overlap_shape)) (omega (arith, long.starts, all)) (λ k lt.
      let at = overlap_at subset other k h (omega (arith, lt, all)) in
      let ends = lies_in_at subset.start subset.shape shape k (sym long.shape) inside lt in
      let other_ends = lies_in_at other.start other.shape shape k (omega (arith, long.other_start, long.other_shape)) other_inside lt in
      omega (arith, at.start, at.shape, ends, other_ends))

  -- a place of the overlap is one point of both
  pub met_point : (r : ℕ) → r < count_of (overlap_of subset other).shape
      → number_in subset shape (number_in (relative_subset (overlap_of subset other) subset.start) subset.shape r)
      ≡ number_in other shape (number_in (relative_subset (overlap_of subset other) other.start) other.shape r)
  met_point r lt =
      let h = both_axes in
      let some : 0 < count_of (overlap_of subset other).shape = omega (arith, lt) in
      number_within (overlap_of subset other) subset (overlap_within subset other h some) shape r lt
      ∙ sym (number_within (overlap_of subset other) other (overlap_within_other subset other h some) shape r lt)

  -- and each point of both is one place of the overlap
  pub point_met : (p q : ℕ) → p < count_of subset.shape → q < count_of other.shape → number_in subset shape p ≡ number_in other shape q → ShareAt subset other p q
  point_met p q p_below q_below same =
      let o = overlap_of subset other in
      let h = both_axes in
      let long = same_lengths subset other h in
      let all = lies_in_length subset.start subset.shape shape (sym long.shape) inside in
      let point = point_in subset p in
      let here = shifted_inside subset.start subset.shape (point_of p subset.shape) shape (point_inside p subset.shape p_below) inside in
      let there = shifted_inside other.start other.shape (point_of q other.shape) shape (point_inside q other.shape q_below) other_inside in
      let one : point ≡ point_in other q = same_from_number point (point_in other q) shape here there same in
      let wide = length-point_in subset.start subset.shape p (sym long.shape) in
      let on : IsInSubset subset point = (omega (arith, wide, long.shape), λ k lt. on_every_axis subset shape well inside p p_below k (omega (arith, lt, wide, long.shape, all))) in
      let on_other : IsInSubset other point = (
        omega (arith, wide, long.shape, long.other_start),
        λ k lt.
            rw one (on_every_axis other shape other_well other_inside q q_below k (omega (arith, lt, wide, long.shape, all))),
      ) in
      let both = (overlap_has_both subset other h).in_overlap point on on_other in
      let found = position_of_point o shape (overlap_is_subset subset other h) overlap_lies_in point here (λ k lt. both.1 k (omega (arith, lt, wide, long.shape, all))) in
      let r = found.0 in
      let some : 0 < count_of o.shape = omega (arith, found.1) in
      let within = overlap_within subset other h some in
      let within_other = overlap_within_other subset other h some in
      record {
        position = r;
        below = found.1;
        in_subset = same_point subset shape (number_in (relative_subset o subset.start) subset.shape r) p well inside (number_within_below o subset within r found.1) p_below
            (number_within o subset within shape r found.1 ∙ found.2);
        in_other = same_point other shape (number_in (relative_subset o other.start) other.shape r) q other_well other_inside
            (number_within_below o other within_other r found.1) q_below
            (number_within o other within_other shape r found.1 ∙ (found.2 ∙ same));
      }

-- a subset of a shape, and a subchunk of the shape's grid
module _ (shape sub : List ℕ) (k : ℕ) (subset : Subset) (positive : AllPositive shape) (fits : count_of shape < 2 ^ 64) (divides : Divides sub shape) (below : k < count_of (grid_of shape sub))
    (well : IsSubset subset.start subset.shape) (inside : LiesIn subset shape) where
  pub subchunk_well_formed : IsSubset (subset_of_subchunk shape sub k).start sub
  subchunk_well_formed = subset_of_subchunk-is_subset shape sub k divides below (λ axis lt. omega (arith, axis_le_count shape axis positive lt, fits))

  pub subchunk_axes : HaveSameAxes subset (subset_of_subchunk shape sub k)
  subchunk_axes = both_axes subset (subset_of_subchunk shape sub k) shape well subchunk_well_formed inside (subset_of_subchunk-lies_in shape sub k divides below)

  -- a place of their overlap is one cell: the subchunk's and the subset's
  pub cell_met : (r : ℕ) → r < count_of (overlap_of subset (subset_of_subchunk shape sub k)).shape
      → cell_number shape sub k (number_in (relative_subset (overlap_of subset (subset_of_subchunk shape sub k)) (subset_of_subchunk shape sub k).start) sub r)
      ≡ number_in subset shape (number_in (relative_subset (overlap_of subset (subset_of_subchunk shape sub k)) subset.start) subset.shape r)
  cell_met r lt =
      sym (number_in-subset_of_subchunk shape sub k (number_in (relative_subset (overlap_of subset (subset_of_subchunk shape sub k)) (subset_of_subchunk shape sub k).start) sub r))
      ∙ sym (met_point subset (subset_of_subchunk shape sub k) shape well subchunk_well_formed inside (subset_of_subchunk-lies_in shape sub k divides below) r lt)

  -- and each cell of both is one place of it
  pub met_cell : (p q : ℕ) → p < count_of sub → q < count_of subset.shape → cell_number shape sub k p ≡ number_in subset shape q → ShareAt subset (subset_of_subchunk shape sub k) q p
  met_cell p q p_below q_below same =
      point_met subset (subset_of_subchunk shape sub k) shape well subchunk_well_formed inside (subset_of_subchunk-lies_in shape sub k divides below) q p q_below p_below
      (sym same ∙ sym (number_in-subset_of_subchunk shape sub k p))
