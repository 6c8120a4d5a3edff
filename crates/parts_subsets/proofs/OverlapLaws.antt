-- The subset where two subsets meet, by axis.
use Rattle.std.proofs.Common.{◌≡◌, ℕ, ◌+◌, ◌-◌, ◌^◌, ◌<◌, ◌≤◌, List, [], ◌∷◌, ◌++◌, length, get_or, take, sym, ◌∙◌, arith, max, min}
use Rattle.std.proofs.lemmas.List.{take_all}
use Rattle.std.proofs.lemmas.List.Elements.{length_all_zip, AllZip-get_or}
use Rattle.std.specs.List.{AllZip}
use Rattle.parts_row_major.specs.Numbering.{zip_with}
use Rattle.parts_row_major.specs.Subsets.{Subset, IsSubset, end_of}
use Rattle.parts_subsets.specs.Overlaps.{overlap_of}
use Rattle.parts_subsets.specs.Laws.{IsOnAxis, IsInSubset, OverlapLaw}
use Rattle.parts_row_major.proofs.SubsetLaws.{all_zip_from_each, length-zip_with, get_or-zip_with, zip_with_more}

-- two subsets of as many axes, each of which is a subset
pub record HaveSameAxes (subset other : Subset) : Type 0 where
  pub well_formed : IsSubset subset.start subset.shape
  pub other_well_formed : IsSubset other.start other.shape
  pub same_axes : length subset.start ≡ length other.start

-- as many numbers in each of the lists of two subsets
pub record SameLengths (subset other : Subset) : Type 0 where
  pub shape : length subset.shape ≡ length subset.start
  pub other_start : length other.start ≡ length subset.start
  pub other_shape : length other.shape ≡ length subset.start
  pub ends : length (zip_with min (end_of subset) (end_of other)) ≡ length subset.start
  pub starts : length (zip_with max subset.start other.start) ≡ length subset.start
  pub overlap_shape : length (overlap_of subset other).shape ≡ length subset.start

pub same_lengths : (subset other : Subset) → HaveSameAxes subset other → SameLengths subset other
same_lengths subset other h =
    let one = length_all_zip _ subset.start subset.shape h.well_formed in
    let two = length_all_zip _ other.start other.shape h.other_well_formed in
    let end = length-zip_with ◌+◌ subset.start subset.shape one in
    let other_end = length-zip_with ◌+◌ other.start other.shape two in
    let ends = length-zip_with min (end_of subset) (end_of other) (omega (arith, end, other_end, h.same_axes)) in
    let starts = length-zip_with max subset.start other.start h.same_axes in
    let shapes = length-zip_with ◌-◌ (zip_with min (end_of subset) (end_of other)) (zip_with max subset.start other.start) (omega (arith, ends, starts, end)) in
    record {
      shape = sym one;
      other_start = sym h.same_axes;
      other_shape = omega (arith, two, h.same_axes);
      ends = ends ∙ end;
      starts = starts;
      overlap_shape = shapes ∙ (ends ∙ end);
    }

-- where the overlap starts along an axis, and how long it is there
pub record OverlapAt (subset other : Subset) (k : ℕ) : Type 0 where
  pub start : get_or (overlap_of subset other).start k 0 ≡ max (get_or subset.start k 0) (get_or other.start k 0)
  pub end : get_or (zip_with min (end_of subset) (end_of other)) k 0 ≡ min (get_or subset.start k 0 + get_or subset.shape k 0) (get_or other.start k 0 + get_or other.shape k 0)
  pub shape : get_or (overlap_of subset other).shape k 0
      ≡ min (get_or subset.start k 0 + get_or subset.shape k 0) (get_or other.start k 0 + get_or other.shape k 0) - max (get_or subset.start k 0) (get_or other.start k 0)

pub overlap_at : (subset other : Subset) (k : ℕ) → HaveSameAxes subset other → k < length subset.start → OverlapAt subset other k
overlap_at subset other k h lt =
    let long = same_lengths subset other h in
    let one = length-zip_with ◌+◌ subset.start subset.shape (sym long.shape) in
    let two = length-zip_with ◌+◌ other.start other.shape (omega (arith, long.other_start, long.other_shape)) in
    let start = get_or-zip_with max subset.start other.start k lt (omega (arith, long.other_start)) in
    let subset_end = get_or-zip_with ◌+◌ subset.start subset.shape k lt (omega (arith, long.shape)) in
    let other_end = get_or-zip_with ◌+◌ other.start other.shape k (omega (arith, long.other_start)) (omega (arith, long.other_shape)) in
    let end = get_or-zip_with min (end_of subset) (end_of other) k (omega (arith, one)) (omega (arith, two, long.other_start)) in
    let shape = get_or-zip_with ◌-◌ (zip_with min (end_of subset) (end_of other)) (zip_with max subset.start other.start) k (omega (arith, long.ends)) (omega (arith, long.starts)) in
    let end_is = rw (subset_end, other_end) at end in
    record { start = start; end = end_is; shape = rw (end_is, start) at shape }

-- the overlap is a subset
pub overlap_is_subset : (subset other : Subset) → HaveSameAxes subset other → IsSubset (overlap_of subset other).start (overlap_of subset other).shape
overlap_is_subset subset other h =
    let long = same_lengths subset other h in
    all_zip_from_each (λ first len. first + len < 2 ^ 64) (overlap_of subset other).start (overlap_of subset other).shape (omega (arith, long.starts, long.overlap_shape))
    (λ k lt.
    let below : k < length subset.start = omega (arith, long.starts) in
    let at = overlap_at subset other k h below in
    let fits = AllZip-get_or (λ first len. first + len < 2 ^ 64) subset.start subset.shape k 0 0 h.well_formed below in
    let other_fits = AllZip-get_or (λ first len. first + len < 2 ^ 64) other.start other.shape k 0 0 h.other_well_formed (omega (arith, long.other_start)) in
    omega (arith, at.start, at.shape, fits, other_fits))

-- one axis more of how long the overlap is
pub overlap_length_more : (subset other : Subset) (k a n b m first end len : ℕ) (lengths more_lengths : List ℕ) → HaveSameAxes subset other → k < length subset.start
    → a ≡ get_or subset.start k 0 → n ≡ get_or subset.shape k 0 → b ≡ get_or other.start k 0 → m ≡ get_or other.shape k 0
    → first ≡ max a b → end ≡ min (a + n) (b + m) → len ≡ end - first
    → lengths ≡ take k (overlap_of subset other).shape → more_lengths ≡ lengths ++ len ∷ [] → more_lengths ≡ take (k + 1) (overlap_of subset other).shape
overlap_length_more subset other k a n b m first end len lengths more_lengths h lt ae ne be me first_is end_is len_is so_far more =
    let long = same_lengths subset other h in
    let at = overlap_at subset other k h lt in
    zip_with_more ◌-◌ (zip_with min (end_of subset) (end_of other)) (zip_with max subset.start other.start) k end first lengths more_lengths
    (omega (arith, long.ends, long.starts)) (omega (arith, long.ends)) (omega (arith, at.end, end_is, ae, ne, be, me)) (omega (arith, at.start, first_is, ae, be))
    so_far (rw len_is at more)

pub overlap_lengths_whole : (subset other : Subset) (k : ℕ) (lengths : List ℕ) → HaveSameAxes subset other → length subset.start ≤ k → lengths ≡ take k (overlap_of subset other).shape → lengths ≡ (overlap_of subset other).shape
overlap_lengths_whole subset other k lengths h all so_far =
    so_far ∙ take_all k (overlap_of subset other).shape (omega (arith, (same_lengths subset other h).overlap_shape))

-- a subset that starts below an origin on no axis is a subset when its coordinates are counted from there
pub relative_is_subset : (start shape origin : List ℕ) → length start ≡ length origin → AllZip ◌≤◌ origin start → IsSubset start shape → IsSubset (zip_with ◌-◌ start origin) shape
relative_is_subset start shape origin same below well =
    let long = length_all_zip _ start shape well in
    let moved = length-zip_with ◌-◌ start origin same in
    all_zip_from_each (λ first len. first + len < 2 ^ 64) (zip_with ◌-◌ start origin) shape (moved ∙ long)
    (λ k lt.
    let at = get_or-zip_with ◌-◌ start origin k (omega (arith, moved)) (omega (arith, moved)) in
    let fits = AllZip-get_or (λ first len. first + len < 2 ^ 64) start shape k 0 0 well (omega (arith, moved)) in
    omega (arith, at, fits))

-- along an axis, the overlap has the numbers that both subsets have
on_both : (subset other : Subset) (point : List ℕ) (k : ℕ) → HaveSameAxes subset other → k < length subset.start → IsOnAxis (overlap_of subset other) point k → IsOnAxis subset point k × IsOnAxis other point k
on_both subset other point k h lt on =
    let at = overlap_at subset other k h lt in
    let low : get_or (overlap_of subset other).start k 0 ≤ get_or point k 0 = on.0 in
    let high : get_or point k 0 < get_or (overlap_of subset other).start k 0 + get_or (overlap_of subset other).shape k 0 = on.1 in
    ((omega (arith, at.start, low), omega (arith, at.start, at.shape, low, high)), (omega (arith, at.start, low), omega (arith, at.start, at.shape, low, high)))

on_overlap : (subset other : Subset) (point : List ℕ) (k : ℕ) → HaveSameAxes subset other → k < length subset.start → IsOnAxis subset point k → IsOnAxis other point k → IsOnAxis (overlap_of subset other) point k
on_overlap subset other point k h lt on other_on =
    let at = overlap_at subset other k h lt in
    (omega (arith, at.start, on.0, other_on.0), omega (arith, at.start, at.shape, on.0, on.1, other_on.0, other_on.1))

pub overlap_has_both : (subset other : Subset) → HaveSameAxes subset other → OverlapLaw subset other
overlap_has_both subset other h =
    let long = same_lengths subset other h in
    let same : length (overlap_of subset other).start ≡ length subset.start = long.starts in
    let both = λ (point : List ℕ) (inside : IsInSubset (overlap_of subset other) point) (k : ℕ) (lt : k < length point).
    on_both subset other point k h (omega (arith, inside.0, same, lt)) (inside.1 k lt) in
    record {
      in_both = λ point inside.
          ((inside.0 ∙ same, λ k lt. (both point inside k lt).0), (inside.0 ∙ (same ∙ h.same_axes), λ k lt. (both point inside k lt).1));
      in_overlap = λ point inside other_inside.
          (inside.0 ∙ sym same, λ k lt. on_overlap subset other point k h (omega (arith, inside.0, lt)) (inside.1 k lt) (other_inside.1 k lt));
    }
