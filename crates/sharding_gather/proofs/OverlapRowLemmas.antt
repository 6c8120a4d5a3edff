-- Where a subset meets a subchunk, by rows in the array that the subset is read into and in the subchunk.
use Rattle.std.proofs.Common.{◌≡◌, ◌∙◌, ℕ, ◌+◌, ◌-◌, ◌*◌, ◌/◌, ◌%◌, ◌^◌, ◌<◌, max, min, List, length, get_or, take, drop, refl, ap, sym, subst, arith}
use Rattle.std.proofs.lemmas.List.{drop_all, drop_more}
use Rattle.std.proofs.lemmas.List.Elements.{length_all_zip, AllZip-get_or}
use Rattle.std.proofs.lemmas.Nat.{mod_below}
use Rattle.parts_row_major.specs.Numbering.{count_of, number_of, point_of, zip_with, AllPositive, IsInside}
use Rattle.parts_row_major.specs.Subsets.{Subset, IsSubset, IsServed, LiesIn, number_in}
use Rattle.parts_row_major.proofs.CountLaws.{subset_count_le}
use Rattle.parts_row_major.proofs.NumberingLaws.{number_below, both_positive, length-point_of, point_inside, count_of-drop, number_of-drop, count_of_drop_le}
use Rattle.parts_row_major.proofs.PieceLaws.{number_in_below, same_point}
use Rattle.parts_row_major.proofs.PointLaws.{AxisStep, axis_positive, count_split, point_of_at}
use Rattle.parts_row_major.proofs.SubsetLaws.{length-zip_with, get_or-zip_with, lies_in_length, shifted_inside}
use Rattle.parts_subsets.specs.Grid.{Divides, grid_of, grid_subset, subset_of_subchunk}
use Rattle.parts_subsets.specs.Overlaps.{overlap_of, relative_subset}
use Rattle.parts_subsets.specs.Touched.{Touches}
use Rattle.parts_subsets.proofs.GridLaws.{at_least, length-grid}
use Rattle.parts_subsets.proofs.OverlapLaws.{HaveSameAxes, SameLengths, same_lengths, overlap_at}
use Rattle.parts_subsets.proofs.SetLaws.{first_point}
use Rattle.parts_subsets.proofs.SharedPointLaws.{subchunk_well_formed}
use Rattle.parts_strided_copy.specs.Paired.{element_along, steps_of, elements_in_rows, from_at, ArePairedRows, AreRowsOf, AreWidened}
use Rattle.parts_strided_copy.specs.declared.paired.AxisStart.{AxisStart}
use Rattle.parts_strided_copy.specs.declared.paired.PairedRows.{PairedRows}
use Rattle.parts_strided_copy.specs.declared.paired.RowStep.{RowStep}
use Rattle.parts_strided_copy.proofs.PairedLemmas.{along-first}
use Rattle.sharding_gather.specs.SubchunkOverlaps.{IsSubchunkOverlap}
use Rattle.sharding_gather.specs.steps.Placings.{shifted_subset}
use Rattle.sharding_gather.specs.steps.OverlapRows.{shared_in_subchunk, shared_in_array, CanShare, AreOverlapRows}
use Rattle.sharding_gather.proofs.MetPositions.{positions_fit}
use Rattle.sharding_gather.proofs.PlacingLemmas.{placed-is_subset, placed-lies_in}
use Rattle.sharding_gather.proofs.SubchunkOverlapLemmas.{end_fits, overlap_some, meets}
use Rattle.sharding_gather.proofs.SubchunkRowLemmas.{number_in-from}

-- rows that stand for the last axes of a subset of two arrays, from axis i on
pub record AreRowsFrom (i : ℕ) (lens into around from sub : List ℕ) (rows : PairedRows) : Type 0 where
  pub are_rows : ArePairedRows rows
  pub counted : elements_in_rows rows ≡ count_of (drop i lens)
  pub into_first : rows.into ≡ number_of (drop i into) (drop i around)
  pub from_first : rows.from ≡ number_of (drop i from) (drop i sub)
  pub into_along : (k : ℕ) → k < count_of (drop i lens) → element_along (λ step. step.into) rows.run (steps_of rows) k ≡ number_of (point_of k (drop i lens)) (drop i around)
  pub from_along : (k : ℕ) → k < count_of (drop i lens) → element_along (λ step. step.from) rows.run (steps_of rows) k ≡ number_of (point_of k (drop i lens)) (drop i sub)

-- as many numbers in each list
pub record HaveAxes (n : ℕ) (lens into around from sub : List ℕ) : Type 0 where
  pub of_lens : length lens ≡ n
  pub of_into : length into ≡ n
  pub of_around : length around ≡ n
  pub of_from : length from ≡ n
  pub of_sub : length sub ≡ n

-- one element stands for no axes
pub rows_none : (n : ℕ) (lens into around from sub : List ℕ) (rows : PairedRows) → HaveAxes n lens into around from sub → ArePairedRows rows → elements_in_rows rows ≡ 1 → rows.into ≡ 0 → rows.from ≡ 0
    → AreRowsFrom n lens into around from sub rows
rows_none n lens into around from sub rows have are one into_is from_is =
    let no_lens = drop_all n lens (omega (arith, have.of_lens)) in
    let no_into = drop_all n into (omega (arith, have.of_into)) in
    let no_from = drop_all n from (omega (arith, have.of_from)) in
    record {
      are_rows = are;
      counted = rw no_lens one;
      into_first = rw no_into into_is;
      from_first = rw no_from from_is;
      into_along = rw no_lens (λ k lt. along-first (λ (step : RowStep). step.into) rows.run (steps_of rows) k lt);
      from_along = rw no_lens (λ k lt. along-first (λ (step : RowStep). step.from) rows.run (steps_of rows) k lt);
    }

-- how far elements lie behind the first with one axis more
along_more : (i j k : ℕ) (lens around : List ℕ) (new old : ℕ → ℕ) → i + 1 ≡ j → i < length lens → i < length around → 0 < count_of (drop j lens)
    → new k ≡ (k / count_of (drop j lens)) * count_of (drop j around) + old (k % count_of (drop j lens))
    → ((r : ℕ) → r < count_of (drop j lens) → old r ≡ number_of (point_of r (drop j lens)) (drop j around))
    → new k ≡ number_of (point_of k (drop i lens)) (drop i around)
along_more i j k lens around new old e in_lens in_around some step before =
    let whole = rw e at (drop_more lens i 0 in_lens) in
    let whole_around = rw e at (drop_more around i 0 in_around) in
    let count = count_of (drop j lens) in
    rw (whole, whole_around) (step ∙ ap (λ n. (k / count) * count_of (drop j around) + n) (before (k % count) (mod_below k count some)))

-- one axis more
pub rows_more : (n i j len : ℕ) (a f : AxisStart) (lens into around from sub : List ℕ) (old new : PairedRows) → HaveAxes n lens into around from sub → i + 1 ≡ j → i < n
    → AreRowsFrom j lens into around from sub old → AreWidened old new len a f → len ≡ get_or lens i 0 → a.start ≡ get_or into i 0 → a.stride ≡ count_of (drop j around)
    → f.start ≡ get_or from i 0 → f.stride ≡ count_of (drop j sub) → AreRowsFrom i lens into around from sub new
rows_more n i j len a f lens into around from sub old new have e lt before widened len_is a_start a_stride f_start f_stride =
    let some : 0 < count_of (drop j lens) = omega (arith, before.are_rows.some, before.counted) in
    let counted = rw e at (count_of-drop lens i (omega (arith, have.of_lens))) in
    let all : len * elements_in_rows old ≡ count_of (drop i lens) = ap (λ m. m * elements_in_rows old) len_is ∙ (ap (λ m. get_or lens i 0 * m) before.counted ∙ sym counted) in
    let into_more = rw e at (number_of-drop into around i (omega (arith, have.of_into)) (omega (arith, have.of_around))) in
    let from_more = rw e at (number_of-drop from sub i (omega (arith, have.of_from)) (omega (arith, have.of_sub))) in
    let into_step = rw (a_start, a_stride) at widened.into_first in
    let from_step = rw (f_start, f_stride) at widened.from_first in
    record {
      are_rows = widened.are_rows;
      counted = widened.counted ∙ all;
      into_first = omega (arith, into_step, before.into_first, into_more);
      from_first = omega (arith, from_step, before.from_first, from_more);
      into_along = λ k below. along_more i j k lens around (element_along (λ (step : RowStep). step.into) new.run (steps_of new)) (element_along (λ (step : RowStep). step.into) old.run (steps_of old)) e
          (omega (arith, have.of_lens)) (omega (arith, have.of_around)) some (rw (before.counted, a_stride) at (widened.into_along k (omega (arith, below, all)))) before.into_along;
      from_along = λ k below. along_more i j k lens sub (element_along (λ (step : RowStep). step.from) new.run (steps_of new)) (element_along (λ (step : RowStep). step.from) old.run (steps_of old)) e
          (omega (arith, have.of_lens)) (omega (arith, have.of_sub)) some (rw (before.counted, f_stride) at (widened.from_along k (omega (arith, below, all)))) before.from_along;
    }

-- all axes
pub rows_whole : (n : ℕ) (lens into around from sub : List ℕ) (rows : PairedRows) → HaveAxes n lens into around from sub → AreRowsFrom 0 lens into around from sub rows
    → AreRowsOf rows (record { start = into; shape = lens }) around
rows_whole n lens into around from sub rows have are = record {
  counted = are.counted;
  at = λ k lt.
      let whole = number_in-from (record { start = into; shape = lens }) around k (omega (arith, have.of_into, have.of_lens)) in
      omega (arith, whole, are.into_first, are.into_along k lt);
}

pub rows_from : (n r : ℕ) (lens into around from sub : List ℕ) (rows : PairedRows) → HaveAxes n lens into around from sub → AreRowsFrom 0 lens into around from sub rows → r < count_of lens
    → from_at rows r ≡ number_in (record { start = from; shape = lens }) sub r
rows_from n r lens into around from sub rows have are lt =
    let whole = number_in-from (record { start = from; shape = lens }) sub r (omega (arith, have.of_from, have.of_lens)) in
    omega (arith, whole, are.from_first, are.from_along r lt)

module _ (start len grid sub origin around : List ℕ) (number : ℕ) (known : CanShare start len grid sub origin around number) where
  abbrev whole_subset : Subset
  whole_subset = record { start = start; shape = len }

  abbrev other_subset : Subset
  other_subset = grid_subset grid sub number

  abbrev part : Subset
  part = shared_in_subchunk start len grid sub number

  abbrev array : Subset
  array = shared_in_array start len grid sub origin number

  alike : HaveSameAxes whole_subset other_subset
  alike = record {
    well_formed = known.well_formed;
    other_well_formed = known.fits;
    same_axes = known.axes ∙ sym (length_all_zip (λ first n. first + n < 2 ^ 64) other_subset.start sub known.fits);
  }

  long : SameLengths whole_subset other_subset
  long = same_lengths whole_subset other_subset alike

  pub shared_axes : HaveAxes (length sub) array.shape array.start around part.start sub
  shared_axes =
      let both = overlap_of whole_subset other_subset in
      let less = length-zip_with ◌-◌ both.start start long.starts in
      let placed = length-zip_with ◌+◌ origin (zip_with ◌-◌ both.start start) (omega (arith, less, long.starts, known.origin_axes, known.axes)) in
      let into : length array.start ≡ length sub = placed ∙ known.origin_axes in
      let lens : length array.shape ≡ length sub = long.overlap_shape ∙ known.axes in
      record {
        of_lens = lens;
        of_into = into;
        of_around = omega (arith, lies_in_length array.start array.shape around (omega (arith, into, lens)) known.in_array.0, into);
        of_from = omega (arith, length-zip_with ◌-◌ both.start other_subset.start (omega (arith, long.starts, long.other_start)), long.starts, known.axes);
        of_sub = refl;
      }

  -- the first point of either lies inside
  pub into_inside : IsInside array.start around
  into_inside =
      let same : length array.start ≡ length array.shape = omega (arith, shared_axes.of_into, shared_axes.of_lens) in
      rw (first_point array.start array.shape same known.some) at (shifted_inside array.start array.shape (point_of 0 array.shape) around (point_inside 0 array.shape known.some) known.in_array.0)

  pub from_inside : IsInside part.start sub
  from_inside =
      let same : length part.start ≡ length part.shape = omega (arith, shared_axes.of_from, shared_axes.of_lens) in
      rw (first_point part.start part.shape same known.some) at (shifted_inside part.start part.shape (point_of 0 part.shape) sub (point_inside 0 part.shape known.some) known.in_subchunk.0)

  -- what both have along an axis
  pub record SharedAt (i : ℕ) : Type 0 where
    pub digit : (number / count_of (drop (i + 1) grid)) % get_or grid i 0 ≡ get_or (point_of number grid) i 0
    pub grid_some : 0 < get_or grid i 0
    pub fits : get_or start i 0 + get_or len i 0 < 2 ^ 64
    pub other_fits : get_or (point_of number grid) i 0 * get_or sub i 0 + get_or sub i 0 < 2 ^ 64
    pub some : 0 < get_or array.shape i 0
    pub len_at : get_or array.shape i 0 ≡ min (get_or start i 0 + get_or len i 0) (get_or (point_of number grid) i 0 * get_or sub i 0 + get_or sub i 0) - max (get_or start i 0) (get_or (point_of number grid) i 0 * get_or sub i 0)
    pub into_at : get_or array.start i 0 ≡ get_or origin i 0 + (max (get_or start i 0) (get_or (point_of number grid) i 0 * get_or sub i 0) - get_or start i 0)
    pub from_at : get_or part.start i 0 ≡ max (get_or start i 0) (get_or (point_of number grid) i 0 * get_or sub i 0) - get_or (point_of number grid) i 0 * get_or sub i 0

  pub shared_at : (i : ℕ) → i < length sub → SharedAt i
  shared_at i lt =
      let both = overlap_of whole_subset other_subset in
      let in_start : i < length start = omega (arith, known.axes) in
      let points = length-point_of number grid ∙ known.grid_axes in
      let at = overlap_at whole_subset other_subset i alike in_start in
      let begins : get_or other_subset.start i 0 ≡ get_or (point_of number grid) i 0 * get_or sub i 0 = get_or-zip_with ◌*◌ (point_of number grid) sub i (omega (arith, points)) lt in
      let less = length-zip_with ◌-◌ both.start start long.starts in
      let in_both : i < length both.start = omega (arith, long.starts) in
      record {
        digit = sym (point_of_at number grid i (i + 1) known.below (omega (arith, known.grid_axes)) refl);
        grid_some = axis_positive number grid i known.below (omega (arith, known.grid_axes));
        fits = AllZip-get_or (λ first n. first + n < 2 ^ 64) start len i 0 0 known.well_formed in_start;
        other_fits = end_fits (point_of number grid) sub i points lt known.fits;
        some = axis_positive 0 array.shape i known.some (omega (arith, shared_axes.of_lens));
        len_at = rw begins at at.shape;
        into_at = get_or-zip_with ◌+◌ origin (zip_with ◌-◌ both.start start) i (omega (arith, known.origin_axes)) (omega (arith, less, long.starts))
            ∙ ap (λ n. get_or origin i 0 + n) (get_or-zip_with ◌-◌ both.start start i in_both in_start ∙ rw begins at (ap (λ n. n - get_or start i 0) at.start));
        from_at = get_or-zip_with ◌-◌ both.start other_subset.start i in_both (omega (arith, long.other_start)) ∙ rw begins (rw begins at (ap (λ n. n - get_or other_subset.start i 0) at.start));
      }

  -- the elements of the last axes are no more than all
  pub lens_fit : (i : ℕ) → count_of (drop i array.shape) < 2 ^ 64
  lens_fit i =
      let same : length array.start ≡ length array.shape = omega (arith, shared_axes.of_into, shared_axes.of_lens) in
      let all = subset_count_le array.start array.shape around same known.in_array.0 in
      omega (arith, all, known.in_array.1, count_of_drop_le (point_of 0 array.shape) array.shape i (point_inside 0 array.shape known.some))

  -- a coordinate of the first point fits
  pub into_small : (i j stride from : ℕ) → AxisStep array.start around i (get_or array.start i 0) stride from → stride ≡ count_of (drop j around) → get_or array.start i 0 < 2 ^ 64
  into_small i j stride from step stride_is =
      let some = number_below array.start around into_inside in
      let whole = count_split around j in
      let split = both_positive (count_of (take j around)) (count_of (drop j around)) (omega (arith, whole, some)) in
      let most = at_least (get_or array.start i 0) stride (omega (arith, split.1, stride_is)) in
      omega (arith, most, step.number_fits)

module _ (shape sub : List ℕ) (subset within : Subset) (around : List ℕ) (k : ℕ) (positive : AllPositive shape) (fits : count_of shape < 2 ^ 64) (divides : Divides sub shape) (inside : LiesIn subset shape)
    (well : IsSubset subset.start subset.shape) (below : k < count_of (grid_of shape sub)) (touches : Touches shape sub subset k) (same : within.shape ≡ subset.shape) where
  abbrev met_subset : Subset
  met_subset = relative_subset (overlap_of subset (subset_of_subchunk shape sub k)) subset.start

  met : IsSubchunkOverlap shape sub subset k (shared_in_subchunk subset.start subset.shape (grid_of shape sub) sub k) met_subset
  met = meets shape sub k subset positive fits divides below well inside touches (shared_in_subchunk subset.start subset.shape (grid_of shape sub) sub k) met_subset refl refl

  -- a subset and a subchunk that it touches have cells in common
  pub can_share : IsSubset within.start within.shape → IsServed within around → CanShare subset.start subset.shape (grid_of shape sub) sub within.start around k
  can_share well_within served =
      let divided = length_all_zip (λ part axis. axis % part ≡ 0) sub shape divides in
      let lengths = length_all_zip (λ first n. first + n < 2 ^ 64) subset.start subset.shape well in
      let axes : length subset.start ≡ length sub = lies_in_length subset.start subset.shape shape lengths inside ∙ sym divided in
      let inner : LiesIn met_subset within.shape = subst (LiesIn met_subset) (sym same) met.subset_inside in
      record {
        well_formed = well;
        below = below;
        axes = axes;
        grid_axes = length-grid shape sub divides ∙ sym divided;
        origin_axes = length_all_zip (λ first n. first + n < 2 ^ 64) within.start within.shape well_within ∙ (ap length same ∙ (sym lengths ∙ axes));
        fits = subchunk_well_formed shape sub k subset positive fits divides below well inside;
        some = overlap_some shape sub k subset positive fits divides below well inside touches;
        in_subchunk = (met.sub_inside, positions_fit shape sub k divides below fits);
        in_array = (placed-lies_in within met_subset around inner served.0, served.1);
      }

  -- the rows of what both have are those of the overlap
  pub are_overlap_rows : (start len grid part origin array : List ℕ) (rows : PairedRows) → IsSubset within.start within.shape → IsServed within around → start ≡ subset.start → len ≡ subset.shape → grid ≡ grid_of shape sub → part ≡ sub → origin ≡ within.start → array ≡ around
      → ArePairedRows rows → AreRowsOf rows (shared_in_array start len grid part origin k) array
      → ((r : ℕ) → r < count_of (shared_in_subchunk start len grid part k).shape → from_at rows r ≡ number_in (shared_in_subchunk start len grid part k) part r)
      → AreOverlapRows shape sub subset k within around rows
  are_overlap_rows start len grid part origin array rows well_within served start_is len_is grid_is part_is origin_is array_is are into from =
      let in_subchunk = shared_in_subchunk subset.start subset.shape (grid_of shape sub) sub k in
      let position = shifted_subset within met_subset in
      let placed = rw (start_is, len_is, grid_is, part_is, origin_is, array_is) at into in
      let taken = rw (start_is, len_is, grid_is, part_is) at from in
      let inner : LiesIn met_subset within.shape = subst (LiesIn met_subset) (sym same) met.subset_inside in
      let lies = placed-lies_in within met_subset around inner served.0 in
      let axes = length_all_zip (λ first n. first + n < 2 ^ 64) met_subset.start met_subset.shape met.subset_well_formed in
      let well_placed = placed-is_subset within.start met_subset.start met_subset.shape within.shape axes inner well_within in
      record {
        in_subchunk = in_subchunk;
        in_subset = met_subset;
        meets = met;
        rows_within = record {
          are_rows = are;
          inside = λ r lt.
              let small : r < count_of position.shape = omega (arith, lt, placed.counted) in
              omega (arith, placed.at r small, number_in_below position around r lies small);
          apart = λ r q lr lq e.
              let small : r < count_of position.shape = omega (arith, lr, placed.counted) in
              let other : q < count_of position.shape = omega (arith, lq, placed.counted) in
              same_point position around r q well_placed lies small other (omega (arith, placed.at r small, placed.at q other, e));
        };
        into = placed;
        from_below = λ r lt.
            let small : r < count_of in_subchunk.shape = omega (arith, lt, placed.counted) in
            omega (arith, taken r small, number_in_below in_subchunk sub r met.sub_inside small);
        from = taken;
      }
