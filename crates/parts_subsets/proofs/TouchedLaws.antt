-- The subchunks that a subset touches are a subset of the grid.
use Rattle.std.proofs.Common.{◌≡◌, ℕ, ◌+◌, ◌-◌, ◌*◌, ◌/◌, ◌%◌, ◌^◌, ◌<◌, ◌≤◌, List, [], ◌∷◌, ◌++◌, length, get_or, max, ap, sym, ◌∙◌, arith, inl, inr}
use Rattle.std.proofs.lemmas.Nat.{mod_below, div-add-mod', div-mul-add, mul-le}
use Rattle.std.proofs.lemmas.Bool.{cases_lt}
use Rattle.std.proofs.lemmas.List.{ext_get_or, get_or_push, length_push}
use Rattle.std.proofs.Math.ListN.{get_or-append}
use borrow.Author.Count.{below_more}
use Rattle.std.proofs.lemmas.List.Elements.{length_all_zip, AllZip-get_or, All-from_get_or}
use Rattle.std.proofs.lemmas.List.FromFn.{get_or-map-range_with_len, length-map-range_with_len}
use Rattle.std.specs.List.{All, AllZip}
use Rattle.parts_row_major.specs.Numbering.{count_of, IsInside, number_of, point_of, AllPositive, zip_with}
use Rattle.parts_row_major.specs.Subsets.{Subset, IsSubset, LiesIn, point_in, number_in, numbers_in}
use Rattle.parts_subsets.specs.Grid.{Divides, grid_of, subchunk_of, subchunk_number}
use Rattle.parts_subsets.specs.Laws.{IsOnAxis}
use Rattle.parts_subsets.specs.Touched.{Touches, AreTouched, IsTouchedSubset}
use Rattle.parts_row_major.proofs.NumberingLaws.{number_below, point_inside, point_of-number_of, rest_positive}
use Rattle.parts_row_major.proofs.SubsetLaws.{all_zip_from_each, length-zip_with, get_or-zip_with, shifted_inside, lies_in_length, lies_in_at, lies_in_from_each, length-point_in}
use Rattle.parts_subsets.proofs.MissLaws.{position_of_point, on_every_axis}
use Rattle.parts_row_major.proofs.PieceLaws.{number_in_below}
use Rattle.parts_subsets.proofs.GridLaws.{quotient_below, subchunk_of_inside, length-grid, get_or-grid, axis_divided, count-grid, positive_factor, count-positive, at_least}

-- a number below another has no greater quotient
pub quotient_le : (i j c : ℕ) → 0 < c → i ≤ j → i / c ≤ j / c
quotient_le i j c pos le = elim (cases_lt (j / c) (i / c)) [
  | inr ge ↦ ge
  | inl lt ↦ absurd (
      let more : (j / c + 1) * c ≤ (i / c) * c = mul-le (j / c + 1) c (i / c) c (omega arith) (omega arith) in
      omega (arith, more, div-add-mod' i c, div-add-mod' j c, mod_below j c pos))
]

-- nor is a quotient greater than the number
pub quotient_no_more : (i c : ℕ) → 0 < c → i / c ≤ i
quotient_no_more i c pos =
    let whole : (i / c) * 1 ≤ (i / c) * c = mul-le (i / c) 1 (i / c) c (omega arith) (omega arith) in
    omega (arith, whole, div-add-mod' i c)

pub whole_quotient : (x c : ℕ) → 0 < c → x * c / c ≡ x
whole_quotient x c pos = ap (λ t. t / c) (omega arith) ∙ div-mul-add x c 0 pos

max_right : (a b : ℕ) → a ≤ b → max a b ≡ b
max_right a b le = omega arith

max_left : (a b : ℕ) → b ≤ a → max a b ≡ a
max_left a b le = omega arith

-- the numbers of a subset's points rise with their places
pub number_rising : (start len shape : List ℕ) (i j : ℕ) → length start ≡ length len → AllZip ◌≤◌ (zip_with ◌+◌ start len) shape → i < j → j < count_of len
    → number_of (zip_with ◌+◌ start (point_of i len)) shape < number_of (zip_with ◌+◌ start (point_of j len)) shape
number_rising [] [] shape i j e h lt below = absurd (omega arith)
number_rising [] (n ∷ ns) shape i j e h lt below = absurd (omega arith)
number_rising (a ∷ rest) [] shape i j e h lt below = absurd (omega arith)
number_rising (a ∷ rest) (n ∷ ns) [] i j e h lt below = elim h [ ]
number_rising (a ∷ rest) (n ∷ ns) (s ∷ ss) i j e h lt below =
    let c = count_of ns in
    let pos : 0 < c = rest_positive j n c below in
    let here = number_below (zip_with ◌+◌ rest (point_of (i % c) ns)) ss (shifted_inside rest ns (point_of (i % c) ns) ss (point_inside (i % c) ns (mod_below i c pos)) h.1) in
    elim (cases_lt (i / c) (j / c)) [
      | inl less ↦
          let more : (a + i / c + 1) * count_of ss ≤ (a + j / c) * count_of ss = mul-le (a + i / c + 1) (count_of ss) (a + j / c) (count_of ss) (omega arith) (omega arith) in
          omega (arith, more, here)
      | inr ge ↦
          let same : i / c ≡ j / c = omega (arith, ge, quotient_le i j c pos (omega arith)) in
          let first : (i / c) * c ≡ (j / c) * c = ap (λ t. t * c) same in
          let later : i % c < j % c = omega (arith, first, lt, div-add-mod' i c, div-add-mod' j c) in
          let rises = number_rising rest ns ss (i % c) (j % c) (omega arith) h.1 later (mod_below j c pos) in
          omega (arith, rises, ap (λ t. (a + t) * count_of ss) same)
    ]

-- in how many subchunks a subset lies along the first axes
pub record TouchedSoFar (subset : Subset) (sub : List ℕ) (axis : ℕ) (many : List ℕ) : Type 0 where
  pub lengths : length many ≡ axis
  pub none : (k : ℕ) → k < axis → get_or subset.shape k 0 ≡ 0 → get_or many k 0 ≡ 0
  pub ends : (k : ℕ) → k < axis → 0 < get_or subset.shape k 0
      → get_or subset.start k 0 / get_or sub k 0 + get_or many k 0 ≡ (get_or subset.start k 0 + (get_or subset.shape k 0 - 1)) / get_or sub k 0 + 1

pub touched_more : (subset : Subset) (sub : List ℕ) (k many : ℕ) (lengths more_lengths : List ℕ) → TouchedSoFar subset sub k lengths
    → more_lengths ≡ lengths ++ many ∷ []
    → (get_or subset.shape k 0 ≡ 0 → many ≡ 0)
    → (0 < get_or subset.shape k 0 → get_or subset.start k 0 / get_or sub k 0 + many ≡ (get_or subset.start k 0 + (get_or subset.shape k 0 - 1)) / get_or sub k 0 + 1)
    → TouchedSoFar subset sub (k + 1) more_lengths
touched_more subset sub k many lengths more_lengths h l none end =
    let here : get_or more_lengths k 0 ≡ many = rw l (get_or_push lengths many 0 k h.lengths) in
    let before : (j : ℕ) → j < k → get_or more_lengths j 0 ≡ get_or lengths j 0 = λ j lt. rw l (get_or-append lengths (many ∷ []) 0 j (omega (arith, lt, h.lengths))) in
    record {
      lengths = rw l (omega (arith, length_push lengths many, h.lengths));
      none = below_more (λ j. get_or subset.shape j 0 ≡ 0 → get_or more_lengths j 0 ≡ 0) k (λ j lt zero. before j lt ∙ h.none j lt zero) (λ zero. here ∙ none zero);
      ends = below_more (λ j. 0 < get_or subset.shape j 0 → get_or subset.start j 0 / get_or sub j 0 + get_or more_lengths j 0 ≡ (get_or subset.start j 0 + (get_or subset.shape j 0 - 1)) / get_or sub j 0 + 1) k
          (λ j lt some. rw (before j lt) (h.ends j lt some)) (λ some. rw here (end some));
    }

pub touched_whole : (subset : Subset) (sub : List ℕ) (k : ℕ) (lengths : List ℕ) → length subset.start ≡ length sub → length subset.start ≡ k → TouchedSoFar subset sub k lengths
    → IsTouchedSubset subset sub (record { start = grid_of subset.start sub; shape = lengths })
touched_whole subset sub k lengths same all h =
    let at : (j : ℕ) → j < length subset.start → get_or (grid_of subset.start sub) j 0 ≡ get_or subset.start j 0 / get_or sub j 0 =
    λ j lt. get_or-zip_with ◌/◌ subset.start sub j lt (omega (arith, lt, same)) in
    record {
      axes = length-zip_with ◌/◌ subset.start sub same;
      lengths = omega (arith, h.lengths, all);
      starts = at;
      none = λ j lt. h.none j (omega (arith, lt, all));
      ends = λ j lt some. rw (at j lt) (h.ends j (omega (arith, lt, all)) some);
    }

-- a subset of a shape, and the subset of the grid that has the subchunks which it touches
module _ (shape sub : List ℕ) (subset touched : Subset) (h : IsTouchedSubset subset sub touched) (sub_positive : AllPositive sub) (divides : Divides sub shape)
    (well : IsSubset subset.start subset.shape) (inside : LiesIn subset shape) where
  subset_axes : length subset.start ≡ length subset.shape
  subset_axes = length_all_zip (λ first len. first + len < 2 ^ 64) subset.start subset.shape well

  shape_axes : length subset.start ≡ length shape
  shape_axes = lies_in_length subset.start subset.shape shape subset_axes inside

  sub_axes : length sub ≡ length shape
  sub_axes = length_all_zip (λ part axis. axis % part ≡ 0) sub shape divides

  grid_axes : length (grid_of shape sub) ≡ length shape
  grid_axes = length-grid shape sub divides

  part_positive : (k : ℕ) → k < length shape → 0 < get_or sub k 0
  part_positive k lt = sub_positive k 0 (omega (arith, lt, sub_axes))

  -- it is a subset
  pub touched_is_subset : IsSubset touched.start touched.shape
  touched_is_subset = all_zip_from_each (λ first len. first + len < 2 ^ 64) touched.start touched.shape (h.axes ∙ sym h.lengths) (λ k lt.
      let below : k < length subset.start = omega (arith, lt, h.axes) in
      let part = get_or sub k 0 in
      let first = get_or subset.start k 0 in
      let pos : 0 < part = part_positive k (omega (arith, below, shape_axes)) in
      let fits = AllZip-get_or (λ first len. first + len < 2 ^ 64) subset.start subset.shape k 0 0 well below in
      let start = h.starts k below in
      elim (cases_lt 0 (get_or subset.shape k 0)) [
        | inl some ↦ omega (arith, h.ends k below some, quotient_no_more (first + (get_or subset.shape k 0 - 1)) part pos, fits, some)
        | inr none ↦ omega (arith, start, h.none k below (omega arith), quotient_no_more first part pos, fits)
      ])

  -- that lies in the grid
  pub touched_lies_in : LiesIn touched (grid_of shape sub)
  touched_lies_in = lies_in_from_each touched.start touched.shape (grid_of shape sub) (h.axes ∙ sym h.lengths) (omega (arith, h.axes, shape_axes, grid_axes)) (λ k lt.
      let in_shape : k < length shape = omega (arith, lt, grid_axes) in
      let below : k < length subset.start = omega (arith, in_shape, shape_axes) in
      let part = get_or sub k 0 in
      let axis = get_or shape k 0 in
      let first = get_or subset.start k 0 in
      let many = get_or subset.shape k 0 in
      let pos : 0 < part = part_positive k in_shape in
      let ends = lies_in_at subset.start subset.shape shape k subset_axes inside in_shape in
      let grid = get_or-grid shape sub k divides in_shape in
      elim (cases_lt 0 many) [
        | inl some ↦
            let last = quotient_below (first + (many - 1)) axis part (axis_divided shape sub k divides in_shape) (omega (arith, ends, some)) in
            omega (arith, h.ends k below some, grid, last)
        | inr none ↦ omega (arith, h.starts k below, h.none k below (omega arith), grid, quotient_le first axis part pos (omega (arith, ends)))
      ])

  -- the subchunk of each of its points is a point of the touched subset
  cell_touched : (q : ℕ) → q < count_of subset.shape → IsInside (point_in subset q) shape × ((axis : ℕ) → axis < length (grid_of shape sub) → IsOnAxis touched (subchunk_of (point_in subset q) sub) axis)
  cell_touched q lt =
      let point = point_in subset q in
      let here = shifted_inside subset.start subset.shape (point_of q subset.shape) shape (point_inside q subset.shape lt) inside in
      let long = length-point_in subset.start subset.shape q subset_axes in (
        here,
        λ k small.
            let in_shape : k < length shape = omega (arith, small, grid_axes) in
            let below : k < length subset.start = omega (arith, in_shape, shape_axes) in
            let on = on_every_axis subset shape well inside q lt k in_shape in
            let pos : 0 < get_or sub k 0 = part_positive k in_shape in
            let at = get_or-zip_with ◌/◌ point sub k (omega (arith, long, in_shape, shape_axes, subset_axes)) (omega (arith, in_shape, sub_axes)) in
            let some : 0 < get_or subset.shape k 0 = omega (arith, on.0, on.1) in
            let low = quotient_le (get_or subset.start k 0) (get_or point k 0) (get_or sub k 0) pos on.0 in
            let high = quotient_le (get_or point k 0) (get_or subset.start k 0 + (get_or subset.shape k 0 - 1)) (get_or sub k 0) pos (omega (arith, on.0, on.1, some)) in
            (omega (arith, at, low, h.starts k below), omega (arith, at, high, h.ends k below some)),
      )

  grid_long : length touched.start ≡ length (grid_of shape sub)
  grid_long = omega (arith, h.axes, shape_axes, grid_axes)

  -- of a point of the touched subset some cell of the subset is in its subchunk: along each axis the later of the subset's first and the subchunk's first
  record HasCell (g : List ℕ) : Type 0 where
    cell : List ℕ
    within : IsInside cell shape
    on_subset : (axis : ℕ) → axis < length shape → IsOnAxis subset cell axis
    subchunk : subchunk_of cell sub ≡ g

  has_cell : (t : ℕ) → t < count_of touched.shape → HasCell (point_in touched t)
  has_cell t lt =
      let g = point_in touched t in
      let cell = zip_with max subset.start (zip_with ◌*◌ g sub) in
      let wide = length-point_in touched.start touched.shape t (h.axes ∙ sym h.lengths) in
      let corner = length-zip_with ◌*◌ g sub (omega (arith, wide, h.lengths, shape_axes, sub_axes)) in
      let long = length-zip_with max subset.start (zip_with ◌*◌ g sub) (omega (arith, corner, wide, h.lengths)) in
      let at : (k : ℕ) → k < length shape → (get_or cell k 0 / get_or sub k 0 ≡ get_or g k 0) × IsOnAxis subset cell k = λ k in_shape.
      let below : k < length subset.start = omega (arith, in_shape, shape_axes) in
      let part = get_or sub k 0 in
      let first = get_or subset.start k 0 in
      let many = get_or subset.shape k 0 in
      let x = get_or g k 0 in
      let pos : 0 < part = part_positive k in_shape in
      let on = on_every_axis touched (grid_of shape sub) touched_is_subset touched_lies_in t lt k (omega (arith, in_shape, grid_axes)) in
      let low : first / part ≤ x = omega (arith, on.0, h.starts k below) in
      let some : 0 < many = elim (cases_lt 0 many) [ inl there ↦ there | inr empty ↦ absurd (omega (arith, on.0, on.1, h.none k below (omega arith))) ] in
      let high : x ≤ (first + (many - 1)) / part = omega (arith, on.1, h.ends k below some) in
      let start = get_or-zip_with ◌*◌ g sub k (omega (arith, wide, below, h.lengths)) (omega (arith, in_shape, sub_axes)) in
      let here = get_or-zip_with max subset.start (zip_with ◌*◌ g sub) k below (omega (arith, corner, wide, below, h.lengths)) in
      let last_le : x * part ≤ ((first + (many - 1)) / part) * part = mul-le x part ((first + (many - 1)) / part) part high (omega arith) in
      let whole = div-add-mod' (first + (many - 1)) part in
      let on_x : IsOnAxis subset cell k = (omega (arith, here), omega (arith, here, start, last_le, whole, some)) in
      elim (cases_lt (x * part) first) [
        | inr later ↦ (rw here (rw start (rw (max_right first (x * part) later) (whole_quotient x part pos))), on_x)
        | inl sooner ↦
            let above = quotient_le (x * part) first part pos (omega arith) in
            let same : first / part ≡ x = omega (arith, low, above, whole_quotient x part pos) in
            (rw here (rw start (rw (max_left first (x * part) (omega arith)) same)), on_x)
      ] in
      let quotients = length-zip_with ◌/◌ cell sub (omega (arith, long, shape_axes, sub_axes)) in
      record {
        cell = cell;
        within = all_zip_from_each (λ y axis. y < axis) cell shape (omega (arith, long, shape_axes)) (λ k small.
            let in_shape : k < length shape = omega (arith, small, long, shape_axes) in
            omega (arith, (at k in_shape).1.1, lies_in_at subset.start subset.shape shape k subset_axes inside in_shape));
        on_subset = λ k in_shape. (at k in_shape).1;
        subchunk = ext_get_or 0 (subchunk_of cell sub) g (omega (arith, quotients, long, wide, h.lengths)) (λ k small.
            let in_shape : k < length shape = omega (arith, small, quotients, long, shape_axes) in
            get_or-zip_with ◌/◌ cell sub k (omega (arith, in_shape, long, shape_axes)) (omega (arith, in_shape, sub_axes)) ∙ (at k in_shape).0);
      }

  -- the subchunk with the number of a point of the touched subset is touched
  listed_touched : (t : ℕ) → t < count_of touched.shape → Touches shape sub subset (number_in touched (grid_of shape sub) t)
  unfolding subchunk_number
  listed_touched t lt =
      let found = has_cell t lt in
      let position = position_of_point subset shape well inside found.cell found.within found.on_subset in
      (position.0, position.1, rw position.2 (ap (λ c. number_of (subchunk_of c sub) (grid_of shape sub)) (point_of-number_of found.cell shape found.within) ∙ ap (λ g. number_of g (grid_of shape sub)) found.subchunk))

  -- and each touched one has such a number
  touched_listed : (k : ℕ) → Touches shape sub subset k → (t : ℕ) × (t < count_of touched.shape) × (number_in touched (grid_of shape sub) t ≡ k)
  unfolding subchunk_number
  touched_listed k found =
      let q = found.0 in
      let on = cell_touched q found.1 in
      let point = point_in subset q in
      let in_grid = subchunk_of_inside point shape sub divides on.0 in
      let position = position_of_point touched (grid_of shape sub) touched_is_subset touched_lies_in (subchunk_of point sub) in_grid on.1 in
      let same : subchunk_number shape sub (number_in subset shape q) ≡ number_of (subchunk_of point sub) (grid_of shape sub) =
      ap (λ c. number_of (subchunk_of c sub) (grid_of shape sub)) (point_of-number_of point shape on.0) in
      (position.0, position.1, position.2 ∙ (sym same ∙ found.2))

  -- so the numbers of the touched subset are those of the touched subchunks
  pub are_touched : (subchunks : List ℕ) → subchunks ≡ numbers_in touched (grid_of shape sub) → AreTouched shape sub subset subchunks
  are_touched subchunks is =
      let grid = grid_of shape sub in
      let n = count_of touched.shape in
      let counted = ap length is ∙ length-map-range_with_len (number_in touched grid) 0 n in
      let at : (j : ℕ) → j < n → get_or subchunks j 0 ≡ number_in touched grid j =
      λ j lt. ap (λ xs. get_or xs j 0) is ∙ get_or-map-range_with_len (number_in touched grid) 0 n j j 0 lt (omega arith) in
      record {
        rising = λ i j less lt. rw (at i (omega (arith, less, lt, counted)), at j (omega (arith, lt, counted)))
            (number_rising touched.start touched.shape grid i j (h.axes ∙ sym h.lengths) touched_lies_in less (omega (arith, lt, counted)));
        touched = λ j lt. rw (at j (omega (arith, lt, counted))) (listed_touched j (omega (arith, lt, counted)));
        all = λ k found. let t = touched_listed k found in (t.0, omega (arith, t.1, counted), at t.0 t.1 ∙ t.2);
      }

  -- and numbers of the grid
  pub touched_below : (subchunks : List ℕ) → subchunks ≡ numbers_in touched (grid_of shape sub) → All (λ k. k < count_of (grid_of shape sub)) subchunks
  touched_below subchunks is =
      let grid = grid_of shape sub in
      let n = count_of touched.shape in
      let counted = ap length is ∙ length-map-range_with_len (number_in touched grid) 0 n in
      All-from_get_or (λ k. k < count_of grid) subchunks 0 (λ j lt.
      rw (ap (λ xs. get_or xs j 0) is ∙ get_or-map-range_with_len (number_in touched grid) 0 n j j 0 (omega (arith, lt, counted)) (omega arith))
      (number_in_below touched grid j touched_lies_in (omega (arith, lt, counted))))

  -- in a grid whose count fits
  pub touched_served : AllPositive shape → count_of shape < 2 ^ 64 → LiesIn touched (grid_of shape sub) × (count_of (grid_of shape sub) < 2 ^ 64)
  touched_served positive fits =
      let cells = count-grid shape sub divides in
      let positions = positive_factor (count_of (grid_of shape sub)) (count_of sub) (count_of shape) (count-positive shape positive) (sym cells) in
      (touched_lies_in, omega (arith, cells, at_least (count_of (grid_of shape sub)) (count_of sub) positions, fits))
