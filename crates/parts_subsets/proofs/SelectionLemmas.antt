-- What is asked of an array, where it lies in the array's shape.
use Rattle.std.proofs.Common.{◌≡◌, ℕ, ◌+◌, ◌<◌, List, [], ◌∷◌, ◌++◌, length, get_or, map, take, Option, Some, None, IfSome, refl, sym, arith}
use Rattle.std.proofs.lemmas.List.{map_more}
use Rattle.std.specs.List.{All, range_with_len}
use Rattle.std.proofs.lemmas.List.Elements.{All-get_or, All-from_get_or, All-map}
use Rattle.parts_row_major.specs.Numbering.{count_of, number_of, point_of, IsInside}
use Rattle.parts_row_major.specs.Subsets.{Subset, LiesIn, point_in, points_of, numbers_in}
use Rattle.parts_subsets.specs.Selections.{Selection, subset_selection, MatchesSubset, LiesWithin, IsSelectionOf}
use Rattle.parts_row_major.proofs.NumberingLaws.{number_below, point_inside}
use Rattle.parts_row_major.proofs.SubsetLaws.{shifted_inside, length-points_of, point_of-points_of, all_zip_from_each}
use Rattle.parts_row_major.proofs.PieceLaws.{map-map}

-- the points of a subset that lies in a shape are inside it
pub inside-points_of : (subset : Subset) (shape : List ℕ) → LiesIn subset shape → All (λ point. IsInside point shape) (points_of subset)
inside-points_of subset shape h = All-from_get_or (λ point. IsInside point shape) (points_of subset) [] (λ i lt.
    let below : i < count_of subset.shape = omega (arith, length-points_of subset) in
    rw (point_of-points_of subset i below) (shifted_inside subset.start subset.shape (point_of i subset.shape) shape (point_inside i subset.shape below) h))

-- the numbers of a subset are those of its points
pub numbers_of-points_of : (subset : Subset) (shape : List ℕ) → numbers_in subset shape ≡ map (λ point. number_of point shape) (points_of subset)
numbers_of-points_of subset shape = sym (map-map (λ point. number_of point shape) (point_in subset) (range_with_len 0 (count_of subset.shape)))

-- each point that is asked is inside a shape that it lies within
inside_by_subset : (subset : Option Subset) (selection : Selection) (shape : List ℕ) → IfSome subset (λ b. selection ≡ subset_selection b) → LiesWithin subset selection.points shape → All (λ point. IsInside point shape) selection.points
inside_by_subset None selection shape matches h = h
inside_by_subset (Some subset) selection shape matches h = rw matches (inside-points_of subset shape h)

pub inside_within : (shape : List ℕ) (selection : Selection) → MatchesSubset selection → LiesWithin selection.subset selection.points shape → All (λ point. IsInside point shape) selection.points
inside_within shape selection matches h = inside_by_subset selection.subset selection shape matches h

pub selection_inside : (shape : List ℕ) (selection : Selection) → MatchesSubset selection → IsSelectionOf shape selection → All (λ point. IsInside point shape) selection.points
selection_inside shape selection matches h = inside_within shape selection matches h.within

-- of points that are inside a shape so is the one at a place, and its number is below the shape's count
pub point_inside_at : (shape : List ℕ) (points : List (List ℕ)) (i : ℕ) → All (λ point. IsInside point shape) points → i < length points → IsInside (get_or points i []) shape
point_inside_at shape points i inside lt = All-get_or (λ point. IsInside point shape) points i [] lt inside

pub number_below_at : (shape : List ℕ) (points : List (List ℕ)) (i : ℕ) → All (λ point. IsInside point shape) points → i < length points → number_of (get_or points i []) shape < count_of shape
number_below_at shape points i inside lt =
    number_below (get_or points i []) shape (point_inside_at shape points i inside lt)

pub numbers_below : (shape : List ℕ) (points : List (List ℕ)) → All (λ point. IsInside point shape) points → All (λ number. number < count_of shape) (map (λ point. number_of point shape) points)
numbers_below shape points inside =
    All-map (λ number. number < count_of shape) (λ point. number_of point shape) points
    (All-from_get_or (λ point. number_of point shape < count_of shape) points [] (λ i lt. number_below_at shape points i inside lt))

-- a list of what a function gives at the elements of another, with one element more
pub mapped_more : {X Y : Type 0} (f : X → Y) (xs : List X) (i : ℕ) (d : X) (made more : List Y) (y : Y) → i < length xs → made ≡ map f (take i xs) → y ≡ f (get_or xs i d) → more ≡ made ++ y ∷ [] → more ≡ map f (take (i + 1) xs)
mapped_more f xs i d made more y lt so_far is e = rw (e, so_far, is, map_more f xs i d lt) refl

-- in a shape of no axes every coordinate of no numbers is inside
pub inside_no_axes : (points : List (List ℕ)) (shape : List ℕ) → length shape ≡ 0 → ((i : ℕ) → i < length points → length (get_or points i []) ≡ length shape) → All (λ point. IsInside point shape) points
inside_no_axes points shape none whole =
    All-from_get_or (λ point. IsInside point shape) points [] (λ i lt.
    all_zip_from_each (λ x axis. x < axis) (get_or points i []) shape (whole i lt) (λ axis below. absurd (omega (arith, none, whole i lt))))
