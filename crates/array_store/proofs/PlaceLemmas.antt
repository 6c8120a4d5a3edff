-- Where the points of a subset lie among the chunks of a shape that is rounded up to whole chunks.
use Rattle.std.proofs.Common.{◌≡◌, ℕ, ◌<◌, List, get_or, sym, ap, ◌∙◌, arith}
use Rattle.std.proofs.lemmas.Grind.{get_or_default_zero}
use Rattle.std.specs.List.{AllPairs, Contains}
use Rattle.parts_row_major.specs.Numbering.{count_of, IsInside, number_of, point_of}
use Rattle.parts_row_major.specs.Subsets.{Subset, LiesIn, point_in, number_in}
use Rattle.parts_row_major.proofs.NumberingLaws.{point_inside, point_of-number_of}
use Rattle.parts_row_major.proofs.SubsetLaws.{shifted_inside}
use Rattle.parts_subsets.specs.Grid.{Divides, grid_of, subchunk_of, position_of, subchunk_number, position_number}
use Rattle.parts_subsets.specs.Touched.{AreTouched}
use Rattle.parts_subsets.proofs.GridLaws.{subchunk_of_inside}
use Rattle.sharding_gather.proofs.MetPositions.{same_rising}

module _ (whole chunk : List ℕ) (subset : Subset) (divides : Divides chunk whole) (inside : LiesIn subset whole) (q : ℕ) (below : q < count_of subset.shape) where
  point_within : IsInside (point_in subset q) whole
  point_within = shifted_inside subset.start subset.shape (point_of q subset.shape) whole (point_inside q subset.shape below) inside

  point_again : point_of (number_in subset whole q) whole ≡ point_in subset q
  point_again = point_of-number_of (point_in subset q) whole point_within

  -- the chunk in which a point lies, by its coordinates
  pub chunk_of_point : point_of (subchunk_number whole chunk (number_in subset whole q)) (grid_of whole chunk) ≡ subchunk_of (point_in subset q) chunk
  unfolding subchunk_number
  chunk_of_point =
      ap (λ point. point_of (number_of (subchunk_of point chunk) (grid_of whole chunk)) (grid_of whole chunk)) point_again
      ∙ point_of-number_of (subchunk_of (point_in subset q) chunk) (grid_of whole chunk) (subchunk_of_inside (point_in subset q) whole chunk divides point_within)

  -- its place in there
  pub place_of_point : position_number whole chunk (number_in subset whole q) ≡ number_of (position_of (point_in subset q) chunk) chunk
  unfolding position_number
  place_of_point = ap (λ point. number_of (position_of point chunk) chunk) point_again

-- the chunks that a subset touches are one list
module _ (shape sub : List ℕ) (subset : Subset) where
  rises : (xs : List ℕ) → AreTouched shape sub subset xs → AllPairs (λ x y. x < y) xs
  rises xs are i j d less below =
      rw (get_or_default_zero xs i d (omega (arith, less, below)), get_or_default_zero xs j d below) (are.rising i j less below)

  members : (xs ys : List ℕ) → AreTouched shape sub subset xs → AreTouched shape sub subset ys → (x : ℕ) → Contains xs x → Contains ys x
  members xs ys one two x (k, below, is) =
      let found = two.all (get_or xs k 0) (one.touched k below) in
      (found.0, found.1, get_or_default_zero ys found.0 x found.1 ∙ found.2 ∙ sym (get_or_default_zero xs k x below) ∙ is)

  pub touched_same : (xs ys : List ℕ) → AreTouched shape sub subset xs → AreTouched shape sub subset ys → xs ≡ ys
  touched_same xs ys one two = same_rising xs ys (rises xs one) (rises ys two) (members xs ys one two) (members ys xs two one)
