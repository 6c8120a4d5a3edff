-- The cells at all points of a shape are all cells.
use Rattle.std.proofs.Common.{◌≡◌, ◌+◌, ℕ, zero, suc, ◌<◌, List, [], ◌∷◌, Option, None, length, replicate, get_or, refl, ap, sym, ◌∙◌, arith}
use Rattle.std.proofs.lemmas.List.{ext_get_or, length-map, get_or-map}
use Rattle.std.proofs.lemmas.List.FromFn.{get_or-map-range_with_len, length-map-range_with_len}
use Rattle.parts_errors.specs.Words.{Bytes}
use Rattle.parts_row_major.specs.Numbering.{count_of, number_of, point_of, zip_with}
use Rattle.parts_row_major.specs.Subsets.{point_in, points_of}
use Rattle.parts_row_major.proofs.NumberingLaws.{length-point_of, number_of-point_of}
use Rattle.codec_traits.specs.Reads.{cells_at}
use Rattle.shard_sessions.specs.Recorded.{full_subset}

from_zero : (n : ℕ) (point : List ℕ) → length point ≡ n → zip_with ◌+◌ (replicate n 0) point ≡ point
from_zero zero [] h = refl
from_zero zero (x ∷ point) h = absurd (omega arith)
from_zero (suc n) [] h = absurd (omega arith)
from_zero (suc n) (x ∷ point) h =
    let first : 0 + x ≡ x = omega arith in
    ap (λ (y : ℕ). y ∷ zip_with ◌+◌ (replicate n 0) point) first ∙ ap (λ (xs : List ℕ). x ∷ xs) (from_zero n point (omega arith))

whole_number : (shape : List ℕ) (i : ℕ) → i < count_of shape → number_of (point_in (full_subset shape) i) shape ≡ i
whole_number shape i below =
    ap (λ p. number_of p shape) (from_zero (length shape) (point_of i shape) (length-point_of i shape)) ∙ number_of-point_of i shape below

pub whole_cells : (cells : List (Option Bytes)) (shape : List ℕ) → length cells ≡ count_of shape → cells_at cells shape (points_of (full_subset shape)) ≡ cells
whole_cells cells shape counted =
    let points : List (List ℕ) = points_of (full_subset shape) in
    let many : length points ≡ count_of shape = length-map-range_with_len (point_in (full_subset shape)) 0 (count_of shape) in
    ext_get_or None (cells_at cells shape points) cells (length-map points (λ p. get_or cells (number_of p shape) None) ∙ (many ∙ sym counted))
    (λ i below.
    let lt : i < count_of shape = let k = length-map points (λ p. get_or cells (number_of p shape) None) in omega arith in
    let at : get_or points i [] ≡ point_in (full_subset shape) i = get_or-map-range_with_len (point_in (full_subset shape)) 0 (count_of shape) i i [] lt (omega arith) in
    get_or-map (λ p. get_or cells (number_of p shape) None) points i [] None (omega arith)
    ∙ (ap (λ p. get_or cells (number_of p shape) None) at ∙ ap (λ j. get_or cells j None) (whole_number shape i lt)))
