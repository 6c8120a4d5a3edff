-- When two lists of coordinates are one.
use Rattle.std.proofs.Common.{◌≡◌, ℕ, ◌*◌, ◌&&◌, false, List, length, refl, ap, sym, ◌∙◌, arith, Decides, eqb}
use Rattle.std.proofs.lemmas.Bool.{false≢true}
use Rattle.std.proofs.lemmas.Bool.Decides.{Decides-eqb, Decides-and, Decides-like, same_from_decides}
use Rattle.std.proofs.lemmas.Slice.Eq.{slice_eq-Decides, bytes_eq-Decides}
use Rattle.std.specs.List.{concat}
use Rattle.std.specs.Cmp.Lexicographic.{pointwise}
use Rattle.parts_row_major.specs.Pieces.{pieces}
use Rattle.parts_subsets.specs.Selections.{Points, points_from, same_points}
use Rattle.parts_row_major.proofs.PieceLaws.{length-pieces, concat-pieces}

-- `==` on lists of coordinates says whether they are one
pub same_points-Decides : (a b : Points) → Decides (same_points a b) (a ≡ b)
same_points-Decides a b =
    let points = pointwise (pointwise eqb) a.points b.points in
    let by_points : Decides points (a.points ≡ b.points) = slice_eq-Decides bytes_eq-Decides a.points b.points points refl in
    Decides-like (eqb a.axes b.axes && points)
    (λ same i. record { axes = same.0 i; points = same.1 i })
    (λ e. (ap (λ (list : Points). list.axes) e, ap (λ (list : Points). list.points) e))
    (Decides-and (eqb a.axes b.axes) points (Decides-eqb a.axes b.axes) by_points)

-- two lists of coordinates, each held as numbers that stand one after the other
module _ (axes count other_axes other_count : ℕ) (flat other : List ℕ) (long : length flat ≡ axes * count) (other_long : length other ≡ other_axes * other_count) where
  -- where they are one, they have as many coordinates of as many numbers
  same_list : points_from axes count flat ≡ points_from other_axes other_count other → (axes ≡ other_axes) × (count ≡ other_count) × (flat ≡ other)
  same_list e =
      let points : pieces axes count flat ≡ pieces other_axes other_count other = ap (λ (list : Points). list.points) e in (
        ap (λ (list : Points). list.axes) e,
        sym (length-pieces axes count flat) ∙ (ap length points ∙ length-pieces other_axes other_count other),
        sym (concat-pieces axes count flat (omega arith)) ∙ (ap concat points ∙ concat-pieces other_axes other_count other (omega arith)),
      )

  -- lists of as many coordinates are one where their numbers are
  pub same_by_numbers : axes ≡ other_axes → count ≡ other_count → pointwise eqb flat other ≡ same_points (points_from axes count flat) (points_from other_axes other_count other)
  same_by_numbers a c =
      same_from_decides (pointwise eqb flat other) (same_points (points_from axes count flat) (points_from other_axes other_count other))
      (Decides-like (pointwise eqb flat other) (λ same. rw (a, c, same) refl) (λ e. (same_list e).2) (bytes_eq-Decides flat other))
      (same_points-Decides (points_from axes count flat) (points_from other_axes other_count other))

  -- others are not
  pub not_same : ¬ ((axes ≡ other_axes) × (count ≡ other_count)) → false ≡ same_points (points_from axes count flat) (points_from other_axes other_count other)
  not_same differ =
      same_from_decides false (same_points (points_from axes count flat) (points_from other_axes other_count other))
      (λ t. absurd (false≢true t), λ e. let same = same_list e in absurd (differ (same.0, same.1)))
      (same_points-Decides (points_from axes count flat) (points_from other_axes other_count other))
