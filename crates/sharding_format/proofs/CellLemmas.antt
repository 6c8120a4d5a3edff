-- Cells that are not there, and cells that are too long.
use Rattle.std.proofs.Common.{◌≡◌, ℕ, zero, suc, ◌*◌, ◌^◌, ◌<◌, ◌≤◌, eqb, true, false, List, [], ◌∷◌, Option, Some, None, IfSome, option_and_then, length, get_or, map, refl, sym, ap, ◌∙◌, inl, inr, arith}
use Rattle.std.specs.List.{All, sum_by, list_any}
use Rattle.std.proofs.lemmas.List.Sums.{sum_by-cons, sum_by-le}
use Rattle.std.proofs.lemmas.List.Elements.{All-from_get_or}
use Rattle.std.proofs.lemmas.List.{get_or_default, get_or-map, length-map}
use Rattle.std.proofs.Math.Nat.{mul-le-mul_right}
use Rattle.std.proofs.lemmas.Map.Keys.{IsDistinct-from_apart}
use Rattle.std.proofs.lemmas.Map.Steps.{length-le_from_distinct_below}
use Rattle.std.proofs.lemmas.Bool.Decides.{eqb_tells}
use Rattle.parts_arrays.specs.Types.{FitsKind}
use Rattle.parts_arrays.specs.declared.data_type.DataTypeSize.TheVariants.{Fixed}
use Rattle.codec_traits.specs.Cells.{all_there, cell_length}
use Rattle.codec_traits.specs.Refusals.{AreTooLong}

rest_damaged : (e : List ℕ) (o : Option (List (List ℕ))) → option_and_then (λ es. Some (e ∷ es)) o ≡ None → o ≡ None
rest_damaged e None h = refl
rest_damaged e (Some es) h = cc

-- where not all cells are there, one is not
pub damaged_position : (cells : List (Option (List ℕ))) → all_there cells ≡ None → (i : ℕ) × ((i < length cells) × (get_or cells i None ≡ None))
damaged_position [] h = cc
damaged_position (None ∷ cells) h = (0, (omega arith, refl))
damaged_position (Some e ∷ cells) h =
    let rest = damaged_position cells (rest_damaged e (all_there cells) h) in
    (suc rest.0, (omega arith, rest.1.1))

-- where one cell is not there, not all are
pub damaged_at : (cells : List (Option (List ℕ))) (i : ℕ) → i < length cells → get_or cells i None ≡ None → all_there cells ≡ None
damaged_at [] i below h = absurd (omega arith)
damaged_at (None ∷ cells) i below h = refl
damaged_at (Some e ∷ cells) zero below h = cc
damaged_at (Some e ∷ cells) (suc i) below h = rw (damaged_at cells i (omega arith) h) refl

short_cell : (n : ℕ) (o : Option (List ℕ)) → IfSome o (FitsKind (Fixed n)) → cell_length o ≤ n
short_cell n None h = omega arith
short_cell n (Some e) h = omega arith

other_position : (a b : ℕ) → (¬ (a ≡ b)) → eqb a b ≡ false
other_position a b h = elim (eqb_tells a b) [ inl same ↦ absurd (h same.1) | inr other ↦ other.0 ]

-- some place is below n, where q is one of them
below_any : (ps : List ℕ) (n q : ℕ) → ((i : ℕ) → i < length ps → get_or ps i 0 < n) → list_any (eqb q) ps ≡ true → q < n
below_any [] n q h e = cc
below_any (p ∷ ps) n q h e =
    elim (eqb_tells q p) [
      | inl same ↦ omega (arith, h 0 (omega arith), same.1)
      | inr other ↦ below_any ps n q (λ i below. h (suc i) (omega arith)) (rw other.0 at e)
    ]

pub few_positions : (cells : List (Option (List ℕ))) (t : AreTooLong cells) → length t.positions ≤ length cells
few_positions cells t =
    length-le_from_distinct_below t.positions (length cells)
    (IsDistinct-from_apart eqb t.positions (λ i j d below in_ps.
    rw (get_or_default t.positions i d 0 (omega arith), get_or_default t.positions j d 0 in_ps) (other_position _ _ (t.apart i j below in_ps))))
    (λ q e. below_any t.positions (length cells) q t.below e)

-- cells of one size that fit memory together are not too long
pub not_too_long : (n : ℕ) (cells : List (Option (List ℕ))) → ((i : ℕ) → i < length cells → IfSome (get_or cells i None) (FitsKind (Fixed n))) → length cells * n < 2 ^ 64 → ¬ (AreTooLong cells)
not_too_long n cells fits room = λ t.
    let each : All (λ p. cell_length (get_or cells p None) ≤ n) t.positions =
    All-from_get_or (λ p. cell_length (get_or cells p None) ≤ n) t.positions 0 (λ i below. short_cell n _ (fits (get_or t.positions i 0) (t.below i below))) in
    let sum = sum_by-le (λ p. cell_length (get_or cells p None)) n t.positions each in
    omega (arith, sum, t.long, mul-le-mul_right n (few_positions cells t))

-- sums over the same terms are one
pub same_sum : (f h : ℕ → ℕ) (q : ℕ → ℕ) (ps : List ℕ) → ((i : ℕ) → i < length ps → f (q (get_or ps i 0)) ≡ h (get_or ps i 0)) → sum_by f (map q ps) ≡ sum_by h ps
same_sum f h q [] each = refl
same_sum f h q (p ∷ ps) each = omega (arith, sum_by-cons f (q p) (map q ps), sum_by-cons h p ps, each 0 (omega arith), same_sum f h q ps (λ i below. each (suc i) (omega arith)))

-- where cells are among others, each at a place of its own, and are too long, so are the others
pub too_long_among : (cells all : List (Option (List ℕ))) (q : ℕ → ℕ) → ((i : ℕ) → i < length cells → q i < length all)
    → ((i j : ℕ) → i < length cells → j < length cells → q i ≡ q j → i ≡ j)
    → ((i : ℕ) → i < length cells → get_or all (q i) None ≡ get_or cells i None) → AreTooLong cells → AreTooLong all
too_long_among cells all q inside apart same t =
    let len : length (map q t.positions) ≡ length t.positions = length-map t.positions q in
    let at : (i : ℕ) → i < length t.positions → get_or (map q t.positions) i 0 ≡ q (get_or t.positions i 0) = λ i below. get_or-map q t.positions i 0 0 below in
    record {
      positions = map q t.positions;
      below = λ i below.
          let in_ps : i < length t.positions = omega (arith, len) in
          omega (arith, at i in_ps, inside (get_or t.positions i 0) (t.below i in_ps));
      apart = λ i j before below is.
          let j_in : j < length t.positions = omega (arith, len) in
          let i_in : i < length t.positions = omega arith in
          t.apart i j before j_in (apart (get_or t.positions i 0) (get_or t.positions j 0) (t.below i i_in) (t.below j j_in) (sym (at i i_in) ∙ is ∙ at j j_in));
      long = omega (
        arith,
        t.long,
        same_sum (λ p. cell_length (get_or all p None)) (λ p. cell_length (get_or cells p None)) q t.positions (λ i below. ap cell_length (same (get_or t.positions i 0) (t.below i below))),
      );
    }
