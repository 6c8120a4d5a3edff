use Rattle.std.proofs.Common.{◌≡◌, length, arith, inl, inr, refl}
use Rattle.parts_subsets.proofs.GridLaws.{axis_divided, grid_positive}
use Rattle.sharding_format.proofs.QuotientLemmas.{Divides-from_axes, grid-from_axes}
use Rattle.sharding_format.proofs.grid.quotients.Goals as goal

pub returns-then-shape-i-ne0-clause-refused : goal.returns-then-shape-i-ne0-clause-refused
returns-then-shape-i-ne0-clause-refused c =
    inr (inr (c.if-shape-sub.false, inl (λ d. c.if-shape-i-ne0.true (axis_divided _ _ c.loop-i.i d c.loop-i-test.true), refl)))

pub returns-clause-grid : goal.returns-clause-grid
returns-clause-grid c =
    let n : c.loop-i.i ≡ length c.args.shape.now = omega arith in
    let divides = Divides-from_axes _ _ c.if-shape-sub.false (λ k below. c.loop-i.invariant.divided k (omega arith)) in
    grid-from_axes _ _ _ divides (omega (arith, c.loop-i.invariant.counted)) (λ k below. c.loop-i.invariant.quotient k (omega arith))

pub returns-clause-served : goal.returns-clause-served
returns-clause-served c =
    let n : c.loop-i.i ≡ length c.args.shape.now = omega arith in
    (c.if-shape-sub.false, Divides-from_axes _ _ c.if-shape-sub.false (λ k below. c.loop-i.invariant.divided k (omega arith)))

pub returns-clause-positive : goal.returns-clause-positive
returns-clause-positive c =
    let n : c.loop-i.i ≡ length c.args.shape.now = omega arith in
    let divides = Divides-from_axes _ _ c.if-shape-sub.false (λ k below. c.loop-i.invariant.divided k (omega arith)) in
    rw (grid-from_axes _ _ _ divides (omega (arith, c.loop-i.invariant.counted)) (λ k below. c.loop-i.invariant.quotient k (omega arith)))
    (grid_positive _ _ c.requires.shape divides)
