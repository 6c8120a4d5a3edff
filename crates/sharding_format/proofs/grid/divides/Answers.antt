use Rattle.std.proofs.Common.{refl, arith}
use Rattle.parts_subsets.proofs.GridLaws.{axis_divided}
use Rattle.sharding_format.proofs.QuotientLemmas.{Divides-from_axes}
use Rattle.sharding_format.proofs.grid.divides.Goals as goal

pub returns-then-shape-axis-ne0 : goal.returns-then-shape-axis-ne0
returns-then-shape-axis-ne0 c =
    (λ e. cc, λ d. absurd (c.if-shape-axis-ne0.true (axis_divided _ _ c.loop-axis.axis d c.loop-axis-test.true)))

pub returns : goal.returns
returns c =
    (λ e. Divides-from_axes _ _ c.requires.axes (λ k below. c.loop-axis.invariant k (omega arith)), λ d. refl)
