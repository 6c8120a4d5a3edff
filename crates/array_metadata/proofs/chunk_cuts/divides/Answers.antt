use Rattle.std.proofs.Common.{subst, arith}
use Rattle.parts_subsets.specs.Grid.{Divides}
use Rattle.sharding_format.proofs.QuotientLemmas.{Divides-from_axes}
use Rattle.array_metadata.proofs.chunk_cuts.divides.Goals as goal

pub returns : goal.returns
returns c = λ e.
    let shape = c.as_slice-shape.result.now in
    let part = c.as_slice-part.result.now in
    let divides = Divides-from_axes part shape c.if-shape-part.false (λ k below. c.loop-axis.invariant k (omega (arith, below, c.loop-axis-test.false))) in
    subst (λ xs. Divides c.args.part.now xs) c.as_slice-shape.ensures.value (subst (λ xs. Divides xs shape) c.as_slice-part.ensures.value divides)
