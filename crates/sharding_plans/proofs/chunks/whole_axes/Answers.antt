use Rattle.std.proofs.Common.{◌<◌, ◌^◌, ◌∙◌, inl, inr, arith, refl}
use Rattle.std.proofs.lemmas.List.{take_all}
use Rattle.std.proofs.lemmas.List.Elements.{All-push}
use Rattle.parts_row_major.proofs.SubsetLaws.{length-zip_with, get_or-zip_with, zip_with_more}
use Rattle.sharding_plans.specs.Chunks.{rounded_up, whole_chunks}
use Rattle.sharding_plans.proofs.RoundingLemmas.{whole_positive}
use Rattle.sharding_plans.proofs.chunks.whole_axes.Goals as goal

pub returns-in_default-clause-refused : goal.returns-in_default-clause-refused
returns-in_default-clause-refused c =
    let shape = c.args.shape.now in
    let chunk = c.args.chunk.now in
    let axis = c.loop-axis.axis in
    let same = c.if-shape-chunk.false in
    let rounded = get_or-zip_with rounded_up shape chunk axis (omega arith) (omega arith) in
    inr (inr (same, inl (λ all. c.in_default.ensures (omega (arith, rounded, all axis 0 (omega (arith, length-zip_with rounded_up shape chunk same)))), refl)))

pub loop-axis-preserved : goal.loop-axis-preserved
loop-axis-preserved c =
    let pushed = c.in_ok-push.ensures.ok in
    record {
      rounded = zip_with_more rounded_up c.args.shape.now c.args.chunk.now c.loop-axis.axis _ _ _ _ c.if-shape-chunk.false (omega arith) refl refl
          c.loop-axis.invariant.rounded (rw c.in-Some.ensures.1 at pushed);
      fit = rw pushed (All-push (λ axis. axis < 2 ^ 64) _ _ c.loop-axis.invariant.fit (rw c.in-Some.ensures.1 c.in-Some.ensures.0));
    }

pub returns-clause-whole : goal.returns-clause-whole
returns-clause-whole c =
    let shape = c.args.shape.now in
    let chunk = c.args.chunk.now in
    c.loop-axis.invariant.rounded ∙ take_all c.loop-axis.axis (whole_chunks shape chunk) (omega (arith, length-zip_with rounded_up shape chunk c.if-shape-chunk.false))

pub returns-clause-positive : goal.returns-clause-positive
returns-clause-positive c =
    let shape = c.args.shape.now in
    let chunk = c.args.chunk.now in
    let whole = c.loop-axis.invariant.rounded ∙ take_all c.loop-axis.axis (whole_chunks shape chunk) (omega (arith, length-zip_with rounded_up shape chunk c.if-shape-chunk.false)) in
    rw whole (whole_positive shape chunk c.requires.chunk)

pub returns-clause-served : goal.returns-clause-served
returns-clause-served c =
    let shape = c.args.shape.now in
    let chunk = c.args.chunk.now in
    let whole = c.loop-axis.invariant.rounded ∙ take_all c.loop-axis.axis (whole_chunks shape chunk) (omega (arith, length-zip_with rounded_up shape chunk c.if-shape-chunk.false)) in
    (c.if-shape-chunk.false, rw whole at c.loop-axis.invariant.fit)
