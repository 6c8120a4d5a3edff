use Rattle.std.proofs.Common.{◌≡◌, ◌∙◌, ◌<◌, ◌^◌, length, ap}
use Rattle.std.specs.List.{All}
use Rattle.codec_traits.specs.RefusalLaws.{passed_on}
use Rattle.parts_errors.specs.Order.{RefusedBy}
use Rattle.parts_row_major.specs.Numbering.{AllPositive}
use Rattle.sharding_plans.specs.ReadPlans.{CutRefusals}
use Rattle.sharding_plans.specs.Chunks.{whole_chunks}
use Rattle.sharding_plans.proofs.RoundingLemmas.{chunks_refused}
use Rattle.sharding_plans.proofs.chunks.PlannedArray.new.Goals as goal

pub returns-in_err-chunks-clause-refused : goal.returns-in_err-chunks-clause-refused
returns-in_err-chunks-clause-refused c =
    let shape = c.args.shape.now in
    let chunk = c.args.chunk_shape in
    let e = c.in_err-chunks.field-0.0 in
    let slice = c.as_slice.ensures.value in
    let made = c.from_positive-whole.ensures ∙ (c.in_ok-whole.ensures.whole ∙ ap (whole_chunks shape) slice) in
    let same : length shape ≡ length chunk = c.in_ok-whole.ensures.served.0 ∙ ap length slice in
    let fit : All (λ axis. axis < 2 ^ 64) (whole_chunks shape chunk) = rw slice at c.in_ok-whole.ensures.served.1 in
    let some : AllPositive chunk = c.as_slice.ensures.positive in
    let refused : RefusedBy (CutRefusals (whole_chunks shape chunk) chunk) e = rw made at c.in_err-chunks.ensures.refused in
    passed_on _ e _ c.from_residual-in_err-chunks.ensures.1 (chunks_refused shape chunk e same some fit refused)
