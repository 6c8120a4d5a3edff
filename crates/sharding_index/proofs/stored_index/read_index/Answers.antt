use Rattle.std.proofs.Common.{inl, inr, arith}
use Rattle.codec_traits.specs.RefusalLaws.{passed_on}
use Rattle.sharding_index.proofs.stored_index.read_index.Goals as goal

pub returns-in_err-index-clause-refused : goal.returns-in_err-index-clause-refused
returns-in_err-index-clause-refused g c =
    let before = c.check_interval.ensures.read in
    let e = c.in_err-index.field-0.0 in
    let refused = rw before.contents_same at c.in_err-index.ensures.refused in
    passed_on _ e _ c.from_residual-in_err-index.ensures.1
    (elim refused [
      | inl memory ↦ inl memory
      | inr refusals ↦ inr (λ t. elim (refusals (rw before.transparent_same t)) [
        | inl fault ↦ inl (fault.0, omega (arith, fault.1, before.faults_kept))
        | inr index ↦ inr (inr (c.in_ok-check_interval.ensures.inside t, index))
      ])
    ])
