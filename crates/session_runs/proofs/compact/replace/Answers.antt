use Rattle.std.proofs.Common.{inl, inr, length}
use Rattle.session_runs.specs.steps.Replacing.{IsReplaced}
use Rattle.session_runs.proofs.SessionCauses.{of_refused}
use Rattle.session_runs.proofs.ReplaceLemmas.{replace_refused}
use Rattle.session_runs.proofs.compact.replace.Goals as goal

pub returns-in-Err-clause-replaced : goal.returns-in-Err-clause-replaced
returns-in-Err-clause-replaced g c =
    λ told.
    let state = g.H.BytesPartialDecoderTraits.state in
    let old = state c.args.handle.now in
    let new = state c.replace.new.self in
    let e = c.in-Err.error in
    of_refused e c.refused.result (IsReplaced c.args.bytes.now old.contents new.contents) c.refused.ensures (λ no_fault. (
      elim c.in-Err.ensures.kept [ inl fault ↦ absurd (no_fault fault) | inr same ↦ same ],
      replace_refused (length c.args.bytes.now) old new e told no_fault c.in-Err.ensures.refused,
    ))
