use Rattle.sharding_codec.proofs.AnswerLemmas.{ok_and, ok_so, err_and, err_so}
use Rattle.sharding_codec.proofs.locked.ShardingPartialEncoder.partial_decode.Goals as goal

pub returns-clause-read : goal.returns-clause-read
returns-clause-read g c =
    let e = c.partial_decode.ensures in
    let r = c.partial_decode.result in
    ok_so r (ok_and _ _ r (ok_and _ _ r e.usable e.answer) (ok_and _ _ r e.answerable e.cells)) (λ array h. (
      c.deref_mut.result.now,
      c.partial_decode.new.self,
      e.was_in_step,
      e.in_step,
      record { left = e.left; usable = h.0.0; answer = h.0.1; answerable = h.1.0; cells = h.1.1 },
    ))

pub returns-clause-refused : goal.returns-clause-refused
returns-clause-refused g c =
    let e = c.partial_decode.ensures in
    let r = c.partial_decode.result in
    err_so r (err_and _ _ r e.fault e.refused) (λ error h. (
      c.deref_mut.result.now,
      c.partial_decode.new.self,
      e.was_in_step,
      e.in_step,
      record { left = e.left; fault = h.0; refused = h.1 },
    ))
