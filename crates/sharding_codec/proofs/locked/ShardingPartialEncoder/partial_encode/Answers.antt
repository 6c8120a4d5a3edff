use Rattle.sharding_codec.proofs.AnswerLemmas.{ok_and, ok_so, err_and, err_so}
use Rattle.sharding_codec.proofs.locked.ShardingPartialEncoder.partial_encode.Goals as goal

pub returns-clause-written : goal.returns-clause-written
returns-clause-written g c =
    let e = c.partial_encode.ensures in
    let r = c.partial_encode.result in
    ok_so r (ok_and _ _ r (ok_and _ _ r e.done e.update) (ok_and _ _ r e.written e.cells)) (λ nothing h. (
      c.deref_mut.result.now,
      c.partial_encode.new.self,
      e.was_in_step,
      e.in_step,
      record { done = h.0.0; update = h.0.1; written = h.1.0; cells = h.1.1 },
    ))

pub returns-clause-refused : goal.returns-clause-refused
returns-clause-refused g c =
    let e = c.partial_encode.ensures in
    let r = c.partial_encode.result in
    err_so r (err_and _ _ r e.failed (err_and _ _ r e.fault e.refused)) (λ error h. (
      c.deref_mut.result.now,
      c.partial_encode.new.self,
      e.was_in_step,
      e.in_step,
      record { failed = h.0; fault = h.1.0; refused = h.1.1 },
    ))
