use Rattle.sharding_codec.proofs.AnswerLemmas.{ok_and, ok_so, err_and, err_so}
use Rattle.shard_sessions.proofs.encoder.RecordedPartialEncoder.write.Goals as goal

pub returns-clause-written : goal.returns-clause-written
returns-clause-written g c =
    let e = c.write-answer.ensures in
    let r = c.write-answer.result in
    ok_so r (ok_and _ _ r (ok_and _ _ r e.written e.place) e.event) (λ place h. (
      c.deref_mut.result.now,
      c.write-answer.new.self,
      e.was_recorded,
      e.recorded,
      record { session = h.0.0; position_is = h.0.1; events = h.1; opening = e.opening },
    ))

pub returns-clause-refused : goal.returns-clause-refused
returns-clause-refused g c =
    let e = c.write-answer.ensures in
    let r = c.write-answer.result in
    err_so r (err_and _ _ r e.refused e.no_event) (λ error h. (
      c.deref_mut.result.now,
      c.write-answer.new.self,
      e.was_recorded,
      e.recorded,
      record { session = h.0; events = h.1.0; opening = e.opening },
    ))
