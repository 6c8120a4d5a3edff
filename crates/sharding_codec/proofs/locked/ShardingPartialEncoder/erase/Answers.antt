use Rattle.sharding_codec.proofs.AnswerLemmas.{ok_and, ok_so, err_and, err_so}
use Rattle.sharding_codec.proofs.locked.ShardingPartialEncoder.erase.Goals as goal

pub returns-clause-erased : goal.returns-clause-erased
returns-clause-erased g c =
    let e = c.erase.ensures in
    let r = c.erase.result in
    ok_so r (ok_and _ _ r e.done (ok_and _ _ r e.erased e.absent)) (λ nothing h. (
      c.deref_mut.result.now,
      c.erase.new.self,
      e.was_in_step,
      e.in_step,
      record { done = h.0; erased = h.1.0; absent = h.1.1 },
    ))

pub returns-clause-refused : goal.returns-clause-refused
returns-clause-refused g c =
    let e = c.erase.ensures in
    let r = c.erase.result in
    err_so r (err_and _ _ r e.failed e.refused) (λ error h. (
      c.deref_mut.result.now,
      c.erase.new.self,
      e.was_in_step,
      e.in_step,
      record { failed = h.0; refused = h.1 },
    ))
