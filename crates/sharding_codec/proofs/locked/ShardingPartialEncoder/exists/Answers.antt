use Rattle.sharding_codec.proofs.AnswerLemmas.{ok_and, ok_so, err_so}
use Rattle.sharding_codec.proofs.locked.ShardingPartialEncoder.exists.Goals as goal

pub returns-clause-told : goal.returns-clause-told
returns-clause-told g c =
    let e = c.exists.ensures in
    let r = c.exists.result in
    ok_so r (ok_and _ _ r e.usable e.told) (λ there h. (c.deref_mut.result.now, c.exists.new.self, e.was_in_step, e.in_step, record { left = e.left; usable = h.0; told = h.1 }))

pub returns-clause-refused : goal.returns-clause-refused
returns-clause-refused g c =
    let e = c.exists.ensures in
    err_so c.exists.result e.refused (λ error h. (c.deref_mut.result.now, c.exists.new.self, e.was_in_step, e.in_step, record { left = e.left; refused = h }))
