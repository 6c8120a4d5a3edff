use Rattle.sharding_format.specs.Index.{index_spec}
use Rattle.sharding_open.proofs.SessionLemmas.{none_open}
use Rattle.sharding_codec.proofs.SessionLemmas.{meant, session_open}
use Rattle.sharding_codec.proofs.state.ShardState.erase.Goals as goal

pub returns-then-self-clause-was_in_step : goal.returns-then-self-clause-was_in_step
returns-then-self-clause-was_in_step g c = rw (← c.self.view_is) c.self.invariant.in_step

pub returns-then-self-clause-in_step : goal.returns-then-self-clause-in_step
returns-then-self-clause-in_step g c = rw (← c.self.view_is) c.self.invariant.in_step

pub returns-in-Err-clause-was_in_step : goal.returns-in-Err-clause-was_in_step
returns-in-Err-clause-was_in_step g c = rw (← c.self.view_is) c.self.invariant.in_step

pub returns-clause-was_in_step : goal.returns-clause-was_in_step
returns-clause-was_in_step g c = rw (← c.self.view_is) c.self.invariant.in_step

pub invariant_of-self-2 : goal.invariant_of-self-2
invariant_of-self-2 g c =
    let inner = g.I.ArrayToBytesCodecTraits in
    let outer = g.X.ArrayToBytesCodecTraits in
    let h = g.H.BytesPartialDecoderTraits in
    let s = c.self.inside in
    let codec = s.codec.now in
    session_open (meant inner.meaning outer.meaning) outer.meaning h.state codec c.erase.new.self s.failed c.cache_none.new.self
    (none_open (meant inner.meaning outer.meaning codec) (λ grid. outer.meaning codec.index_codec (index_spec grid)) codec.location codec.subchunk_shape h.state s.handle c.erase.new.self s.opened c.cache_none.new.self
    (c.self.invariant.is_open c.if-self.false) (λ t. c.in_default.ensures.erased (rw c.erase.ensures.writing.transparent_same at t))
    c.cache_none.ensures.shard c.cache_none.ensures.plan c.cache_none.ensures.blank c.cache_none.ensures.kept)

pub returns-clause-in_step : goal.returns-clause-in_step
returns-clause-in_step g c = (invariant_of-self-2 g c).in_step
