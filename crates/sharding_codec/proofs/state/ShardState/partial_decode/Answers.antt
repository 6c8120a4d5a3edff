use Rattle.sharding_codec.proofs.SessionLemmas.{meant, read_open}
use Rattle.sharding_codec.proofs.state.ShardState.partial_decode.Goals as goal

pub returns-then-self-clause-was_in_step : goal.returns-then-self-clause-was_in_step
returns-then-self-clause-was_in_step g c = rw (← c.self.view_is) c.self.invariant.in_step

pub returns-then-self-clause-in_step : goal.returns-then-self-clause-in_step
returns-then-self-clause-in_step g c = rw (← c.self.view_is) c.self.invariant.in_step

pub returns-clause-was_in_step : goal.returns-clause-was_in_step
returns-clause-was_in_step g c = rw (← c.self.view_is) c.self.invariant.in_step

pub invariant_of-self : goal.invariant_of-self
invariant_of-self g c =
    let h = g.H.BytesPartialDecoderTraits in
    let s = c.self.inside in
    read_open (meant g.I.ArrayToBytesCodecTraits.meaning g.X.ArrayToBytesCodecTraits.meaning) g.X.ArrayToBytesCodecTraits.meaning h.state s.codec.now
    s.handle c.read.new.handle s.failed s.opened c.read.ensures.read c.self.invariant

pub returns-clause-in_step : goal.returns-clause-in_step
returns-clause-in_step g c = (invariant_of-self g c).in_step

pub returns-clause-cells : goal.returns-clause-cells
returns-clause-cells g c = rw (← c.self.view_is) c.read.ensures.cells
