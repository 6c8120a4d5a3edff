use Rattle.session_runs.specs.declared.event.Event.TheVariants.{Erase}
use Rattle.shard_sessions.proofs.HistoryLemmas.{recorded_erase, unset_after}
use Rattle.shard_sessions.proofs.shard.RecordedShard.erase.Goals as goal

pub returns-clause-recorded : goal.returns-clause-recorded
returns-clause-recorded g c =
    let did = c.record_erase.ensures in
    recorded_erase g.I.ArrayToBytesCodecTraits.meaning g.X.ArrayToBytesCodecTraits.meaning g.H.BytesPartialDecoderTraits.state g.J.Naming.codec g.J.Naming.array_spec
    c.self.inside.state c.record_erase.new.state c.self.inside.opening c.self.inside.history.events.items c.record_erase.new.history.events.items did.in_step c.self.invariant.0
    _ c.record_erase.result did.erased did.event did.no_event did.refused

pub invariant_of-self : goal.invariant_of-self
invariant_of-self g c =
    let did = c.record_erase.ensures in (
      recorded_erase g.I.ArrayToBytesCodecTraits.meaning g.X.ArrayToBytesCodecTraits.meaning g.H.BytesPartialDecoderTraits.state g.J.Naming.codec g.J.Naming.array_spec
          c.self.inside.state c.record_erase.new.state c.self.inside.opening c.self.inside.history.events.items c.record_erase.new.history.events.items did.in_step c.self.invariant.0
          _ c.record_erase.result did.erased did.event did.no_event did.refused,
      unset_after _ c.record_erase.result (λ place. Erase) c.self.inside.history.events.items c.record_erase.new.history.events.items c.self.inside.history.seen.items c.record_erase.new.history.seen.items c.self.invariant.1
          did.event did.mark did.no_event did.no_mark,
    )
