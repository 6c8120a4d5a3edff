use Rattle.session_runs.specs.declared.event.Event.TheVariants.{Read}
use Rattle.shard_sessions.proofs.HistoryLemmas.{recorded_read, unset_after}
use Rattle.shard_sessions.proofs.shard.RecordedShard.read.Goals as goal

pub returns-clause-recorded : goal.returns-clause-recorded
returns-clause-recorded g c =
    let did = c.record_read.ensures in
    recorded_read g.I.ArrayToBytesCodecTraits.meaning g.X.ArrayToBytesCodecTraits.meaning g.H.BytesPartialDecoderTraits.state g.J.Naming.codec g.J.Naming.array_spec
    c.self.inside.state c.record_read.new.state c.self.inside.opening c.self.inside.history.events.items c.record_read.new.history.events.items did.in_step c.self.invariant.0
    _ c.record_read.result c.args.subset.now did.read did.event did.no_event did.refused

pub invariant_of-self : goal.invariant_of-self
invariant_of-self g c =
    let did = c.record_read.ensures in (
      recorded_read g.I.ArrayToBytesCodecTraits.meaning g.X.ArrayToBytesCodecTraits.meaning g.H.BytesPartialDecoderTraits.state g.J.Naming.codec g.J.Naming.array_spec
          c.self.inside.state c.record_read.new.state c.self.inside.opening c.self.inside.history.events.items c.record_read.new.history.events.items did.in_step c.self.invariant.0
          _ c.record_read.result c.args.subset.now did.read did.event did.no_event did.refused,
      unset_after _ c.record_read.result (λ answer. Read c.args.subset.now answer.1) c.self.inside.history.events.items c.record_read.new.history.events.items c.self.inside.history.seen.items c.record_read.new.history.seen.items c.self.invariant.1
          did.event did.mark did.no_event did.no_mark,
    )
