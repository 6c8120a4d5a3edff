use Rattle.std.proofs.Common.{sym}
use Rattle.shard_sessions.proofs.ClosingLemmas.{handed_back}
use Rattle.shard_sessions.proofs.encoder.RecordedPartialEncoder.close.Goals as goal

pub returns-then-failed-clause-left : goal.returns-then-failed-clause-left
returns-then-failed-clause-left g c =
    (c.into_inner-shard.result, c.if-failed.ensures.recorded, (sym c.if-failed.ensures.failed, c.into_parts-handle.ensures.handle))

pub returns-clause-left : goal.returns-clause-left
returns-clause-left g c =
    let r = c.into_inner-shard.result in
    let parts = c.into_parts-handle.ensures in (
      r,
      c.if-failed.ensures.recorded,
      handed_back r _ c.checked.result (record { usable = sym c.if-failed.ensures.failed; handle = parts.handle; opening = parts.opening; history = parts.events })
          c.checked.ensures.same c.checked.ensures.carried,
    )
