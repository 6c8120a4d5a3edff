use Rattle.std.proofs.Common.{◌≡◌, IsTrue, length, take}
use Rattle.storage_handles.specs.Writes.{IsWriting}
use Rattle.sharding_codec.specs.Sessions.{IsInStep}
use Rattle.session_runs.specs.Objects.{shards_of}
use Rattle.session_runs.specs.Served.{served_spec}
use Rattle.session_runs.specs.Halting.{Ran, IsSessionOf}
use Rattle.session_runs.proofs.OpeningLemmas.{meant}
use Rattle.session_runs.proofs.run.run_each.Given as goal

-- the session stands where the run so far has led
abbrev pub invariant-loop-command : goal.invariant-loop-command
invariant-loop-command g l = record {
  session : IsSessionOf l.served.codec.now (served_spec l.served) l.state;
  in_step : IsInStep (meant g.I.ArrayToBytesCodecTraits.meaning g.X.ArrayToBytesCodecTraits.meaning) g.X.ArrayToBytesCodecTraits.meaning g.H.BytesPartialDecoderTraits.state l.state;
  writing : IsWriting (g.H.BytesPartialDecoderTraits.state l.fn.handle) (g.H.BytesPartialDecoderTraits.state l.state.handle);
  count : length l.replies.items ≡ l.command-index;
  ran : IsTrue (g.H.BytesPartialDecoderTraits.state l.fn.handle).transparent
      → Ran (shards_of g.I.ArrayToBytesCodecTraits.meaning g.X.ArrayToBytesCodecTraits.meaning l.served.codec.now (served_spec l.served))
      (g.H.BytesPartialDecoderTraits.state l.fn.handle).contents (take l.command-index l.commands) l.replies.items (g.H.BytesPartialDecoderTraits.state l.state.handle).contents;
}
