use Rattle.session_runs.specs.Served.{served_spec}
use Rattle.session_runs.proofs.OpeningLemmas.{usable_closed}
use Rattle.session_runs.proofs.step.step.Goals as goal

pub compact_and_open-requires-clause-usable : goal.compact_and_open-requires-clause-usable
compact_and_open-requires-clause-usable g c =
    λ told.
    let session = c.requires.session in
    usable_closed g.I.ArrayToBytesCodecTraits.meaning g.X.ArrayToBytesCodecTraits.meaning g.H.BytesPartialDecoderTraits.state c.args.state c.args.served.now.codec.now (served_spec c.args.served.now) c.close.result
    c.requires.in_step session.codec session.array_spec session.usable c.close.ensures.handle told

pub open_again-requires-clause-usable : goal.open_again-requires-clause-usable
open_again-requires-clause-usable g c =
    λ told.
    let session = c.requires.session in
    usable_closed g.I.ArrayToBytesCodecTraits.meaning g.X.ArrayToBytesCodecTraits.meaning g.H.BytesPartialDecoderTraits.state c.args.state c.args.served.now.codec.now (served_spec c.args.served.now) c.close-in-Reopen.result
    c.requires.in_step session.codec session.array_spec session.usable c.close-in-Reopen.ensures.handle told
