use Rattle.std.proofs.Common.{sym, subst}
use Rattle.parts_arrays.specs.ArraySpec.{array_spec}
use Rattle.shard_sessions.specs.Recorded.{RecordedRefusals}
use Rattle.shard_sessions.proofs.OpeningLemmas.{cells_opened, refused_opened}
use Rattle.shard_sessions.proofs.encoder.recorded.Goals as goal

pub returns-in-Ok-clause-opening : goal.returns-in-Ok-clause-opening
returns-in-Ok-clause-opening g c =
    let inner = g.I.ArrayToBytesCodecTraits.meaning in
    let index = g.X.ArrayToBytesCodecTraits.meaning in
    let state = g.H.BytesPartialDecoderTraits.state in
    let ok = c.in_ok-state.ensures in
    λ told. cells_opened inner index state c.in_ok-state.state c.args.codec.now _ c.args.handle ok.codec ok.spec ok.read c.in-Ok.opening.elements c.in-Ok.ensures.cells told

pub returns-in-Err-clause-refused : goal.returns-in-Err-clause-refused
returns-in-Err-clause-refused g c =
    let inner = g.I.ArrayToBytesCodecTraits.meaning in
    let index = g.X.ArrayToBytesCodecTraits.meaning in
    let state = g.H.BytesPartialDecoderTraits.state in
    let ok = c.in_ok-state.ensures in
    let refusals : g.row.H.Denot → Type 0 = λ after. RecordedRefusals inner index c.args.codec.now (array_spec c.args.shape.now c.args.data_type.now c.args.fill_value.now) (state c.args.handle) (state after) c.in-Err.error in
    subst refusals (sym c.close.ensures.handle)
    (refused_opened inner index state c.in_ok-state.state c.args.codec.now _ c.args.handle ok.codec ok.spec ok.read c.opening_cells.new.state.handle c.in-Err.error ok.in_step ok.usable (c.in-Err.ensures.refused ok.usable))
