use Rattle.std.proofs.Common.{refl}
use Rattle.parts_subsets.specs.Grid.{grid_of}
use Rattle.sharding_format.specs.Index.{index_spec}
use Rattle.session_runs.specs.Objects.{shards_of}
use Rattle.session_runs.specs.Served.{served_spec}
use Rattle.session_runs.proofs.OpeningLemmas.{meant, index_never_long, opening_refused}
use Rattle.session_runs.proofs.step.open_again.Goals as goal

pub returns-in-Err-clause-halts : goal.returns-in-Err-clause-halts
returns-in-Err-clause-halts g c =
    λ told.
    let inner = g.I.ArrayToBytesCodecTraits.meaning in
    let outer = g.X.ArrayToBytesCodecTraits.meaning in
    let state = g.H.BytesPartialDecoderTraits.state in
    let codec = c.args.served.now.codec.now in
    let spec = served_spec c.args.served.now in
    let s = shards_of inner outer codec spec in
    let short = index_never_long s.inner s.index codec.subchunk_shape spec (g.met.X.ArrayToBytesCodecTraits.lawful codec.index_codec (index_spec (grid_of spec.shape codec.subchunk_shape))) c.requires.serves in (
      refl,
      opening_refused inner outer codec spec short (meant inner outer codec spec) (state c.args.handle) (state c.in-Err.handle) c.in-Err.error c.requires.serves told (c.requires.usable told) c.in-Err.ensures.refused,
    )
