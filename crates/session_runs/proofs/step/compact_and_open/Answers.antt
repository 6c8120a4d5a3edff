use Rattle.parts_subsets.specs.Grid.{grid_of}
use Rattle.sharding_format.specs.Index.{index_spec}
use Rattle.session_runs.specs.Objects.{shards_of}
use Rattle.session_runs.specs.Served.{served_spec}
use Rattle.session_runs.proofs.OpeningLemmas.{meant, index_never_long, opening_refused}
use Rattle.session_runs.proofs.RunLemmas.{stops_from}
use Rattle.session_runs.proofs.step.compact_and_open.Goals as goal

pub returns-in-Err-open-clause-halts : goal.returns-in-Err-open-clause-halts
returns-in-Err-open-clause-halts g c =
    λ told.
    let inner = g.I.ArrayToBytesCodecTraits.meaning in
    let outer = g.X.ArrayToBytesCodecTraits.meaning in
    let state = g.H.BytesPartialDecoderTraits.state in
    let codec = c.args.served.now.codec.now in
    let spec = served_spec c.args.served.now in
    let s = shards_of inner outer codec spec in
    let old = state c.args.handle in
    let mid = state c.compact.new.handle in
    let new = state c.in-Err-open.handle in
    let writing = c.compact.ensures.writing in
    let short = index_never_long s.inner s.index codec.subchunk_shape spec (g.met.X.ArrayToBytesCodecTraits.lawful codec.index_codec (index_spec (grid_of spec.shape codec.subchunk_shape))) c.requires.serves in
    let usable = c.in-Ok.ensures.usable told in
    rw c.in-Err-open.ensures.returned.contents_same (
      (c.in-Ok.ensures.leads told, usable),
      stops_from old mid new c.in-Err-open.error writing.faults_kept
          (opening_refused inner outer codec spec short (meant inner outer codec spec) mid new c.in-Err-open.error c.requires.serves (rw writing.transparent_same told) usable c.in-Err-open.ensures.refused),
    )
