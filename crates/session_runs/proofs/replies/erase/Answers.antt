use Rattle.parts_subsets.specs.Grid.{grid_of}
use Rattle.sharding_format.specs.Index.{index_spec}
use Rattle.sharding_format.specs.Serves.{subchunk_spec}
use Rattle.session_runs.proofs.StepLemmas.{erase_leads}
use Rattle.session_runs.proofs.replies.erase.Goals as goal

pub returns-in-Ok-clause-leads : goal.returns-in-Ok-clause-leads
returns-in-Ok-clause-leads g c =
    λ told.
    let state = g.H.BytesPartialDecoderTraits.state in
    let session = c.args.state.now in
    let codec = session.codec in
    let spec = session.array_spec in
    erase_leads (g.I.ArrayToBytesCodecTraits.meaning codec.inner (subchunk_spec codec.subchunk_shape spec)) (g.X.ArrayToBytesCodecTraits.meaning codec.index_codec (index_spec (grid_of spec.shape codec.subchunk_shape)))
    codec.subchunk_shape codec.location codec.order spec (state session.handle).contents (state c.erase.new.self.handle).contents (c.in-Ok.ensures.erased told)
