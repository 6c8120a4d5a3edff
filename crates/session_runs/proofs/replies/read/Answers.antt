use Rattle.std.proofs.Common.{◌≡◌, refl}
use Rattle.parts_subsets.specs.Grid.{grid_of}
use Rattle.sharding_format.specs.Index.{index_spec}
use Rattle.sharding_format.specs.Serves.{subchunk_spec}
use Rattle.session_runs.specs.Objects.{shards_of}
use Rattle.session_runs.specs.Runs.{ReadStep}
use Rattle.session_runs.specs.steps.Serving.{Leads}
use Rattle.session_runs.specs.declared.command.Reply.TheVariants.{Refused}
use Rattle.session_runs.proofs.StepLemmas.{read_leads, refused_leads}
use Rattle.session_runs.proofs.SessionCauses.{of_refused, read_refused}
use Rattle.session_runs.proofs.replies.read.Goals as goal

pub returns-in-Ok-clause-leads : goal.returns-in-Ok-clause-leads
returns-in-Ok-clause-leads g c =
    λ told.
    let inner = g.I.ArrayToBytesCodecTraits.meaning in
    let outer = g.X.ArrayToBytesCodecTraits.meaning in
    let state = g.H.BytesPartialDecoderTraits.state in
    let session = c.args.state.now in
    let codec = session.codec in
    let spec = session.array_spec in
    read_leads (inner codec.inner (subchunk_spec codec.subchunk_shape spec)) (outer codec.index_codec (index_spec (grid_of spec.shape codec.subchunk_shape)))
    codec.subchunk_shape codec.location codec.order spec (g.N.Indexer.selection c.args.indexer.now) c.in-Ok.cells (state session.handle).contents (state c.partial_decode.new.self.handle).contents
    (g.met.N.Indexer.matches_subset c.args.indexer.now) c.in-Ok.ensures.answer c.partial_decode.ensures.left.handle.contents_same (c.in-Ok.ensures.cells told)

pub returns-in-Err-clause-leads : goal.returns-in-Err-clause-leads
returns-in-Err-clause-leads g c =
    λ told.
    let inner = g.I.ArrayToBytesCodecTraits.meaning in
    let outer = g.X.ArrayToBytesCodecTraits.meaning in
    let state = g.H.BytesPartialDecoderTraits.state in
    let session = c.args.state.now in
    let after = c.partial_decode.new.self in
    let codec = session.codec in
    let spec = session.array_spec in
    let e = c.in-Err.error in
    let s = shards_of inner outer codec spec in
    let selection = g.N.Indexer.selection c.args.indexer.now in
    let old = (state session.handle).contents in
    let new = (state after.handle).contents in
    of_refused e c.refused.result (λ reply. Leads s (λ m m'. ReadStep s selection m old reply m' new) old new) c.refused.ensures (λ no_fault.
    let same : new ≡ old = c.partial_decode.ensures.left.handle.contents_same in
    refused_leads s.inner s.index codec.subchunk_shape codec.location codec.order spec (λ m m'. ReadStep s selection m old (Refused e) m' new) old new same (λ m shows. (
      (refl, same),
      read_refused inner outer state session (state after.handle) m e c.requires.in_step c.requires.usable told no_fault
          (g.met.I.ArrayToBytesCodecTraits.lawful codec.inner (subchunk_spec codec.subchunk_shape spec)) shows selection (g.met.N.Indexer.matches_subset c.args.indexer.now) c.in-Err.ensures.refused,
    )))
