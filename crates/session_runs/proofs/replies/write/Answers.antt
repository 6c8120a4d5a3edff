use Rattle.std.proofs.Common.{◌≡◌, IsTrue, refl}
use Rattle.parts_subsets.specs.Grid.{grid_of}
use Rattle.sharding_format.specs.Index.{index_spec}
use Rattle.sharding_format.specs.Serves.{subchunk_spec}
use Rattle.session_runs.specs.Objects.{shards_of}
use Rattle.session_runs.specs.Runs.{WriteStep}
use Rattle.session_runs.specs.steps.Serving.{Leads}
use Rattle.session_runs.specs.declared.command.Reply.TheVariants.{Refused}
use Rattle.session_runs.proofs.StepLemmas.{write_leads, refused_leads}
use Rattle.session_runs.proofs.SessionCauses.{of_refused, left_object, cached_in_step, numbers_in_step, write_refused}
use Rattle.session_runs.proofs.replies.write.Goals as goal

pub returns-in-Ok-clause-leads : goal.returns-in-Ok-clause-leads
returns-in-Ok-clause-leads g c =
    λ told.
    let inner = g.I.ArrayToBytesCodecTraits.meaning in
    let outer = g.X.ArrayToBytesCodecTraits.meaning in
    let state = g.H.BytesPartialDecoderTraits.state in
    let session = c.args.state.now in
    let after = c.partial_encode.new.self in
    let codec = session.codec in
    let spec = session.array_spec in
    let done = c.in-Ok.ensures.done in
    let still : IsTrue (state after.handle).transparent = rw done.handle.transparent_same told in
    write_leads (inner codec.inner (subchunk_spec codec.subchunk_shape spec)) (outer codec.index_codec (index_spec (grid_of spec.shape codec.subchunk_shape)))
    codec.subchunk_shape codec.location codec.order spec c.args.subset.now c.args.bytes.now (state session.handle).contents (state after.handle).contents
    c.in-Ok.ensures.update
    (record {
      len = session.len;
      numbers = session.index;
      before = c.requires.in_step.cached c.requires.usable told;
      before_cached = c.requires.in_step.index;
      new_len = after.len;
      new_numbers = after.index;
      after = cached_in_step inner outer state after codec spec c.partial_encode.ensures.in_step done.codec done.array_spec done.after still;
      after_cached = numbers_in_step inner outer state after codec spec c.partial_encode.ensures.in_step done.codec done.array_spec;
      written = c.in-Ok.ensures.written told;
    })
    (c.in-Ok.ensures.cells told)

pub returns-in-Err-clause-leads : goal.returns-in-Err-clause-leads
returns-in-Err-clause-leads g c =
    λ told.
    let inner = g.I.ArrayToBytesCodecTraits.meaning in
    let outer = g.X.ArrayToBytesCodecTraits.meaning in
    let state = g.H.BytesPartialDecoderTraits.state in
    let session = c.args.state.now in
    let after = c.partial_encode.new.self in
    let codec = session.codec in
    let spec = session.array_spec in
    let e = c.in-Err.error in
    let s = shards_of inner outer codec spec in
    let old = (state session.handle).contents in
    let new = (state after.handle).contents in
    of_refused e c.refused.result (λ reply. Leads s (λ m m'. WriteStep s c.args.subset.now c.args.bytes.now m old reply m' new) old new) c.refused.ensures (λ no_fault.
    let same : new ≡ old = left_object state session after e c.in-Err.ensures.failed no_fault in
    refused_leads s.inner s.index codec.subchunk_shape codec.location codec.order spec (λ m m'. WriteStep s c.args.subset.now c.args.bytes.now m old (Refused e) m' new) old new same (λ m shows. (
      (refl, same),
      write_refused inner outer state session (state after.handle) m e c.requires.in_step c.requires.usable told no_fault
          (g.met.I.ArrayToBytesCodecTraits.lawful codec.inner (subchunk_spec codec.subchunk_shape spec)) shows c.args.subset.now c.args.bytes.now c.in-Err.ensures.refused,
    )))
