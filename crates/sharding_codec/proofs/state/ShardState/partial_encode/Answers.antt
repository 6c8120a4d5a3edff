use Rattle.std.proofs.Common.{◌∙◌, ap, IsTrue}
use Rattle.parts_row_major.specs.Subsets.{Subset}
use Rattle.parts_arrays.specs.ArraySpec.{array_spec}
use Rattle.parts_subsets.specs.Grid.{grid_of}
use Rattle.sharding_format.specs.Index.{index_spec}
use Rattle.sharding_format.specs.Serves.{subchunk_spec}
use Rattle.codec_traits.specs.RefusalLaws.{passed_on}
use Rattle.sharding_write.specs.steps.Changes.{object_after}
use Rattle.sharding_codec.specs.Sessions.{numbers_cached}
use Rattle.sharding_codec.specs.SessionWrites.{WrittenRefusals}
use Rattle.sharding_open.proofs.PreparedLemmas.{write_open, written_after}
use Rattle.sharding_codec.proofs.SessionLemmas.{meant, session_open, read_open}
use Rattle.sharding_codec.proofs.WriteLemmas.{update_refused}
use Rattle.sharding_codec.proofs.state.ShardState.partial_encode.Goals as goal

pub returns-then-self-clause-was_in_step : goal.returns-then-self-clause-was_in_step
returns-then-self-clause-was_in_step g c = rw (← c.self.view_is) c.self.invariant.in_step

pub returns-then-self-clause-in_step : goal.returns-then-self-clause-in_step
returns-then-self-clause-in_step g c = rw (← c.self.view_is) c.self.invariant.in_step

pub returns-in_err-subset-clause-was_in_step : goal.returns-in_err-subset-clause-was_in_step
returns-in_err-subset-clause-was_in_step g c = rw (← c.self.view_is) c.self.invariant.in_step

pub returns-in_err-subset-clause-in_step : goal.returns-in_err-subset-clause-in_step
returns-in_err-subset-clause-in_step g c = rw (← c.self.view_is) c.self.invariant.in_step

pub returns-in_err-prepared-clause-was_in_step : goal.returns-in_err-prepared-clause-was_in_step
returns-in_err-prepared-clause-was_in_step g c = rw (← c.self.view_is) c.self.invariant.in_step

pub returns-in-Err-clause-was_in_step : goal.returns-in-Err-clause-was_in_step
returns-in-Err-clause-was_in_step g c = rw (← c.self.view_is) c.self.invariant.in_step

pub returns-clause-was_in_step : goal.returns-clause-was_in_step
returns-clause-was_in_step g c = rw (← c.self.view_is) c.self.invariant.in_step

pub returns-in_err-prepared-clause-refused : goal.returns-in_err-prepared-clause-refused
returns-in_err-prepared-clause-refused g c =
    let inner = g.I.ArrayToBytesCodecTraits in
    let outer = g.X.ArrayToBytesCodecTraits in
    let h = g.H.BytesPartialDecoderTraits in
    let s = c.self.inside in
    let shard = s.opened.shard in
    let spec = array_spec shard.shape shard.data_type shard.fill_value in
    let update = c.args.bytes.now in
    let e = c.in_err-prepared.field-0.0 in
    rw (← c.self.view_is) (passed_on _ e _ c.from_residual-in_err-prepared.ensures.1
    (update_refused s.failed shard.shape shard.data_type (g.N.Indexer.selection c.args.indexer.now) c.in_ok-subset.subset.now update (h.state s.handle) (h.state c.prepare_write.new.handle)
    (λ (subset : Subset). WrittenRefusals inner.meaning outer.meaning s.codec.now spec subset update.elements (h.state s.handle).contents (numbers_cached shard.cached s.opened.blank.items))
    e c.if-self.false c.in_ok-subset.ensures.update c.in_ok-subset.ensures.subset c.in_err-prepared.ensures.refused))

pub invariant_of-self : goal.invariant_of-self
invariant_of-self g c =
    let s = c.self.inside in
    read_open (meant g.I.ArrayToBytesCodecTraits.meaning g.X.ArrayToBytesCodecTraits.meaning) g.X.ArrayToBytesCodecTraits.meaning g.H.BytesPartialDecoderTraits.state
    s.codec.now s.handle c.prepare_write.new.handle s.failed s.opened c.prepare_write.ensures.read c.self.invariant

pub returns-in_err-prepared-clause-in_step : goal.returns-in_err-prepared-clause-in_step
returns-in_err-prepared-clause-in_step g c = (invariant_of-self g c).in_step

pub invariant_of-self-in_default : goal.invariant_of-self-in_default
invariant_of-self-in_default g c =
    let inner = g.I.ArrayToBytesCodecTraits in
    let outer = g.X.ArrayToBytesCodecTraits in
    let h = g.H.BytesPartialDecoderTraits in
    let s = c.self.inside in
    let codec = s.codec.now in
    let p = c.in_ok-prepared.prepared in
    let read = c.prepare_write.ensures.read in
    session_open (meant inner.meaning outer.meaning) outer.meaning h.state codec c.write.new.handle s.failed c.write.new.self
    (write_open (meant inner.meaning outer.meaning codec) (λ grid. outer.meaning codec.index_codec (index_spec grid)) codec.location codec.subchunk_shape h.state s.handle c.write.new.handle s.opened c.write.new.self p.change p.len p.numbers
    (c.self.invariant.is_open c.if-self.false) c.in_ok-prepared.ensures.cached c.in_ok-prepared.ensures.told
    (λ t. let told : IsTrue (h.state c.prepare_write.new.handle).transparent = rw c.write.ensures.writing.transparent_same at t in
    (rw read.transparent_same at told, c.in_default.ensures.made told ∙ ap (λ o. object_after p.change o) read.contents_same))
    c.in_default.ensures.shard c.in_default.ensures.plan c.in_default.ensures.blank)

pub returns-clause-in_step : goal.returns-clause-in_step
returns-clause-in_step g c = (invariant_of-self-in_default g c).in_step

pub returns-clause-written : goal.returns-clause-written
returns-clause-written g c =
    let inner = g.I.ArrayToBytesCodecTraits in
    let outer = g.X.ArrayToBytesCodecTraits in
    let h = g.H.BytesPartialDecoderTraits in
    let s = c.self.inside in
    let codec = s.codec.now in
    let shard = s.opened.shard in
    let spec = array_spec shard.shape shard.data_type shard.fill_value in
    let sub_g = subchunk_spec codec.subchunk_shape spec in
    let p = c.in_ok-prepared.prepared in
    let read = c.prepare_write.ensures.read in
    rw (← c.self.view_is) (λ t.
    let told : IsTrue (h.state c.prepare_write.new.handle).transparent = rw read.transparent_same t in
    written_after (inner.meaning codec.inner sub_g) (outer.meaning codec.index_codec (index_spec (grid_of spec.shape codec.subchunk_shape))) codec.location sub_g spec
    (g.N.Indexer.selection c.args.indexer.now) c.in_ok-subset.subset.now c.args.bytes.now.elements
    (h.state s.handle).contents (h.state c.write.new.handle).contents (numbers_cached shard.cached s.opened.blank.items) p.change p.len p.numbers c.write.new.self.shard.cached c.write.new.self.blank.items
    c.in_ok-subset.ensures.subset (c.in_default.ensures.made told ∙ ap (λ o. object_after p.change o) read.contents_same) (ap (λ x. x.cached) c.in_default.ensures.shard) c.in_default.ensures.blank
    (c.in_ok-prepared.ensures.written t))

pub returns-clause-cells : goal.returns-clause-cells
returns-clause-cells g c =
    let h = g.H.BytesPartialDecoderTraits in
    let p = c.in_ok-prepared.prepared in
    let read = c.prepare_write.ensures.read in
    rw (← c.self.view_is) (λ t.
    let told : IsTrue (h.state c.prepare_write.new.handle).transparent = rw read.transparent_same t in
    let now = c.in_default.ensures.made told ∙ ap (λ o. object_after p.change o) read.contents_same in
    rw (c.in_ok-subset.ensures.subset, now) (c.in_ok-prepared.ensures.cells t))
