use Rattle.std.proofs.Common.{IsTrue, subst}
use Rattle.parts_errors.specs.Words.{Bytes}
use Rattle.parts_subsets.specs.Grid.{grid_of}
use Rattle.sharding_format.specs.Index.{index_spec}
use Rattle.session_runs.specs.Objects.{shards_of}
use Rattle.session_runs.specs.Runs.{CompactStep}
use Rattle.session_runs.specs.Served.{served_spec}
use Rattle.session_runs.specs.steps.Serving.{Leads, IsUsable}
use Rattle.session_runs.specs.steps.Replacing.{IsReplaced}
use Rattle.session_runs.proofs.OpeningLemmas.{index_never_long}
use Rattle.session_runs.proofs.SessionCauses.{of_refused}
use Rattle.session_runs.proofs.ReplaceLemmas.{replaced_leads, replaced_usable, unmade_leads, each_ok, on_ok_told}
use Rattle.session_runs.proofs.served.Served.compact.Goals as goal

pub returns-in-Some-clause-usable : goal.returns-in-Some-clause-usable
returns-in-Some-clause-usable g c =
    let served = c.args.self.now in
    let codec = served.codec.now in
    let spec = served_spec served in
    let index_g = index_spec (grid_of spec.shape codec.subchunk_shape) in
    let s = shards_of g.I.ArrayToBytesCodecTraits.meaning g.X.ArrayToBytesCodecTraits.meaning codec spec in
    let state = g.H.BytesPartialDecoderTraits.state in
    let old = state c.args.handle.now in
    let mid = state c.compaction.new.handle in
    let new = state c.replace.new.handle in
    let bytes : Bytes = c.in-Some.bytes.items in
    let read = c.compaction.ensures.read in
    on_ok_told c.replace.result (IsTrue old.transparent) (IsReplaced bytes old.contents new.contents) (IsUsable s new.contents)
    (λ told.
    each_ok c.replace.result (IsReplaced c.deref.result.now mid.contents new.contents) (IsReplaced bytes old.contents new.contents) (c.replace.ensures.replaced (rw read.transparent_same told))
    (λ reply h. subst (λ o. IsReplaced bytes o new.contents reply) read.contents_same (subst (λ b. IsReplaced b mid.contents new.contents reply) c.deref.ensures.value h)))
    (λ reply told h.
    replaced_usable s.inner s.index codec.subchunk_shape codec.location codec.order spec c.requires.serves
    (λ x y array written. (g.met.X.ArrayToBytesCodecTraits.lawful codec.index_codec index_g).written_cells x y c.requires.serves.index_served.served array written)
    bytes old.contents new.contents reply (c.requires.usable told) (rw c.in-Some.is at (c.in-Ok.ensures.made told)) h)

pub returns-in-Some-clause-leads : goal.returns-in-Some-clause-leads
returns-in-Some-clause-leads g c =
    λ told.
    let served = c.args.self.now in
    let codec = served.codec.now in
    let spec = served_spec served in
    let index_g = index_spec (grid_of spec.shape codec.subchunk_shape) in
    let s = shards_of g.I.ArrayToBytesCodecTraits.meaning g.X.ArrayToBytesCodecTraits.meaning codec spec in
    let state = g.H.BytesPartialDecoderTraits.state in
    let old = state c.args.handle.now in
    let mid = state c.compaction.new.handle in
    let new = state c.replace.new.handle in
    let bytes : Bytes = c.in-Some.bytes.items in
    let read = c.compaction.ensures.read in
    each_ok c.replace.result (IsReplaced c.deref.result.now mid.contents new.contents) (λ reply. Leads s (λ m m'. CompactStep s m old.contents reply m' new.contents) old.contents new.contents)
    (c.replace.ensures.replaced (rw read.transparent_same told))
    (λ reply h.
    replaced_leads s.inner s.index codec.subchunk_shape codec.location codec.order spec c.requires.serves
    (λ x y array written. (g.met.X.ArrayToBytesCodecTraits.lawful codec.index_codec index_g).written_cells x y c.requires.serves.index_served.served array written)
    bytes old.contents new.contents reply (rw c.in-Some.is at (c.in-Ok.ensures.made told))
    (subst (λ o. IsReplaced bytes o new.contents reply) read.contents_same (subst (λ b. IsReplaced b mid.contents new.contents reply) c.deref.ensures.value h)))

pub returns-in-Err-clause-leads : goal.returns-in-Err-clause-leads
returns-in-Err-clause-leads g c =
    λ told.
    let served = c.args.self.now in
    let codec = served.codec.now in
    let spec = served_spec served in
    let index_g = index_spec (grid_of spec.shape codec.subchunk_shape) in
    let s = shards_of g.I.ArrayToBytesCodecTraits.meaning g.X.ArrayToBytesCodecTraits.meaning codec spec in
    let state = g.H.BytesPartialDecoderTraits.state in
    let old = state c.args.handle.now in
    let new = state c.compaction.new.handle in
    let e = c.in-Err.error in
    of_refused e c.refused.result (λ reply. Leads s (λ m m'. CompactStep s m old.contents reply m' new.contents) old.contents new.contents) c.refused.ensures (λ no_fault.
    unmade_leads s.inner s.index codec.subchunk_shape codec.location codec.order spec c.requires.serves
    (λ x y array written. (g.met.X.ArrayToBytesCodecTraits.lawful codec.index_codec index_g).written_cells x y c.requires.serves.index_served.served array written)
    old new e (index_never_long s.inner s.index codec.subchunk_shape spec (g.met.X.ArrayToBytesCodecTraits.lawful codec.index_codec index_g) c.requires.serves)
    told (c.requires.usable told) no_fault c.compaction.ensures.read c.in-Err.ensures.refused)
