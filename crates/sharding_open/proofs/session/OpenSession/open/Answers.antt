use Rattle.std.proofs.Common.{◌≡◌, ◌*◌, ◌/◌, ◌∙◌, ap, sym, length, replicate, arith}
use Rattle.parts_row_major.specs.Numbering.{count_of}
use Rattle.parts_arrays.specs.ArraySpec.{ArraySpec}
use Rattle.parts_subsets.specs.Grid.{grid_of}
use Rattle.sharding_format.specs.Index.{absent_number}
use Rattle.sharding_format.specs.Serves.{fixed_size}
use Rattle.codec_traits.specs.RefusalLaws.{passed_on}
use Rattle.sharding_index.specs.Indexes.{index_meaning}
use Rattle.sharding_engine.specs.Meanings.{meaning_of}
use Rattle.sharding_index.specs.steps.Plans.{spec_of}
use Rattle.sharding_open.specs.OpenShards.{shard_spec}
use Rattle.sharding_open.proofs.SessionLemmas.{cached_open, entries_refused}
use Rattle.sharding_open.proofs.session.OpenSession.open.Goals as goal

pub returns-in_default-clause-cached : goal.returns-in_default-clause-cached
returns-in_default-clause-cached g c =
    let s = c.args.sharding.now in
    let sub = s.subchunk_shape.now in
    let outer = g.X.ArrayToBytesCodecTraits in
    let opened = c.in_ok-shard.ensures in
    cached_open (meaning_of g.I.ArrayToBytesCodecTraits.meaning outer.meaning s) (index_meaning outer.meaning s.index_codec.codec.now) s.index_codec.location sub
    g.H.BytesPartialDecoderTraits.state c.open.new.handle (record { shard = c.in_ok-shard.shard; plan = c.in_ok-shard.plan; blank = c.in_ok-blank.blank })
    opened.known opened.plan (opened.grid ∙ ap (λ (g : ArraySpec). grid_of g.shape sub) (sym opened.spec)) (rw c.in_default.is (c.in_ok-blank.ensures.items_if_clones_equal (λ y h. h) ∙ ap (λ n. replicate (2 * n) absent_number) opened.known.subchunks)) (rw c.in_default.is tt) (rw c.in_default.is tt)

pub returns-in_err-check_entries-clause-refused : goal.returns-in_err-check_entries-clause-refused
returns-in_err-check_entries-clause-refused g c =
    let s = c.args.sharding.now in
    let sub = s.subchunk_shape.now in
    let outer = g.X.ArrayToBytesCodecTraits in
    let h = g.H.BytesPartialDecoderTraits in
    let opened = c.in_ok-shard.ensures in
    let shard = c.in_ok-shard.shard in
    let index = c.in-Some.index in
    let spec = spec_of c.args.spec.now in
    let found = shard_spec shard in
    let numbers = index.numbers.items in
    let meant = index_meaning outer.meaning s.index_codec.codec.now in
    let counted : length numbers ≡ 2 * count_of (grid_of found.shape sub) = rw c.in-Some.is at opened.known.counted in
    let half : length numbers / 2 ≡ count_of (grid_of found.shape sub) = omega arith in
    let sized : c.in_ok-shard.plan.size ≡ fixed_size (meant (grid_of spec.shape sub)).representation = rw opened.grid at opened.plan.size in
    let e = c.in_err-check_entries.field-0.0 in
    passed_on _ e _ c.from_residual-in_err-check_entries.ensures.1
    (entries_refused (meaning_of g.I.ArrayToBytesCodecTraits.meaning outer.meaning s) (h.state c.args.handle.now) (h.state c.open.new.handle) meant s.index_codec.location sub found spec index.len (length numbers / 2) c.in_ok-shard.plan.size numbers e
    opened.spec opened.known.serves opened.read (rw c.in-Some.is at opened.known.room) half sized (λ t. rw c.in-Some.is at (opened.known.cached t)) c.in_err-check_entries.ensures.refused)
