use Rattle.std.proofs.Common.{arith}
use Rattle.parts_subsets.specs.Grid.{grid_of}
use Rattle.parts_subsets.proofs.GridLaws.{count-positive, grid_positive, positions_of}
use Rattle.sharding_format.specs.Serves.{subchunk_spec}
use Rattle.codec_traits.specs.RefusalLaws.{passed_on}
use Rattle.sharding_write.specs.steps.Changes.{object_after}
use Rattle.sharding_engine.specs.Meanings.{inner_of, index_of}
use Rattle.sharding_open.specs.Cached.{cached_len}
use Rattle.sharding_open.specs.OpenShards.{shard_spec}
use Rattle.sharding_open.specs.OpenSessions.{numbers_cached}
use Rattle.sharding_open.proofs.PreparedLemmas.{cells_after}
use Rattle.sharding_open.proofs.session.OpenSession.prepare_write.Goals as goal

pub nonzero_div-positions : goal.nonzero_div-positions
nonzero_div-positions g c =
    let shape = c.args.self.now.shard.shape in
    let sub = c.args.sharding.now.subchunk_shape.now in
    let known = c.requires.cached.known in
    let some = count-positive (grid_of shape sub) (grid_positive shape sub c.requires.positive known.serves.divides) in
    omega (arith, some, known.subchunks)

pub invariant_of-writing-clause-counted : goal.invariant_of-writing-clause-counted
invariant_of-writing-clause-counted g c =
    let shard = c.args.self.now.shard in
    let sub = c.args.sharding.now.subchunk_shape.now in
    let known = c.requires.cached.known in
    let divides = known.serves.divides in
    let some = count-positive (grid_of shard.shape sub) (grid_positive shard.shape sub c.requires.positive divides) in
    positions_of shard.cells shard.subchunks shard.shape sub divides known.cells known.subchunks (omega (arith, some, known.subchunks))

-- the index that is handed over is the held one
pub prepare-requires-clause-held : goal.prepare-requires-clause-held
prepare-requires-clause-held g c =
    let cached = c.requires.cached in
    record {
      cached = rw (c.cached_index-len.ensures.len, c.cached_index-len.ensures.numbers, cached.plan.size, cached.grid) cached.numbers;
      told = λ t. rw (c.cached_index-len.ensures.len, c.cached_index-len.ensures.numbers, cached.plan.size, cached.grid) (cached.cached t);
    }

pub returns-clause-written : goal.returns-clause-written
returns-clause-written g c = λ t.
    let cached = c.requires.cached in
    rw (cached.plan.size, cached.grid, c.cached_index-len.ensures.numbers) at (c.in_ok-prepared.ensures.written t)

pub returns-clause-cells : goal.returns-clause-cells
returns-clause-cells g c = λ t.
    let s = c.args.sharding.now in
    let sub = s.subchunk_shape.now in
    let opened = c.args.self.now in
    let spec = shard_spec opened.shard in
    let inner = inner_of g.I.ArrayToBytesCodecTraits.meaning s spec in
    let index = index_of g.X.ArrayToBytesCodecTraits.meaning s spec in
    let cached = c.requires.cached in
    let serves = cached.known.serves in
    let old = (g.H.BytesPartialDecoderTraits.state c.args.handle.now).contents in
    let p = c.in_ok-prepared.prepared in
    let made = c.in_ok-prepared.ensures in
    let law = g.met.I.ArrayToBytesCodecTraits.lawful s.inner.now (subchunk_spec sub spec) in
    cells_after inner index sub s.index_codec.location s.order spec c.args.update.now.subset.now c.args.update.now.elements.now.elements old (object_after p.change old)
    (cached_len opened.shard.cached) p.len (numbers_cached opened.shard.cached opened.blank.items) p.numbers.items serves.divides c.requires.inside
    (λ e bytes array written. law.written_cells e bytes serves.inner_served array written)
    cached.numbers.counted (cached.cached t) (rw (cached.plan.size, cached.grid) at (made.held.told t)) (rw (cached.plan.size, cached.grid, c.cached_index-len.ensures.numbers) at (made.written t))

pub returns-in_err-prepared-clause-refused : goal.returns-in_err-prepared-clause-refused
returns-in_err-prepared-clause-refused g c =
    let cached = c.requires.cached in
    passed_on _ c.in_err-prepared.field-0.0 _ c.from_residual.ensures.1
    (rw (cached.plan.size, cached.grid, c.cached_index-len.ensures.numbers) at c.in_err-prepared.ensures.refused)
