use Rattle.std.proofs.Common.{refl, ◌∙◌}
use Rattle.sharding_format.specs.Cells.{shard_cells}
use Rattle.sharding_format.specs.ReadRefusals.{numbers_of}
use Rattle.codec_traits.specs.RefusalLaws.{passed_on}
use Rattle.sharding_engine.specs.Meanings.{shard_layout, inner_of, index_of}
use Rattle.sharding_open.specs.OpenShards.{shard_spec, numbers_by}
use Rattle.sharding_open.proofs.OpenLemmas.{no_object_cells, no_object_refused, stored_cells, stored_refused}
use Rattle.sharding_open.proofs.shard.OpenShard.read.Goals as goal

pub returns-in_err-fill-clause-refused : goal.returns-in_err-fill-clause-refused
returns-in_err-fill-clause-refused g c =
    let a = c.args in
    let s = a.sharding.now in
    let spec = shard_spec a.self.now in
    let inner = inner_of g.I.ArrayToBytesCodecTraits.meaning s spec in
    let index = index_of g.X.ArrayToBytesCodecTraits.meaning s spec in
    let h = g.H.BytesPartialDecoderTraits in
    let e = c.in_err-fill.field-0.0 in
    passed_on _ e _ c.from_residual.ensures.1
    (no_object_refused (h.state a.handle.now) (h.state a.handle.now) a.count (numbers_by g.X.ArrayToBytesCodecTraits.meaning s spec)
    inner index (shard_layout s index spec) 0 (g.N.Indexer.selection a.indexer.now).points e
    (λ t. rw c.in_default.is at (c.requires.known.cached t)) c.requires.points c.requires.count c.in_err-fill.ensures.refused)

pub returns-in_default-clause-cells : goal.returns-in_default-clause-cells
returns-in_default-clause-cells g c = λ t.
    let a = c.args in
    let s = a.sharding.now in
    let spec = shard_spec a.self.now in
    let inner = inner_of g.I.ArrayToBytesCodecTraits.meaning s spec in
    let index = index_of g.X.ArrayToBytesCodecTraits.meaning s spec in
    let cached = rw c.in_default.is at (c.requires.known.cached t) in
    no_object_cells (numbers_by g.X.ArrayToBytesCodecTraits.meaning s spec) (shard_cells inner.cells index.cells (shard_layout s index spec)) spec
    (g.H.BytesPartialDecoderTraits.state a.handle.now).contents 0 (g.N.Indexer.selection a.indexer.now).points cached c.requires.points
    ∙ rw (c.in_ok-fill.ensures.filled, c.requires.count) refl

pub returns-in_err-array-clause-refused : goal.returns-in_err-array-clause-refused
returns-in_err-array-clause-refused g c =
    let a = c.args in
    let s = a.sharding.now in
    let spec = shard_spec a.self.now in
    let inner = inner_of g.I.ArrayToBytesCodecTraits.meaning s spec in
    let index = index_of g.X.ArrayToBytesCodecTraits.meaning s spec in
    let h = g.H.BytesPartialDecoderTraits in
    let points = (g.N.Indexer.selection a.indexer.now).points in
    let found = c.in-Some.index in
    let e = c.in_err-array.field-0.0 in
    passed_on _ e _ c.from_residual-in_err-array.ensures.1
    (stored_refused (h.state a.handle.now) (h.state c.read_requested.new.handle) inner index (shard_layout s index spec)
    found.len found.numbers.items (numbers_of a.self.now.shape points) points e
    (λ t. rw c.in-Some.is at (c.requires.known.cached t)) c.requires.points refl c.in_err-array.ensures.refused)

pub returns-clause-cells : goal.returns-clause-cells
returns-clause-cells g c = λ t.
    let a = c.args in
    let s = a.sharding.now in
    let spec = shard_spec a.self.now in
    let inner = inner_of g.I.ArrayToBytesCodecTraits.meaning s spec in
    let index = index_of g.X.ArrayToBytesCodecTraits.meaning s spec in
    let h = g.H.BytesPartialDecoderTraits in
    let points = (g.N.Indexer.selection a.indexer.now).points in
    let found = c.in-Some.index in
    stored_cells inner index (shard_layout s index spec) spec (h.state a.handle.now).contents found.len found.numbers.items (numbers_of a.self.now.shape points)
    points c.in_ok-array.array.elements
    (rw c.in-Some.is at (c.requires.known.cached t)) c.requires.points refl (c.in_ok-array.ensures.cells t)
