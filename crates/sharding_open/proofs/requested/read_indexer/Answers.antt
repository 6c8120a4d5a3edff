use Rattle.std.proofs.Common.{◌*◌, ◌^◌, ◌<◌}
use Rattle.parts_arrays.specs.Types.{size_of, byte_size}
use Rattle.storage_handles.specs.Objects.{ObjectRefusals}
use Rattle.codec_traits.specs.RefusalLaws.{passed_on}
use Rattle.sharding_engine.specs.Meanings.{shard_layout, inner_of, index_of}
use Rattle.sharding_open.specs.Cached.{CachedCellsRefusals}
use Rattle.sharding_open.specs.OpenShards.{shard_spec}
use Rattle.sharding_open.proofs.OpenLemmas.{requested_refused}
use Rattle.sharding_open.proofs.requested.read_indexer.Goals as goal

pub returns-in_err-array-clause-refused : goal.returns-in_err-array-clause-refused
returns-in_err-array-clause-refused g c =
    let a = c.args in
    let s = a.sharding.now in
    let spec = shard_spec a.shard.now in
    let inner = inner_of g.I.ArrayToBytesCodecTraits.meaning s spec in
    let index = index_of g.X.ArrayToBytesCodecTraits.meaning s spec in
    let h = g.H.BytesPartialDecoderTraits in
    let selection = g.N.Indexer.selection a.indexer.now in
    let e = c.in_err-array.field-0.0 in
    passed_on _ e _ c.from_residual-in_err-array.ensures.1
    (requested_refused spec selection (λ n. n * byte_size (size_of spec.data_type) < 2 ^ 64)
    (ObjectRefusals (h.state a.handle.now) (h.state c.read.new.handle)
    (CachedCellsRefusals inner index (shard_layout s index spec) (h.state a.handle.now).contents selection.points))
    e c.in_ok-count.ensures.selection c.in_ok-count.ensures.fits c.in_err-array.ensures.refused)
