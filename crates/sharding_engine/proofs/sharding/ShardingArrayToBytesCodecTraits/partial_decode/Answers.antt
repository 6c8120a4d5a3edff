use Rattle.std.proofs.Common.{inr}
use Rattle.parts_arrays.specs.ArraySpec.{array_spec}
use Rattle.parts_subsets.specs.Grid.{grid_of}
use Rattle.parts_arrays.specs.Types.{size_of}
use Rattle.codec_traits.specs.Reads.{cells_at}
use Rattle.storage_handles.specs.Objects.{interval_part}
use Rattle.sharding_format.specs.Index.{index_spec}
use Rattle.sharding_format.specs.Cells.{shard_cells}
use Rattle.sharding_format.specs.Serves.{subchunk_spec, layout}
use Rattle.sharding_format.specs.Laws.{length-shard_cells, shard_cells_fitting}
use Rattle.sharding_format.specs.ReadRefusals.{AnswerRefusals, ReadRefusals}
use Rattle.codec_traits.specs.RefusalLaws.{passed_on}
use Rattle.sharding_format.proofs.ReadRefusals.{may_refuse_read, object_lawful, requested_refused}
use Rattle.sharding_engine.proofs.sharding.ShardingArrayToBytesCodecTraits.partial_decode.Goals as goal

pub returns-in_err-count-clause-lawful : goal.returns-in_err-count-clause-lawful
returns-in_err-count-clause-lawful g c =
    let a = c.args in
    let s = a.self.now in
    let spec = array_spec a.shape.now a.data_type.now a.fill_value.now in
    let inner = g.I.ArrayToBytesCodecTraits in
    let outer = g.X.ArrayToBytesCodecTraits in
    let inner_cells = (inner.meaning s.inner.now (subchunk_spec s.subchunk_shape.now spec)).cells in
    let index_g = index_spec (grid_of a.shape.now s.subchunk_shape.now) in
    let index_cells = (outer.meaning s.index_codec.codec.now index_g).cells in
    let l = layout s.subchunk_shape.now s.index_codec.location s.order (outer.meaning s.index_codec.codec.now index_g).representation spec in
    let b = interval_part a.interval (g.H.BytesPartialDecoderTraits.state a.handle.now).contents in
    let selection = g.N.Indexer.selection a.indexer.now in
    let e = c.in_err-count.field-0.0 in
    passed_on _ e _ c.from_residual-in_err-count.ensures.1 (λ serves t axes within there.
    inr (requested_refused (size_of a.data_type.now) (shard_cells inner_cells index_cells l b) a.shape.now selection e (length-shard_cells inner_cells index_cells l b)
    (λ i below. shard_cells_fitting inner_cells index_cells s.subchunk_shape.now s.index_codec.location s.order _ spec b i serves.fill_fits serves.divides below
    (λ x j inside. (g.met.I.ArrayToBytesCodecTraits.lawful s.inner.now _).cells_fitting x j serves.inner_served inside))
    (g.met.N.Indexer.matches_subset a.indexer.now) axes within c.in_err-count.ensures.refused))

pub returns-in_err-cells-clause-lawful : goal.returns-in_err-cells-clause-lawful
returns-in_err-cells-clause-lawful g c =
    let a = c.args in
    let s = a.self.now in
    let spec = array_spec a.shape.now a.data_type.now a.fill_value.now in
    let inner = g.I.ArrayToBytesCodecTraits in
    let outer = g.X.ArrayToBytesCodecTraits in
    let h = g.H.BytesPartialDecoderTraits in
    let sub_g = subchunk_spec s.subchunk_shape.now spec in
    let index_g = index_spec (grid_of a.shape.now s.subchunk_shape.now) in
    let inner_cells = (inner.meaning s.inner.now sub_g).cells in
    let index_cells = (outer.meaning s.index_codec.codec.now index_g).cells in
    let representation = (outer.meaning s.index_codec.codec.now index_g).representation in
    let l = layout s.subchunk_shape.now s.index_codec.location s.order representation spec in
    let contents = (h.state a.handle.now).contents in
    let b = interval_part a.interval contents in
    let points = (g.N.Indexer.selection a.indexer.now).points in
    let inner_read = AnswerRefusals (inner.meaning s.inner.now sub_g).answerable (inner.meaning s.inner.now sub_g).read_refusals in
    let index_decode = (outer.meaning s.index_codec.codec.now index_g).decode_refusals in
    let cells = shard_cells inner_cells index_cells l b in
    let plan = c.in_ok-plan.ensures.plan in
    let e = c.in_err-cells.field-0.0 in
    passed_on _ e _ c.from_residual-in_err-cells.ensures.1 (λ serves t axes within there.
    object_lawful (h.state a.handle.now) (h.state c.read_planned.new.handle) a.interval (λ x. ReadRefusals (inner.meaning s.inner.now sub_g) (outer.meaning s.index_codec.codec.now index_g) l x points) cells (cells_at cells a.shape.now points) e
    (λ refusals. may_refuse_read (inner.meaning s.inner.now sub_g) (outer.meaning s.index_codec.codec.now index_g) s.subchunk_shape.now s.index_codec.location s.order spec b points e
    serves (rw plan.subchunks at plan.some) plan.positions
    ((g.met.I.ArrayToBytesCodecTraits.lawful s.inner.now _).cells_counted) ((g.met.X.ArrayToBytesCodecTraits.lawful s.index_codec.codec.now _).cells_counted) ((g.met.X.ArrayToBytesCodecTraits.lawful s.index_codec.codec.now _).cells_fitting)
    c.in_ok-count.ensures.inside refusals)
    c.in_err-cells.ensures.refused t there)
