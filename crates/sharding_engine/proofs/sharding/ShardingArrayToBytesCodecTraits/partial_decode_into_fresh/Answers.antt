use Rattle.std.proofs.Common.{inl, inr}
use Rattle.std.proofs.lemmas.Result.{IfErr-weaker}
use Rattle.parts_errors.specs.Words.{Bytes, Refusals}
use Rattle.parts_errors.specs.Order.{RefusedBy}
use Rattle.parts_arrays.specs.ArraySpec.{array_spec}
use Rattle.parts_subsets.specs.Grid.{grid_of}
use Rattle.parts_arrays.specs.Types.{size_of}
use Rattle.codec_traits.specs.Reads.{cells_at}
use Rattle.codec_traits.specs.RefusalLaws.{passed_on}
use Rattle.codec_traits.proofs.OverwriteLemmas.{untouched}
use Rattle.storage_handles.specs.Objects.{interval_part, ObjectRefusals, IntervalRefusals}
use Rattle.sharding_format.specs.Index.{index_spec}
use Rattle.sharding_format.specs.Cells.{shard_cells}
use Rattle.sharding_format.specs.Serves.{subchunk_spec, layout}
use Rattle.sharding_format.specs.Laws.{length-shard_cells, shard_cells_fitting}
use Rattle.sharding_format.specs.ReadRefusals.{ReadRefusals}
use Rattle.sharding_format.proofs.ReadRefusals.{may_refuse_read, object_lawful, requested_refused}
use Rattle.sharding_engine.proofs.sharding.ShardingArrayToBytesCodecTraits.partial_decode_into_fresh.Goals as goal

pub returns-in_err-plan-clause-written : goal.returns-in_err-plan-clause-written
returns-in_err-plan-clause-written g c = untouched c.args.target.now

pub returns-in_err-check_target-clause-written : goal.returns-in_err-check_target-clause-written
returns-in_err-check_target-clause-written g c = untouched c.args.target.now

pub returns-in_err-_count-clause-written : goal.returns-in_err-_count-clause-written
returns-in_err-_count-clause-written g c = untouched c.args.target.now

pub returns-in_err-_count-clause-lawful : goal.returns-in_err-_count-clause-lawful
returns-in_err-_count-clause-lawful g c =
    let a = c.args in
    let s = a.self.now in
    let stored = a.stored.now in
    let spec = array_spec stored.shape.now stored.data_type.now stored.fill_value.now in
    let inner = g.I.ArrayToBytesCodecTraits in
    let outer = g.X.ArrayToBytesCodecTraits in
    let inner_cells = (inner.meaning s.inner.now (subchunk_spec s.subchunk_shape.now spec)).cells in
    let index_g = index_spec (grid_of stored.shape.now s.subchunk_shape.now) in
    let index_cells = (outer.meaning s.index_codec.codec.now index_g).cells in
    let l = layout s.subchunk_shape.now s.index_codec.location s.order (outer.meaning s.index_codec.codec.now index_g).representation spec in
    let b = interval_part stored.interval (g.H.BytesPartialDecoderTraits.state a.handle.now).contents in
    let selection = g.N.Indexer.selection a.indexer.now in
    let e = c.in_err-_count.field-0.0 in
    passed_on _ e _ c.from_residual-in_err-_count.ensures.1 (λ serves kind counted t axes within there.
    inr (requested_refused (size_of stored.data_type.now) (shard_cells inner_cells index_cells l b) stored.shape.now selection e (length-shard_cells inner_cells index_cells l b)
    (λ i below. shard_cells_fitting inner_cells index_cells s.subchunk_shape.now s.index_codec.location s.order _ spec b i serves.fill_fits serves.divides below
    (λ x j inside. (g.met.I.ArrayToBytesCodecTraits.lawful s.inner.now _).cells_fitting x j serves.inner_served inside))
    (g.met.N.Indexer.matches_subset a.indexer.now) axes within c.in_err-_count.ensures.refused))

pub returns-clause-lawful : goal.returns-clause-lawful
returns-clause-lawful g c =
    let a = c.args in
    let s = a.self.now in
    let stored = a.stored.now in
    let spec = array_spec stored.shape.now stored.data_type.now stored.fill_value.now in
    let inner = g.I.ArrayToBytesCodecTraits in
    let outer = g.X.ArrayToBytesCodecTraits in
    let h = g.H.BytesPartialDecoderTraits in
    let sub_g = subchunk_spec s.subchunk_shape.now spec in
    let index_g = index_spec (grid_of stored.shape.now s.subchunk_shape.now) in
    let inner_cells = (inner.meaning s.inner.now sub_g).cells in
    let index_cells = (outer.meaning s.index_codec.codec.now index_g).cells in
    let l = layout s.subchunk_shape.now s.index_codec.location s.order (outer.meaning s.index_codec.codec.now index_g).representation spec in
    let old = h.state a.handle.now in
    let new = h.state c.read_planned_into.new.handle in
    let b = interval_part stored.interval old.contents in
    let points = (g.N.Indexer.selection a.indexer.now).points in
    let refusals : Bytes → Refusals = λ x. ReadRefusals (inner.meaning s.inner.now sub_g) (outer.meaning s.index_codec.codec.now index_g) l x points in
    let cells = shard_cells inner_cells index_cells l b in
    let plan = c.in_ok-plan.ensures.plan in
    IfErr-weaker c.read_planned_into.result (RefusedBy (ObjectRefusals old new (IntervalRefusals stored.interval old.contents refusals))) _ (λ e refused serves kind counted t axes within there.
    object_lawful old new stored.interval refusals cells (cells_at cells stored.shape.now points) e
    (λ read. may_refuse_read (inner.meaning s.inner.now sub_g) (outer.meaning s.index_codec.codec.now index_g) s.subchunk_shape.now s.index_codec.location s.order spec b points e
    serves (rw plan.subchunks at plan.some) plan.positions
    ((g.met.I.ArrayToBytesCodecTraits.lawful s.inner.now _).cells_counted) ((g.met.X.ArrayToBytesCodecTraits.lawful s.index_codec.codec.now _).cells_counted) ((g.met.X.ArrayToBytesCodecTraits.lawful s.index_codec.codec.now _).cells_fitting)
    c.in_ok-_count.ensures.inside read)
    refused t there) c.read_planned_into.ensures.refused

pub returns-in_err-plan-clause-lawful : goal.returns-in_err-plan-clause-lawful
returns-in_err-plan-clause-lawful g c =
    let e = c.in_err-plan.field-0.0 in
    passed_on _ e _ c.from_residual.ensures.1 (λ serves kind counted t axes within there. elim c.in_err-plan.ensures.refused [
      | inl memory ↦ inr (rw memory tt)
      | inr unserved ↦ absurd (unserved.0 serves)
    ])

pub returns-in_err-check_target-clause-lawful : goal.returns-in_err-check_target-clause-lawful
returns-in_err-check_target-clause-lawful g c =
    let e = c.in_err-check_target.field-0.0 in
    passed_on _ e _ c.from_residual-in_err-check_target.ensures.1 (λ serves kind counted t axes within there. elim (c.in_err-check_target.ensures.refused _ c.len.ensures.value) [
      | inl wrong ↦ absurd (wrong.0 kind)
      | inr fits ↦ elim fits.1 [ inl other ↦ absurd (other.0 counted) | inr none ↦ absurd none.1 ]
    ])

pub returns-clause-refused : goal.returns-clause-refused
returns-clause-refused g c =
    let selected = c.in_ok-_count.ensures.selection in
    let counted = c.in_ok-check_target.ensures.counted _ c.len.ensures.value in
    IfErr-weaker c.read_planned_into.result _ _ (λ e refused. elim refused [
      | inl memory ↦ inl memory
      | inr refusals ↦ inr (inr (
        c.in_ok-plan.ensures.serves,
        inr (c.in_ok-check_target.ensures.kind, inr (counted, inr (selected.axes, inr (selected.within, inr (selected.counted, inr (c.in_ok-_count.ensures.fits, refusals)))))),
      ))
    ]) c.read_planned_into.ensures.refused
