use Rattle.parts_subsets.specs.Grid.{grid_of}
use Rattle.sharding_format.specs.Index.{index_spec}
use Rattle.sharding_format.specs.Serves.{subchunk_spec, layout, fixed_size}
use Rattle.sharding_format.proofs.RefusalLemmas.{lawful, index_first}
use Rattle.codec_traits.specs.RefusalLaws.{passed_on}
use Rattle.sharding_subchunks.proofs.WholeLemmas.{cells_whole}
use Rattle.sharding_index.specs.steps.Plans.{spec_of}
use Rattle.sharding_engine.proofs.sharding.Sharding.copied_into.Goals as goal

pub returns-in_err-index-clause-lawful : goal.returns-in_err-index-clause-lawful
returns-in_err-index-clause-lawful g c =
    let s = c.args.self.now in
    let spec = spec_of c.args.planned.now.spec in
    let index_g = index_spec (grid_of spec.shape s.subchunk_shape.now) in
    let inner = g.I.ArrayToBytesCodecTraits.meaning s.inner.now (subchunk_spec s.subchunk_shape.now spec) in
    let index = g.X.ArrayToBytesCodecTraits.meaning s.index_codec.codec.now index_g in
    let plan = c.requires.plan in
    let e = c.in_err-index.field-0.0 in
    let refusals = index_first inner index (layout s.subchunk_shape.now s.index_codec.location s.order index.representation spec) c.args.bytes.now e
    (rw (plan.index.size, plan.grid) at c.in_err-index.ensures.refused) in
    passed_on _ e _ c.from_residual.ensures.1 (lawful inner index s.subchunk_shape.now s.index_codec.location s.order spec c.args.bytes.now e
    c.requires.serves (rw plan.subchunks at plan.some) plan.positions
    ((g.met.I.ArrayToBytesCodecTraits.lawful s.inner.now _).cells_counted) ((g.met.X.ArrayToBytesCodecTraits.lawful s.index_codec.codec.now _).cells_counted) ((g.met.X.ArrayToBytesCodecTraits.lawful s.index_codec.codec.now _).cells_fitting) refusals)

pub returns-clause-put : goal.returns-clause-put
returns-clause-put g c = λ t.
    let s = c.args.self.now in
    let spec = spec_of c.args.planned.now.spec in
    let inner_cells = (g.I.ArrayToBytesCodecTraits.meaning s.inner.now (subchunk_spec s.subchunk_shape.now spec)).cells in
    let index = g.X.ArrayToBytesCodecTraits.meaning s.index_codec.codec.now (index_spec (grid_of spec.shape s.subchunk_shape.now)) in
    let plan = c.requires.plan in
    let put = c.in_ok-done.ensures.put t in
    record {
      elements = put.elements;
      there = cells_whole inner_cells index.cells s.subchunk_shape.now s.index_codec.location s.order (fixed_size index.representation) spec c.args.bytes.now
          c.in_ok-index.index.numbers.items put.elements (rw (plan.index.size, plan.grid) at c.in_ok-index.ensures.numbers) put.there;
      written = put.written;
    }
