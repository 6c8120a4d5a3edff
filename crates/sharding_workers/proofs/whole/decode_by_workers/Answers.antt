use Rattle.std.proofs.Common.{◌∙◌, arith, inl, inr}
use Rattle.sharding_index.specs.steps.Plans.{spec_of}
use Rattle.parts_subsets.specs.Grid.{grid_of}
use Rattle.sharding_format.specs.Index.{index_spec}
use Rattle.sharding_format.specs.Serves.{subchunk_spec, layout, fixed_size}
use Rattle.sharding_format.proofs.DecodingLemmas.{IsArrayOf-gathered, cells-gathered}
use Rattle.sharding_format.proofs.LengthLemmas.{lengths_last}
use Rattle.sharding_format.proofs.RefusalLemmas.{lawful, index_first, subchunks_next}
use Rattle.codec_traits.specs.RefusalLaws.{passed_on}
use Rattle.sharding_workers.proofs.whole.decode_by_workers.Goals as goal

pub returns-in_err-index-clause-lawful : goal.returns-in_err-index-clause-lawful
returns-in_err-index-clause-lawful g c =
    let s = c.args.sharding.now in
    let spec = spec_of c.args.spec.now in
    let index_g = index_spec (grid_of c.args.spec.now.shape.now s.subchunk_shape.now) in
    let inner = g.I.ArrayToBytesCodecTraits.meaning s.inner.now (subchunk_spec s.subchunk_shape.now spec) in
    let index = g.X.ArrayToBytesCodecTraits.meaning s.index_codec.codec.now index_g in
    let plan = c.in_ok-plan.ensures.plan in
    let inner_laws = g.met.I.ArrayToBytesCodecTraits g.world.𝓛 g.world.𝓜 g.world.𝓡 ((λ s x. x), (λ x. x), (λ x. x), λ x. x) in
    let index_laws = g.met.X.ArrayToBytesCodecTraits g.world.𝓛 g.world.𝓜 g.world.𝓡 ((λ s x. x), (λ x. x), (λ x. x), λ x. x) in
    let e = c.in_err-index.field-0.0 in
    let refusals = index_first inner index (layout s.subchunk_shape.now s.index_codec.location s.order index.representation spec) c.args.bytes.now e
    (rw (plan.index.size, plan.grid) at c.in_err-index.ensures.refused) in
    passed_on _ e _ c.from_residual-in_err-index.ensures.1 (λ serves. lawful inner index s.subchunk_shape.now s.index_codec.location s.order spec c.args.bytes.now e
    serves (rw plan.subchunks at plan.some) plan.positions
    (inner_laws.lawful s.inner.now _).cells_counted (index_laws.lawful s.index_codec.codec.now _).cells_counted (index_laws.lawful s.index_codec.codec.now _).cells_fitting refusals)

pub returns-in_err-subchunks-clause-lawful : goal.returns-in_err-subchunks-clause-lawful
returns-in_err-subchunks-clause-lawful g c =
    let s = c.args.sharding.now in
    let spec = spec_of c.args.spec.now in
    let index_g = index_spec (grid_of c.args.spec.now.shape.now s.subchunk_shape.now) in
    let inner = g.I.ArrayToBytesCodecTraits.meaning s.inner.now (subchunk_spec s.subchunk_shape.now spec) in
    let index = g.X.ArrayToBytesCodecTraits.meaning s.index_codec.codec.now index_g in
    let plan = c.in_ok-plan.ensures.plan in
    let inner_laws = g.met.I.ArrayToBytesCodecTraits g.world.𝓛 g.world.𝓜 g.world.𝓡 ((λ s x. x), (λ x. x), (λ x. x), λ x. x) in
    let index_laws = g.met.X.ArrayToBytesCodecTraits g.world.𝓛 g.world.𝓜 g.world.𝓡 ((λ s x. x), (λ x. x), (λ x. x), λ x. x) in
    let e = c.in_err-subchunks.field-0.0 in
    let counted = rw plan.grid at c.in_ok-index.ensures.counted in
    let refusals = subchunks_next inner index (layout s.subchunk_shape.now s.index_codec.location s.order index.representation spec) c.args.bytes.now c.in_ok-index.index.numbers.items _ e
    (rw (plan.index.size, plan.grid) at c.in_ok-index.ensures.numbers) (omega (arith, counted)) (c.in_err-subchunks.ensures.refused) in
    passed_on _ e _ c.from_residual-in_err-subchunks.ensures.1 (λ serves. lawful inner index s.subchunk_shape.now s.index_codec.location s.order spec c.args.bytes.now e
    serves (rw plan.subchunks at plan.some) plan.positions
    (inner_laws.lawful s.inner.now _).cells_counted (index_laws.lawful s.index_codec.codec.now _).cells_counted (index_laws.lawful s.index_codec.codec.now _).cells_fitting refusals)

pub returns-in_err-subchunks-clause-refused : goal.returns-in_err-subchunks-clause-refused
returns-in_err-subchunks-clause-refused g c =
    let s = c.args.sharding.now in
    let spec = spec_of c.args.spec.now in
    let index_g = index_spec (grid_of c.args.spec.now.shape.now s.subchunk_shape.now) in
    let inner = g.I.ArrayToBytesCodecTraits.meaning s.inner.now (subchunk_spec s.subchunk_shape.now spec) in
    let index = g.X.ArrayToBytesCodecTraits.meaning s.index_codec.codec.now index_g in
    let plan = c.in_ok-plan.ensures.plan in
    let e = c.in_err-subchunks.field-0.0 in
    let counted = rw plan.grid at c.in_ok-index.ensures.counted in
    let refusals = subchunks_next inner index (layout s.subchunk_shape.now s.index_codec.location s.order index.representation spec) c.args.bytes.now c.in_ok-index.index.numbers.items _ e
    (rw (plan.index.size, plan.grid) at c.in_ok-index.ensures.numbers) (omega (arith, counted)) (c.in_err-subchunks.ensures.refused) in
    let serves = c.in_ok-plan.ensures.serves in
    passed_on _ e _ c.from_residual-in_err-subchunks.ensures.1 (elim refusals [ inl memory ↦ inl memory | inr refused ↦ inr (inr (serves, refused)) ])

pub returns-clause-array : goal.returns-clause-array
returns-clause-array g c =
    let s = c.args.sharding.now in
    let spec = spec_of c.args.spec.now in
    let inner_cells = (g.I.ArrayToBytesCodecTraits.meaning s.inner.now (subchunk_spec s.subchunk_shape.now spec)).cells in
    let index_cells = (g.X.ArrayToBytesCodecTraits.meaning s.index_codec.codec.now (index_spec (grid_of c.args.spec.now.shape.now s.subchunk_shape.now))).cells in
    let size = fixed_size ((g.X.ArrayToBytesCodecTraits.meaning s.index_codec.codec.now (index_spec (grid_of c.args.spec.now.shape.now s.subchunk_shape.now))).representation) in
    let plan = c.in_ok-plan.ensures.plan in
    let serves = c.in_ok-plan.ensures.serves in
    let found = c.in_ok-subchunks.ensures.decoded in
    let many = c.in_ok-subchunks.ensures.counted in
    let counted = rw plan.grid at c.in_ok-index.ensures.counted in
    let elements = rw (c.deref.ensures.value, c.as_ne_bytes.ensures) at c.in_ok-array.ensures.elements in (
      c.in_ok-array.ensures.kind ∙ c.size.ensures,
      IsArrayOf-gathered inner_cells index_cells s.subchunk_shape.now s.index_codec.location s.order size spec c.args.bytes.now
          c.in_ok-index.index.numbers.items c.in_ok-subchunks.subchunks.items c.in_ok-array.array.elements serves.divides (λ k below. found k (omega (arith, many, counted))) elements serves.fill_fits,
    )

pub returns-clause-cells : goal.returns-clause-cells
returns-clause-cells g c =
    let s = c.args.sharding.now in
    let spec = spec_of c.args.spec.now in
    let inner_cells = (g.I.ArrayToBytesCodecTraits.meaning s.inner.now (subchunk_spec s.subchunk_shape.now spec)).cells in
    let index_cells = (g.X.ArrayToBytesCodecTraits.meaning s.index_codec.codec.now (index_spec (grid_of c.args.spec.now.shape.now s.subchunk_shape.now))).cells in
    let size = fixed_size ((g.X.ArrayToBytesCodecTraits.meaning s.index_codec.codec.now (index_spec (grid_of c.args.spec.now.shape.now s.subchunk_shape.now))).representation) in
    let plan = c.in_ok-plan.ensures.plan in
    let serves = c.in_ok-plan.ensures.serves in
    let found = c.in_ok-subchunks.ensures.decoded in
    let many = c.in_ok-subchunks.ensures.counted in
    let counted = rw plan.grid at c.in_ok-index.ensures.counted in
    let elements = rw (c.deref.ensures.value, c.as_ne_bytes.ensures) at c.in_ok-array.ensures.elements in
    cells-gathered inner_cells index_cells s.subchunk_shape.now s.index_codec.location s.order size spec c.args.bytes.now
    c.in_ok-index.index.numbers.items c.in_ok-subchunks.subchunks.items c.in_ok-array.array.elements serves.divides (λ k below. found k (omega (arith, many, counted))) elements
    (rw (plan.index.size, plan.grid) at c.in_ok-index.ensures.numbers)

pub returns-in_err-array-clause-lawful : goal.returns-in_err-array-clause-lawful
returns-in_err-array-clause-lawful g c =
    let s = c.args.sharding.now in
    let spec = spec_of c.args.spec.now in
    let index_g = index_spec (grid_of c.args.spec.now.shape.now s.subchunk_shape.now) in
    let inner = g.I.ArrayToBytesCodecTraits.meaning s.inner.now (subchunk_spec s.subchunk_shape.now spec) in
    let index = g.X.ArrayToBytesCodecTraits.meaning s.index_codec.codec.now index_g in
    let plan = c.in_ok-plan.ensures.plan in
    let inner_laws = g.met.I.ArrayToBytesCodecTraits g.world.𝓛 g.world.𝓜 g.world.𝓡 ((λ s x. x), (λ x. x), (λ x. x), λ x. x) in
    let index_laws = g.met.X.ArrayToBytesCodecTraits g.world.𝓛 g.world.𝓜 g.world.𝓡 ((λ s x. x), (λ x. x), (λ x. x), λ x. x) in
    let serves = c.in_ok-plan.ensures.serves in
    let e = c.in_err-array.field-0.0 in
    let found = c.in_ok-subchunks.ensures.decoded in
    let many = c.in_ok-subchunks.ensures.counted in
    let counted = rw plan.grid at c.in_ok-index.ensures.counted in
    let refusals = lengths_last inner index s.subchunk_shape.now s.index_codec.location s.order (fixed_size index.representation) spec c.args.bytes.now c.in_ok-index.index.numbers.items c.in_ok-subchunks.subchunks.items
    serves.divides (rw (plan.index.size, plan.grid) at c.in_ok-index.ensures.numbers) (omega (arith, many, counted)) (λ k below. found k (omega (arith, many, counted)))
    _ e plan.positions (rw (c.deref.ensures.value, c.as_ne_bytes.ensures) at c.in_err-array.ensures.refused) in
    passed_on _ e _ c.from_residual-in_err-array.ensures.1 (λ serves. lawful inner index s.subchunk_shape.now s.index_codec.location s.order spec c.args.bytes.now e
    serves (rw plan.subchunks at plan.some) plan.positions
    (inner_laws.lawful s.inner.now _).cells_counted (index_laws.lawful s.index_codec.codec.now _).cells_counted (index_laws.lawful s.index_codec.codec.now _).cells_fitting refusals)

pub returns-in_err-array-clause-refused : goal.returns-in_err-array-clause-refused
returns-in_err-array-clause-refused g c =
    let s = c.args.sharding.now in
    let spec = spec_of c.args.spec.now in
    let index_g = index_spec (grid_of c.args.spec.now.shape.now s.subchunk_shape.now) in
    let inner = g.I.ArrayToBytesCodecTraits.meaning s.inner.now (subchunk_spec s.subchunk_shape.now spec) in
    let index = g.X.ArrayToBytesCodecTraits.meaning s.index_codec.codec.now index_g in
    let plan = c.in_ok-plan.ensures.plan in
    let serves = c.in_ok-plan.ensures.serves in
    let e = c.in_err-array.field-0.0 in
    let found = c.in_ok-subchunks.ensures.decoded in
    let many = c.in_ok-subchunks.ensures.counted in
    let counted = rw plan.grid at c.in_ok-index.ensures.counted in
    let refusals = lengths_last inner index s.subchunk_shape.now s.index_codec.location s.order (fixed_size index.representation) spec c.args.bytes.now c.in_ok-index.index.numbers.items c.in_ok-subchunks.subchunks.items
    serves.divides (rw (plan.index.size, plan.grid) at c.in_ok-index.ensures.numbers) (omega (arith, many, counted)) (λ k below. found k (omega (arith, many, counted)))
    _ e plan.positions (rw (c.deref.ensures.value, c.as_ne_bytes.ensures) at c.in_err-array.ensures.refused) in
    passed_on _ e _ c.from_residual-in_err-array.ensures.1 (elim refusals [ inl memory ↦ inl memory | inr refused ↦ inr (inr (serves, refused)) ])
