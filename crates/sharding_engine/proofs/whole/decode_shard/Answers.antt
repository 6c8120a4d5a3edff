use Rattle.std.proofs.Common.{◌∙◌, arith}
use Rattle.parts_arrays.specs.ArraySpec.{ArraySpec}
use Rattle.codec_traits.specs.Meanings.{Meaning}
use Rattle.parts_subsets.specs.Grid.{grid_of}
use Rattle.sharding_format.specs.Serves.{layout, fixed_size}
use Rattle.sharding_format.specs.declared.order.SubchunkWriteOrder.TheVariants.{C}
use Rattle.sharding_index.specs.Indexes.{index_meaning}
use Rattle.sharding_subchunks.specs.steps.Inner.{inner_meaning}
use Rattle.sharding_engine.specs.steps.Shards.{whole_spec}
use Rattle.sharding_format.proofs.DecodingLemmas.{IsArrayOf-gathered, cells-gathered}
use Rattle.sharding_format.proofs.LengthLemmas.{lengths_last}
use Rattle.sharding_format.proofs.RefusalLemmas.{subchunks_next}
use Rattle.sharding_subchunks.specs.steps.DecodedRows.{AreGathered}
use Rattle.codec_traits.specs.RefusalLaws.{passed_on}
use Rattle.sharding_subchunks.proofs.WholeLemmas.{cells_whole}
use Rattle.sharding_engine.proofs.whole.decode_shard.Goals as goal

pub returns-in_err-decoded-clause-refused : goal.returns-in_err-decoded-clause-refused
returns-in_err-decoded-clause-refused g c = λ order.
    let s = c.args.subchunks.now in
    let sub = s.shape.now in
    let location = c.args.index_codec.now.location in
    let spec : ArraySpec = whole_spec s c.args.shape.now in
    let inner : Meaning = inner_meaning g.I.ArrayToBytesCodecTraits.meaning s in
    let index : Meaning = index_meaning g.X.ArrayToBytesCodecTraits.meaning c.args.index_codec.now.codec.now (grid_of c.args.shape.now sub) in
    let plan = c.requires.plan in
    let e = c.in_err-decoded.field-0.0 in
    let counted = rw plan.grid at c.in_ok-index.ensures.counted in
    let refusals = subchunks_next inner index (layout sub location order index.representation spec) c.args.bytes.now c.in_ok-index.index.numbers.items _ e
    (rw (plan.index.size, plan.grid) at c.in_ok-index.ensures.numbers) (omega (arith, counted)) (c.in_err-decoded.ensures.refused) in
    passed_on _ e _ c.from_residual-in_err-decoded.ensures.1 refusals

pub returns-in_err-whole-clause-refused : goal.returns-in_err-whole-clause-refused
returns-in_err-whole-clause-refused g c = λ order.
    let s = c.args.subchunks.now in
    let sub = s.shape.now in
    let location = c.args.index_codec.now.location in
    let spec : ArraySpec = whole_spec s c.args.shape.now in
    let inner : Meaning = inner_meaning g.I.ArrayToBytesCodecTraits.meaning s in
    let index : Meaning = index_meaning g.X.ArrayToBytesCodecTraits.meaning c.args.index_codec.now.codec.now (grid_of c.args.shape.now sub) in
    let plan = c.requires.plan in
    let e = c.in_err-whole.field-0.0 in
    let counted = rw plan.grid at c.in_ok-index.ensures.counted in
    let refusals = subchunks_next inner index (layout sub location order index.representation spec) c.args.bytes.now c.in_ok-index.index.numbers.items _ e
    (rw (plan.index.size, plan.grid) at c.in_ok-index.ensures.numbers) (omega (arith, counted)) (c.in_err-whole.ensures.refused) in
    passed_on _ e _ c.from_residual-in_err-whole.ensures.1 refusals

pub returns-then-is_none-clause-cells : goal.returns-then-is_none-clause-cells
returns-then-is_none-clause-cells g c = λ order.
    let s = c.args.subchunks.now in
    let sub = s.shape.now in
    let location = c.args.index_codec.now.location in
    let spec : ArraySpec = whole_spec s c.args.shape.now in
    let inner : Meaning = inner_meaning g.I.ArrayToBytesCodecTraits.meaning s in
    let index : Meaning = index_meaning g.X.ArrayToBytesCodecTraits.meaning c.args.index_codec.now.codec.now (grid_of c.args.shape.now sub) in
    let size = fixed_size index.representation in
    let plan = c.requires.plan in
    cells_whole inner.cells index.cells sub location order size spec c.args.bytes.now
    c.in_ok-index.index.numbers.items c.in_ok-whole.whole.elements (rw (plan.index.size, plan.grid) at c.in_ok-index.ensures.numbers) (rw plan.cells at c.in_ok-whole.ensures.cells)

pub returns-clause-array : goal.returns-clause-array
returns-clause-array g c =
    let s = c.args.subchunks.now in
    let sub = s.shape.now in
    let location = c.args.index_codec.now.location in
    let spec : ArraySpec = whole_spec s c.args.shape.now in
    let inner : Meaning = inner_meaning g.I.ArrayToBytesCodecTraits.meaning s in
    let index : Meaning = index_meaning g.X.ArrayToBytesCodecTraits.meaning c.args.index_codec.now.codec.now (grid_of c.args.shape.now sub) in
    let size = fixed_size index.representation in
    let plan = c.requires.plan in
    let serves = c.requires.serves in
    let found = c.in_ok-decoded.ensures.decoded in
    let many = c.in_ok-decoded.ensures.counted in
    let counted = rw plan.grid at c.in_ok-index.ensures.counted in
    let elements = rw (c.deref.ensures.value, c.as_ne_bytes.ensures) at c.in_ok-array.ensures.elements in (
      c.in_ok-array.ensures.kind ∙ c.size.ensures,
      IsArrayOf-gathered inner.cells index.cells sub location C size spec c.args.bytes.now
          c.in_ok-index.index.numbers.items c.in_ok-decoded.decoded.items c.in_ok-array.array.elements serves.divides (λ k below. found k (omega (arith, many, counted))) elements serves.fill_fits,
    )

pub returns-clause-cells : goal.returns-clause-cells
returns-clause-cells g c = λ order.
    let s = c.args.subchunks.now in
    let sub = s.shape.now in
    let location = c.args.index_codec.now.location in
    let spec : ArraySpec = whole_spec s c.args.shape.now in
    let inner : Meaning = inner_meaning g.I.ArrayToBytesCodecTraits.meaning s in
    let index : Meaning = index_meaning g.X.ArrayToBytesCodecTraits.meaning c.args.index_codec.now.codec.now (grid_of c.args.shape.now sub) in
    let size = fixed_size index.representation in
    let plan = c.requires.plan in
    let serves = c.requires.serves in
    let found = c.in_ok-decoded.ensures.decoded in
    let many = c.in_ok-decoded.ensures.counted in
    let counted = rw plan.grid at c.in_ok-index.ensures.counted in
    let elements = rw (c.deref.ensures.value, c.as_ne_bytes.ensures) at c.in_ok-array.ensures.elements in
    cells-gathered inner.cells index.cells sub location order size spec c.args.bytes.now
    c.in_ok-index.index.numbers.items c.in_ok-decoded.decoded.items c.in_ok-array.array.elements serves.divides (λ k below. found k (omega (arith, many, counted))) elements
    (rw (plan.index.size, plan.grid) at c.in_ok-index.ensures.numbers)

pub returns-in_err-array-clause-refused : goal.returns-in_err-array-clause-refused
returns-in_err-array-clause-refused g c = λ order.
    let s = c.args.subchunks.now in
    let sub = s.shape.now in
    let location = c.args.index_codec.now.location in
    let spec : ArraySpec = whole_spec s c.args.shape.now in
    let inner : Meaning = inner_meaning g.I.ArrayToBytesCodecTraits.meaning s in
    let index : Meaning = index_meaning g.X.ArrayToBytesCodecTraits.meaning c.args.index_codec.now.codec.now (grid_of c.args.shape.now sub) in
    let plan = c.requires.plan in
    let serves = c.requires.serves in
    let e = c.in_err-array.field-0.0 in
    let found = c.in_ok-decoded.ensures.decoded in
    let many = c.in_ok-decoded.ensures.counted in
    let counted = rw plan.grid at c.in_ok-index.ensures.counted in
    let refusals = lengths_last inner index sub location order (fixed_size index.representation) spec c.args.bytes.now c.in_ok-index.index.numbers.items c.in_ok-decoded.decoded.items
    serves.divides (rw (plan.index.size, plan.grid) at c.in_ok-index.ensures.numbers) (omega (arith, many, counted)) (λ k below. found k (omega (arith, many, counted)))
    _ e plan.positions (rw (c.deref.ensures.value, c.as_ne_bytes.ensures) at c.in_err-array.ensures.refused) in
    passed_on _ e _ c.from_residual-in_err-array.ensures.1 refusals

pub returns-in-Some-clause-array : goal.returns-in-Some-clause-array
returns-in-Some-clause-array g c =
    let s = c.args.subchunks.now in
    let sub = s.shape.now in
    let location = c.args.index_codec.now.location in
    let spec : ArraySpec = whole_spec s c.args.shape.now in
    let inner : Meaning = inner_meaning g.I.ArrayToBytesCodecTraits.meaning s in
    let index : Meaning = index_meaning g.X.ArrayToBytesCodecTraits.meaning c.args.index_codec.now.codec.now (grid_of c.args.shape.now sub) in
    let size = fixed_size index.representation in
    let plan = c.requires.plan in
    let serves = c.requires.serves in
    let straight : AreGathered inner.cells spec sub c.args.bytes.now c.in_ok-index.index.numbers.items c.in-Some.straight.elements = rw c.in-Some.is at c.in_ok-rows.ensures.gathered in (
      rw c.in-Some.is at c.in_ok-rows.ensures.kind,
      IsArrayOf-gathered inner.cells index.cells sub location C size spec c.args.bytes.now
          c.in_ok-index.index.numbers.items straight.subchunks c.in-Some.straight.elements serves.divides straight.decoded straight.elements_are serves.fill_fits,
    )

pub returns-in-Some-clause-cells : goal.returns-in-Some-clause-cells
returns-in-Some-clause-cells g c = λ order.
    let s = c.args.subchunks.now in
    let sub = s.shape.now in
    let location = c.args.index_codec.now.location in
    let spec : ArraySpec = whole_spec s c.args.shape.now in
    let inner : Meaning = inner_meaning g.I.ArrayToBytesCodecTraits.meaning s in
    let index : Meaning = index_meaning g.X.ArrayToBytesCodecTraits.meaning c.args.index_codec.now.codec.now (grid_of c.args.shape.now sub) in
    let size = fixed_size index.representation in
    let plan = c.requires.plan in
    let serves = c.requires.serves in
    let straight : AreGathered inner.cells spec sub c.args.bytes.now c.in_ok-index.index.numbers.items c.in-Some.straight.elements = rw c.in-Some.is at c.in_ok-rows.ensures.gathered in
    cells-gathered inner.cells index.cells sub location order size spec c.args.bytes.now
    c.in_ok-index.index.numbers.items straight.subchunks c.in-Some.straight.elements serves.divides straight.decoded straight.elements_are
    (rw (plan.index.size, plan.grid) at c.in_ok-index.ensures.numbers)
