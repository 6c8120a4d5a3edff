use Rattle.std.proofs.Common.{inr, ℕ, ◌≡◌, ◌<◌, ◌*◌, ◌/◌, ◌∙◌, sym, refl, length, arith}
use Rattle.parts_subsets.specs.Grid.{grid_of}
use Rattle.parts_row_major.specs.Numbering.{count_of}
use Rattle.codec_traits.specs.Meanings.{Meaning}
use Rattle.codec_traits.specs.RefusalLaws.{passed_on}
use Rattle.sharding_format.specs.Index.{slot_at}
use Rattle.sharding_format.specs.Cells.{Layout}
use Rattle.sharding_format.specs.Serves.{fixed_size}
use Rattle.sharding_format.specs.Compacting.{IsGood, compact_size}
use Rattle.sharding_index.specs.Indexes.{index_meaning}
use Rattle.sharding_layout.proofs.PlanLemmas.{kept_whole, executed_long, executed_compacted}
use Rattle.sharding_layout.proofs.PlannedLemmas.{entries_present, written_present}
use Rattle.sharding_layout.proofs.plan.planned_of.Goals as goal

pub returns-in_err-len-clause-refused : goal.returns-in_err-len-clause-refused
returns-in_err-len-clause-refused g c = λ fill order.
    let a = c.args in
    let sub = a._subchunk_shape.now in
    let location = a.index_codec.now.location in
    let index : Meaning = index_meaning g.X.ArrayToBytesCodecTraits.meaning a.index_codec.now.codec.now (grid_of a._shape.now sub) in
    let l : Layout = record { shape = a._shape.now; sub = sub; fill = fill; location = location; index_size = fixed_size index.representation; order = order } in
    let plan = c.requires.plan in
    let numbers = a.old_index.numbers.items in
    let sized : a.plan.now.index.size ≡ l.index_size = rw plan.grid at plan.index.size in
    let counted : length numbers ≡ 2 * count_of (grid_of l.shape l.sub) = c.requires.counted in
    let many : length numbers / 2 ≡ count_of (grid_of l.shape l.sub) = omega (arith, counted) in
    let e = c.in_err-len.field-0.0 in
    passed_on _ e _ c.from_residual.ensures.1
    (entries_present index l a.old_index.len numbers (length numbers / 2) e many (inr (rw (plan.index.size, plan.grid) at c.in_err-len.ensures.refused)))

pub returns-then-len-old_index-clause-kept : goal.returns-then-len-old_index-clause-kept
returns-then-len-old_index-clause-kept g c = λ fill order object long there.
    let a = c.args in
    let sub = a._subchunk_shape.now in
    let location = a.index_codec.now.location in
    let index : Meaning = index_meaning g.X.ArrayToBytesCodecTraits.meaning a.index_codec.now.codec.now (grid_of a._shape.now sub) in
    let l : Layout = record { shape = a._shape.now; sub = sub; fill = fill; location = location; index_size = fixed_size index.representation; order = order } in
    let plan = c.requires.plan in
    let numbers = a.old_index.numbers.items in
    let sized : a.plan.now.index.size ≡ l.index_size = rw plan.grid at plan.index.size in
    let counted : length numbers ≡ 2 * count_of (grid_of l.shape l.sub) = c.requires.counted in
    let many : length numbers / 2 ≡ count_of (grid_of l.shape l.sub) = omega (arith, counted) in
    let len : a.old_index.len ≡ length object = sym long in
    let good : (k : ℕ) → k < count_of (grid_of l.shape l.sub) → IsGood (slot_at (length object) numbers k) = rw (len, many) at c.in_ok-len.ensures.good in
    let total : c.in_ok-len.len ≡ compact_size l (slot_at (length object) numbers) = rw (len, many, plan.index.size, plan.grid) at c.in_ok-len.ensures.size in
    kept_whole index l object numbers there counted good (sym total ∙ c.if-len-old_index.true ∙ sym long)

pub returns-in_err-new_index-clause-refused : goal.returns-in_err-new_index-clause-refused
returns-in_err-new_index-clause-refused g c = λ fill order.
    let a = c.args in
    let sub = a._subchunk_shape.now in
    let location = a.index_codec.now.location in
    let index : Meaning = index_meaning g.X.ArrayToBytesCodecTraits.meaning a.index_codec.now.codec.now (grid_of a._shape.now sub) in
    let l : Layout = record { shape = a._shape.now; sub = sub; fill = fill; location = location; index_size = fixed_size index.representation; order = order } in
    let plan = c.requires.plan in
    let numbers = a.old_index.numbers.items in
    let sized : a.plan.now.index.size ≡ l.index_size = rw plan.grid at plan.index.size in
    let counted : length numbers ≡ 2 * count_of (grid_of l.shape l.sub) = c.requires.counted in
    let many : length numbers / 2 ≡ count_of (grid_of l.shape l.sub) = omega (arith, counted) in
    let good : (k : ℕ) → k < count_of (grid_of l.shape l.sub) → IsGood (slot_at a.old_index.len numbers k) = rw many at c.in_ok-len.ensures.good in
    let total : c.in_ok-len.len ≡ compact_size l (slot_at a.old_index.len numbers) = rw (many, plan.index.size, plan.grid) at c.in_ok-len.ensures.size in
    let e = c.in_err-new_index.field-0.0 in
    passed_on _ e _ c.from_residual-in_err-new_index.ensures.1
    (written_present index l a.old_index.len numbers e good
    (omega (arith, total, c.in_ok-len.ensures.small)) (λ as_long. c.if-len-old_index.false (total ∙ as_long))
    (rw plan.grid at c.in_err-new_index.ensures.refused))

pub returns-clause-planned : goal.returns-clause-planned
returns-clause-planned g c = λ fill order object long there.
    let a = c.args in
    let sub = a._subchunk_shape.now in
    let location = a.index_codec.now.location in
    let index : Meaning = index_meaning g.X.ArrayToBytesCodecTraits.meaning a.index_codec.now.codec.now (grid_of a._shape.now sub) in
    let l : Layout = record { shape = a._shape.now; sub = sub; fill = fill; location = location; index_size = fixed_size index.representation; order = order } in
    let plan = c.requires.plan in
    let numbers = a.old_index.numbers.items in
    let sized : a.plan.now.index.size ≡ l.index_size = rw plan.grid at plan.index.size in
    let counted : length numbers ≡ 2 * count_of (grid_of l.shape l.sub) = c.requires.counted in
    let many : length numbers / 2 ≡ count_of (grid_of l.shape l.sub) = omega (arith, counted) in
    let len : a.old_index.len ≡ length object = sym long in
    let good : (k : ℕ) → k < count_of (grid_of l.shape l.sub) → IsGood (slot_at (length object) numbers k) = rw (len, many) at c.in_ok-len.ensures.good in
    let total : c.in_ok-len.len ≡ compact_size l (slot_at (length object) numbers) = rw (len, many, plan.index.size, plan.grid) at c.in_ok-len.ensures.size in
    let new = c.in_ok-new_index.new_index.items in
    let new_sized : length new ≡ l.index_size = c.in_ok-new_index.ensures.size ∙ sized in
    let index_is = rw (len, plan.index.size, plan.grid) at c.in_ok-new_index.ensures.index in
    let good_entries : (k : ℕ) → k < count_of (grid_of l.shape l.sub) → IsGood (slot_at a.old_index.len numbers k) = rw many at c.in_ok-len.ensures.good in (
      record { old_len = refl; subchunks = counted; location = refl; index = new_sized; good = good_entries },
      rw len (executed_compacted index l object numbers there counted good new new_sized
          (omega (arith, total, c.in_ok-len.ensures.small)) (λ as_long. c.if-len-old_index.false (total ∙ as_long ∙ long)) index_is),
      rw len (executed_long index l object numbers there counted good new new_sized ∙ sym total),
    )
