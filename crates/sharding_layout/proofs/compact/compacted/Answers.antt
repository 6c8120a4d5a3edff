use Rattle.std.proofs.Common.{[], refl, sym, subst, arith}
use Rattle.parts_subsets.specs.Grid.{grid_of}
use Rattle.codec_traits.specs.Meanings.{Meaning}
use Rattle.codec_traits.specs.RefusalLaws.{passed_on}
use Rattle.sharding_format.specs.Cells.{Layout}
use Rattle.sharding_format.specs.Compacting.{IsCompacted}
use Rattle.sharding_format.specs.Serves.{fixed_size}
use Rattle.sharding_format.specs.declared.order.SubchunkWriteOrder.TheVariants.{Unordered}
use Rattle.sharding_index.specs.Indexes.{index_meaning}
use Rattle.sharding_layout.proofs.compact.compacted.Goals as goal

pub returns-in_err-plan-clause-refused : goal.returns-in_err-plan-clause-refused
returns-in_err-plan-clause-refused g c = λ fill order.
    passed_on _ c.in_err-plan.field-0.0 _ c.from_residual.ensures.1 (c.in_err-plan.ensures.refused fill order c.args.bytes.now refl refl)

pub execute-requires-clause-whole : goal.execute-requires-clause-whole
execute-requires-clause-whole g c = sym ((rw c.in-Some.is at (c.in_ok-plan.ensures.planned [] Unordered c.args.bytes.now refl refl)).0.old_len)

pub execute-requires-clause-good : goal.execute-requires-clause-good
execute-requires-clause-good g c =
    let planned = rw c.in-Some.is at (c.in_ok-plan.ensures.planned [] Unordered c.args.bytes.now refl refl) in
    λ k below. planned.0.good k (omega (arith, below, planned.0.subchunks))

pub returns-in_ok-execute-in-Some-clause-compacted : goal.returns-in_ok-execute-in-Some-clause-compacted
returns-in_ok-execute-in-Some-clause-compacted g c = λ fill order.
    let planned = rw c.in-Some.is at (c.in_ok-plan.ensures.planned fill order c.args.bytes.now refl refl) in
    let index : Meaning = index_meaning g.X.ArrayToBytesCodecTraits.meaning c.args.index_codec.now.codec.now (grid_of c.args.shape.now c.args.subchunk_shape.now) in
    let l : Layout = record { shape = c.args.shape.now; sub = c.args.subchunk_shape.now; fill = fill; location = c.args.index_codec.now.location; index_size = fixed_size index.representation; order = order } in
    subst (IsCompacted index l c.args.bytes.now) (sym c.in_ok-execute-in-Some.ensures) planned.1
