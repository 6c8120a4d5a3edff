use Rattle.std.proofs.Common.{inl, inr}
use Rattle.parts_errors.specs.Order.{done}
use Rattle.parts_subsets.specs.Grid.{grid_of}
use Rattle.storage_handles.specs.Objects.{ObjectRefusals, IntervalRefusals}
use Rattle.codec_traits.specs.Meanings.{Meaning}
use Rattle.codec_traits.specs.RefusalLaws.{passed_on}
use Rattle.sharding_format.specs.Index.{index_spec}
use Rattle.sharding_format.specs.Serves.{fixed_size}
use Rattle.sharding_format.specs.DecodeRefusals.{IndexRefusals}
use Rattle.sharding_layout.proofs.PlannedLemmas.{plan_passed}
use Rattle.sharding_codec.proofs.codec.ShardingCodec.read_index.Goals as goal

pub returns-in_err-index-clause-refused : goal.returns-in_err-index-clause-refused
returns-in_err-index-clause-refused g c =
    let a = c.args in
    let s = a.self.now in
    let index : Meaning = g.X.ArrayToBytesCodecTraits.meaning s.index_codec (index_spec (grid_of a.shape.now s.subchunk_shape)) in
    let state = g.H.BytesPartialDecoderTraits.state in
    let plan = c.in_ok-plan.ensures.plan in
    let e = c.in_err-index.field-0.0 in
    passed_on _ e _ c.from_residual-in_err-index.ensures.1
    (elim (rw (plan.index.size, plan.grid) at c.in_err-index.ensures.refused) [
      | inl memory ↦ inl memory
      | inr refused ↦ inr (plan_passed index a.shape.now s.subchunk_shape 0
          (ObjectRefusals (state a.handle.now) (state c.read_index.new.handle) (IntervalRefusals a.interval (state a.handle.now).contents (λ bytes.
          IndexRefusals index.decode_refusals index.cells s.location (fixed_size index.representation) bytes done)))
          e c.in_ok-plan.ensures.served refused)
    ])
