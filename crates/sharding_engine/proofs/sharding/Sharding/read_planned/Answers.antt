use Rattle.std.proofs.Common.{◌∙◌, inl, inr, refl}
use Rattle.sharding_index.specs.steps.Plans.{spec_of}
use Rattle.parts_subsets.specs.Grid.{grid_of}
use Rattle.storage_handles.specs.Objects.{interval_part}
use Rattle.sharding_format.specs.Index.{index_spec}
use Rattle.sharding_format.specs.Serves.{subchunk_spec, layout}
use Rattle.sharding_format.specs.ReadRefusals.{numbers_of}
use Rattle.codec_traits.specs.RefusalLaws.{passed_on}
use Rattle.sharding_format.proofs.ReadLemmas.{requested_cells, cells_refused}
use Rattle.sharding_engine.proofs.sharding.Sharding.read_planned.Goals as goal

pub returns-in_err-index-clause-refused : goal.returns-in_err-index-clause-refused
returns-in_err-index-clause-refused g c =
    let plan = c.requires.plan in
    let e = c.in_err-index.field-0.0 in
    let refused = rw (plan.index.size, plan.grid) at c.in_err-index.ensures.refused in
    passed_on _ e _ c.from_residual.ensures.1
    (elim refused [
      | inl memory ↦ inl memory
      | inr refusals ↦ inr (λ t. elim (refusals t) [
        | inl fault ↦ inl fault
        | inr interval ↦ inr (elim interval [
          | inl outside ↦ inl outside
          | inr index ↦ inr (
            index.0,
            elim index.1 [
              | inl short ↦ inl short
              | inr long ↦ inr (long.0, elim long.1 [ inl damaged ↦ inl damaged | inr none ↦ absurd none.1 ])
            ],
          )
        ])
      ])
    ])

pub returns-in_err-array-clause-refused : goal.returns-in_err-array-clause-refused
returns-in_err-array-clause-refused g c =
    let a = c.args in
    let s = a.self.now in
    let spec = spec_of a.shard.now.planned.spec in
    let inner = g.I.ArrayToBytesCodecTraits in
    let outer = g.X.ArrayToBytesCodecTraits in
    let h = g.H.BytesPartialDecoderTraits in
    let sub_g = subchunk_spec s.subchunk_shape.now spec in
    let index_g = index_spec (grid_of a.shard.now.planned.spec.shape.now s.subchunk_shape.now) in
    let l = layout s.subchunk_shape.now s.index_codec.location s.order (outer.meaning s.index_codec.codec.now index_g).representation spec in
    let points = (g.N.Indexer.selection a.indexer.now).points in
    let before = c.read_index.ensures.read in
    let plan = c.requires.plan in
    let e = c.in_err-array.field-0.0 in
    let refused = rw before.contents_same at c.in_err-array.ensures.refused in
    passed_on _ e _ c.from_residual-in_err-array.ensures.1
    (cells_refused (h.state a.handle.now) (h.state c.read_index.new.handle) (h.state c.read_requested.new.handle) a.shard.now.interval (inner.meaning s.inner.now sub_g) (outer.meaning s.index_codec.codec.now index_g) l
    c.in_ok-index.index.numbers.items (numbers_of a.shard.now.planned.spec.shape.now points) points e
    before c.in_ok-index.ensures.inside
    (λ t. rw (plan.index.size, plan.grid) at (c.in_ok-index.ensures.numbers t)) c.requires.points refl refused)

pub returns-clause-cells : goal.returns-clause-cells
returns-clause-cells g c = λ t.
    let a = c.args in
    let s = a.self.now in
    let spec = spec_of a.shard.now.planned.spec in
    let h = g.H.BytesPartialDecoderTraits in
    let sub_g = subchunk_spec s.subchunk_shape.now spec in
    let index_g = index_spec (grid_of a.shard.now.planned.spec.shape.now s.subchunk_shape.now) in
    let l = layout s.subchunk_shape.now s.index_codec.location s.order (g.X.ArrayToBytesCodecTraits.meaning s.index_codec.codec.now index_g).representation spec in
    let points = (g.N.Indexer.selection a.indexer.now).points in
    let bytes = interval_part a.shard.now.interval (h.state a.handle.now).contents in
    let before = c.read_index.ensures.read in
    let plan = c.requires.plan in
    let told = rw (plan.index.size, plan.grid) at (c.in_ok-index.ensures.numbers t) in
    let read = rw before.contents_same at (c.in_ok-array.ensures.cells (rw before.transparent_same t)) in
    record {
      inside = c.in_ok-index.ensures.inside t;
      read = requested_cells (g.I.ArrayToBytesCodecTraits.meaning s.inner.now sub_g) (g.X.ArrayToBytesCodecTraits.meaning s.index_codec.codec.now index_g) l bytes c.in_ok-index.index.numbers.items points told c.requires.points ∙ read;
    }
