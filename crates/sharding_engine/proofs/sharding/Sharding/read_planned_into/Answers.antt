use Rattle.std.proofs.Common.{◌∙◌, IsTrue, inl, inr, refl, rules}
use Rattle.std.proofs.lemmas.Result.{on_ok_weaker}
use Rattle.parts_arrays.specs.Arrays.{element_of}
use Rattle.parts_subsets.specs.Grid.{grid_of}
use Rattle.storage_handles.specs.Objects.{interval_part}
use Rattle.codec_traits.specs.RefusalLaws.{passed_on}
use Rattle.codec_traits.proofs.OverwriteLemmas.{untouched, written_or_kept, written_after}
use Rattle.sharding_format.specs.Index.{index_spec}
use Rattle.sharding_format.specs.Serves.{subchunk_spec, layout}
use Rattle.sharding_format.specs.ReadRefusals.{numbers_of}
use Rattle.sharding_format.proofs.ReadLemmas.{requested_cells, cells_refused}
use Rattle.sharding_gather.proofs.ReadGroupLemmas.{read_then}
use Rattle.sharding_index.specs.steps.Plans.{spec_of}
use Rattle.sharding_engine.proofs.sharding.Sharding.read_planned_into.Goals as goal

pub returns-in_err-put_plain_requested-clause-read : goal.returns-in_err-put_plain_requested-clause-read
returns-in_err-put_plain_requested-clause-read g c = read_then _ _ _ c.read_index.ensures.read c.put_plain_requested.ensures.read

pub returns-then-branch-clause-read : goal.returns-then-branch-clause-read
returns-then-branch-clause-read g c = read_then _ _ _ c.read_index.ensures.read c.put_plain_requested.ensures.read

pub returns-in_err-array-clause-read : goal.returns-in_err-array-clause-read
returns-in_err-array-clause-read g c =
    read_then _ _ _ (read_then _ _ _ c.read_index.ensures.read c.put_plain_requested.ensures.read) c.read_requested.ensures.read

pub returns-clause-read : goal.returns-clause-read
returns-clause-read g c = read_then _ _ _ (read_then _ _ _ c.read_index.ensures.read c.put_plain_requested.ensures.read) c.read_requested.ensures.read

pub returns-in_err-index-clause-written : goal.returns-in_err-index-clause-written
returns-in_err-index-clause-written g c = untouched c.args.target.now

pub returns-in_err-index-clause-refused : goal.returns-in_err-index-clause-refused
returns-in_err-index-clause-refused g c =
    let plan = c.requires.plan in
    let e = c.in_err-index.field-0.0 in
    let refused = rw (plan.index.size, plan.grid) at c.in_err-index.ensures.refused in
    passed_on _ e _ c.from_residual.ensures.1
    (elim refused [
      | inl memory ↦ inl memory
      | inr refusals ↦ inr (λ t. elim (refusals t) [
        | inl fault ↦ inl fault
        | inr interval ↦ inr (elim interval [
          | inl outside ↦ inl outside
          | inr index ↦ inr (
            index.0,
            elim index.1 [
              | inl short ↦ inl short
              | inr long ↦ inr (long.0, elim long.1 [ inl damaged ↦ inl damaged | inr none ↦ absurd none.1 ])
            ],
          )
        ])
      ])
    ])

pub returns-then-branch-clause-cells : goal.returns-then-branch-clause-cells
returns-then-branch-clause-cells g c = λ t.
    let a = c.args in
    let s = a.self.now in
    let spec = spec_of a.shard.now.planned.spec in
    let h = g.H.BytesPartialDecoderTraits in
    let sub_g = subchunk_spec s.subchunk_shape.now spec in
    let index_g = index_spec (grid_of a.shard.now.planned.spec.shape.now s.subchunk_shape.now) in
    let l = layout s.subchunk_shape.now s.index_codec.location s.order (g.X.ArrayToBytesCodecTraits.meaning s.index_codec.codec.now index_g).representation spec in
    let points = (g.N.Indexer.selection a.indexer.now).points in
    let bytes = interval_part a.shard.now.interval (h.state a.handle.now).contents in
    let before = c.read_index.ensures.read in
    let plan = c.requires.plan in
    let told = rw (plan.index.size, plan.grid) at (c.in_ok-index.ensures.numbers t) in
    let contents = before.contents_same in
    let true_is : IsTrue c.in_ok-put_plain_requested.field-0 = search rules in
    let put = rw contents at (c.in_ok-put_plain_requested.ensures.put true_is (rw before.transparent_same t)) in (
      c.in_ok-index.ensures.inside t,
      record {
        elements = put.elements;
        there = requested_cells (g.I.ArrayToBytesCodecTraits.meaning s.inner.now sub_g) (g.X.ArrayToBytesCodecTraits.meaning s.index_codec.codec.now index_g) l bytes c.in_ok-index.index.numbers.items points told c.requires.points ∙ put.there;
        written = put.written;
      },
    )

pub returns-in_err-array-clause-refused : goal.returns-in_err-array-clause-refused
returns-in_err-array-clause-refused g c =
    let a = c.args in
    let s = a.self.now in
    let spec = spec_of a.shard.now.planned.spec in
    let inner = g.I.ArrayToBytesCodecTraits in
    let outer = g.X.ArrayToBytesCodecTraits in
    let h = g.H.BytesPartialDecoderTraits in
    let sub_g = subchunk_spec s.subchunk_shape.now spec in
    let index_g = index_spec (grid_of a.shard.now.planned.spec.shape.now s.subchunk_shape.now) in
    let l = layout s.subchunk_shape.now s.index_codec.location s.order (outer.meaning s.index_codec.codec.now index_g).representation spec in
    let points = (g.N.Indexer.selection a.indexer.now).points in
    let before = c.read_index.ensures.read in
    let tried = c.put_plain_requested.ensures.read in
    let plan = c.requires.plan in
    let e = c.in_err-array.field-0.0 in
    let refused = rw (tried.contents_same, before.contents_same) at c.in_err-array.ensures.refused in
    passed_on _ e _ c.from_residual-in_err-array.ensures.1
    (cells_refused (h.state a.handle.now) (h.state c.put_plain_requested.new.handle) (h.state c.read_requested.new.handle) a.shard.now.interval (inner.meaning s.inner.now sub_g) (outer.meaning s.index_codec.codec.now index_g) l
    c.in_ok-index.index.numbers.items (numbers_of a.shard.now.planned.spec.shape.now points) points e
    (read_then _ _ _ before tried) c.in_ok-index.ensures.inside
    (λ t. rw (plan.index.size, plan.grid) at (c.in_ok-index.ensures.numbers t)) c.requires.points refl refused)

pub returns-clause-cells : goal.returns-clause-cells
returns-clause-cells g c =
    let a = c.args in
    let s = a.self.now in
    let spec = spec_of a.shard.now.planned.spec in
    let h = g.H.BytesPartialDecoderTraits in
    let sub_g = subchunk_spec s.subchunk_shape.now spec in
    let index_g = index_spec (grid_of a.shard.now.planned.spec.shape.now s.subchunk_shape.now) in
    let l = layout s.subchunk_shape.now s.index_codec.location s.order (g.X.ArrayToBytesCodecTraits.meaning s.index_codec.codec.now index_g).representation spec in
    let points = (g.N.Indexer.selection a.indexer.now).points in
    let bytes = interval_part a.shard.now.interval (h.state a.handle.now).contents in
    let before = c.read_index.ensures.read in
    let tried = c.put_plain_requested.ensures.read in
    let plan = c.requires.plan in
    let contents = tried.contents_same ∙ before.contents_same in
    let array = c.in_ok-array.array in
    on_ok_weaker c.copy_from.result
    (λ wrote t.
    let told = rw (plan.index.size, plan.grid) at (c.in_ok-index.ensures.numbers t) in
    let read = rw contents at (c.in_ok-array.ensures.cells (rw (tried.transparent_same ∙ before.transparent_same) t)) in (
      c.in_ok-index.ensures.inside t,
      record {
        elements = array.elements;
        there = requested_cells (g.I.ArrayToBytesCodecTraits.meaning s.inner.now sub_g) (g.X.ArrayToBytesCodecTraits.meaning s.index_codec.codec.now index_g) l bytes c.in_ok-index.index.numbers.items points told c.requires.points ∙ read;
        written = written_after a.target.now c.put_plain_requested.new.target c.copy_from.new.self (element_of array) c.put_plain_requested.ensures.written wrote;
      },
    ))
    c.copy_from.ensures.written

pub returns-clause-written : goal.returns-clause-written
returns-clause-written g c =
    let mid = c.put_plain_requested.new.target in
    let new = c.copy_from.new.self in
    let last = written_or_kept c.copy_from.result mid new (on_ok_weaker c.copy_from.result (λ wrote. (c.in_ok-array.array.elements, wrote)) c.copy_from.ensures.written) c.copy_from.ensures.kept in
    (last.0, written_after c.args.target.now mid new _ c.put_plain_requested.ensures.written last.1)
