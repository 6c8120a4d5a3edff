use Rattle.std.proofs.Common.{◌≡◌, ◌∙◌, ◌<◌, IsTrue, get_or, length, ap, sym, subst, refl, rules, arith}
use Rattle.parts_errors.specs.Order.{done}
use Rattle.parts_row_major.specs.Numbering.{count_of}
use Rattle.parts_row_major.specs.Subsets.{Subset}
use Rattle.parts_arrays.specs.Targets.{target_element_size, target_subset}
use Rattle.parts_arrays.specs.declared.target.FixedTarget.{FixedTarget}
use Rattle.storage_handles.specs.Objects.{interval_part}
use Rattle.codec_traits.specs.Reads.{IsOverwritten}
use Rattle.codec_traits.specs.RefusalLaws.{passed_on}
use Rattle.codec_traits.proofs.ReadLemmas.{length-interval_part}
use Rattle.sharding_format.specs.Index.{slot_at}
use Rattle.sharding_gather.specs.steps.Placings.{shifted_subset}
use Rattle.parts_strided_copy.specs.Paired.{elements_in_rows, AreRowsOf}
use Rattle.sharding_gather.proofs.ReadGroupLemmas.{read_then}
use Rattle.sharding_subchunks.specs.steps.Inner.{inner_meaning}
use Rattle.sharding_subchunks.proofs.SubsetPutLemmas.{part_put_at, subset_put_written, subset_put_more, subset_put_all}
use Rattle.sharding_subchunks.proofs.PlainLemmas.{refused_after}
use Rattle.sharding_subchunks.proofs.stored_shard.StoredShard.put_touched.Goals as goal

pub overlap_rows-requires-clause-touches : goal.overlap_rows-requires-clause-touches
overlap_rows-requires-clause-touches g c = rw (c.requires.met.shape_is, c.requires.met.sub_is) (c.requires.touched.touched c.loop-j.j (omega arith))

pub returns-in_err-overlap_rows-clause-written : goal.returns-in_err-overlap_rows-clause-written
returns-in_err-overlap_rows-clause-written g c =
    let sized : target_element_size c.args.target.now ≡ length c.args.self.now.subchunks.fill_value.now = search rules in
    subset_put_written sized c.requires.same c.loop-j.invariant.so_far

pub overlap_rows-requires-clause-same : goal.overlap_rows-requires-clause-same
overlap_rows-requires-clause-same g c = ap (λ (w : Subset). w.shape) c.loop-j.invariant.so_far.position ∙ c.requires.same

pub returns-in_err-put_rows-clause-written : goal.returns-in_err-put_rows-clause-written
returns-in_err-put_rows-clause-written g c =
    let first = c.args.target.now in
    let sized : target_element_size first ≡ length c.args.self.now.subchunks.fill_value.now = search rules in
    let kept : c.put_rows.new.target ≡ c.loop-j.target = search rules in
    subst (λ (t : FixedTarget). IsOverwritten first t) (sym kept) (subset_put_written sized c.requires.same c.loop-j.invariant.so_far)

pub returns-in_err-put_rows-clause-refused : goal.returns-in_err-put_rows-clause-refused
returns-in_err-put_rows-clause-refused g c =
    let h = g.H.BytesPartialDecoderTraits in
    let e = c.in_err-put_rows.field-0.0 in
    passed_on _ e _ c.from_residual-in_err-put_rows.ensures.1
    (refused_after (h.state c.args.handle.now) (h.state c.loop-j.handle) (h.state c.put_rows.new.handle) done e c.loop-j.invariant.read c.in_err-put_rows.ensures.refused)

pub returns-then-not-branch-clause-written : goal.returns-then-not-branch-clause-written
returns-then-not-branch-clause-written g c =
    let first = c.args.target.now in
    let sized : target_element_size first ≡ length c.args.self.now.subchunks.fill_value.now = search rules in
    let kept : c.put_rows.new.target ≡ c.loop-j.target = search rules in
    subst (λ (t : FixedTarget). IsOverwritten first t) (sym kept) (subset_put_written sized c.requires.same c.loop-j.invariant.so_far)

pub loop-j-preserved : goal.loop-j-preserved
loop-j-preserved g c =
    let a = c.args in
    let s = a.self.now.subchunks in
    let h = g.H.BytesPartialDecoderTraits in
    let inner = inner_meaning g.I.ArrayToBytesCodecTraits.meaning s in
    let state = h.state a.handle.now in
    let first = a.target.now in
    let index = a.self.now.index.now.numbers.items in
    let touched = c.args.touched.now in
    let j = c.loop-j.j in
    let inv = c.loop-j.invariant in
    let lt : j < length touched = omega arith in
    let slot : c.slot-slot.result ≡ slot_at a.self.now.interval.size index (get_or touched j 0) = rw c.args.self.now.len at c.slot-slot.ensures.slot in
    let met = rw (c.requires.met.shape_is, c.requires.met.sub_is, inv.so_far.position, inv.so_far.axes) at c.in_ok-overlap_rows.ensures in
    let position = shifted_subset (target_subset first) met.in_subset in
    let sized : target_element_size first ≡ length s.fill_value.now = search rules in
    let true_is : IsTrue c.in_ok-put_rows.field-0 = search rules in
    let part = rw (inv.read.transparent_same, inv.read.contents_same, slot) at (c.in_ok-put_rows.ensures.put true_is position (subst (AreRowsOf c.overlap_rows.new.rows position) (sym inv.so_far.axes) met.into)) in
    let counted : elements_in_rows c.overlap_rows.new.rows ≡ count_of met.in_subchunk.shape = met.into.counted ∙ sym (ap count_of met.meets.same_shape) in
    let put = part_put_at counted met.from part in
    record {
      read = read_then state (h.state c.loop-j.handle) (h.state c.put_rows.new.handle) inv.read c.in_ok-put_rows.ensures.read;
      so_far = subset_put_more (IsTrue state.transparent) inner.cells a.self.now.shape.now s.shape.now s.fill_value.now (interval_part a.self.now.interval state.contents) index a.self.now.interval.size a.met.now.subset.now touched first
          c.args.self.now.divides c.requires.met.inside c.requires.touched sized c.requires.same j lt (c.requires.below j 0 lt) met.in_subchunk met.in_subset position met.meets
          c.loop-j.target c.put_rows.new.target (rw c.subset.ensures at c.shape-lengths.ensures.well_formed) first.is_target.served.0 refl put inv.so_far;
    }

pub returns-clause-written : goal.returns-clause-written
returns-clause-written g c =
    let sized : target_element_size c.args.target.now ≡ length c.args.self.now.subchunks.fill_value.now = search rules in
    subset_put_written sized c.requires.same c.loop-j.invariant.so_far

pub returns-clause-put : goal.returns-clause-put
returns-clause-put g c = λ put t.
    let a = c.args in
    let s = a.self.now.subchunks in
    let inner = inner_meaning g.I.ArrayToBytesCodecTraits.meaning s in
    let state = g.H.BytesPartialDecoderTraits.state a.handle.now in
    let sized : target_element_size a.target.now ≡ length s.fill_value.now = search rules in
    subset_put_all (IsTrue state.transparent) inner.cells a.self.now.shape.now s.shape.now s.fill_value.now (interval_part a.self.now.interval state.contents) a.self.now.index.now.numbers.items a.self.now.interval.size a.met.now.subset.now
    c.args.touched.now a.target.now c.args.self.now.divides c.requires.met.inside c.requires.touched sized c.requires.same c.loop-j.j c.loop-j.target (omega arith)
    (sym (length-interval_part a.self.now.interval state.contents (c.requires.inside t))) t c.loop-j.invariant.so_far
