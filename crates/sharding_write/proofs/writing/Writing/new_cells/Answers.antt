use Rattle.std.proofs.Common.{◌∙◌, ap, sym, refl, inl, inr}
use Rattle.parts_row_major.specs.Numbering.{count_of}
use Rattle.parts_arrays.specs.Arrays.{Array, extracted}
use Rattle.std.proofs.lemmas.Bool.{false≢true}
use Rattle.storage_handles.specs.Writes.{bytes_of}
use Rattle.sharding_format.specs.Cells.{cell_in}
use Rattle.codec_traits.specs.RefusalLaws.{passed_on}
use Rattle.sharding_subchunks.specs.steps.Inner.{spec_of_subchunks, inner_meaning}
use Rattle.sharding_write.proofs.PartLemmas.{taken_refused}
use Rattle.sharding_write.proofs.CellLemmas.{axes_of, no_straddle, covered_array, covered_cells, overlaid_array, overlaid_part, straddles, served_in_subset}
use Rattle.sharding_write.proofs.writing.Writing.new_cells.Goals as goal

pub returns-in_err-part-clause-refused : goal.returns-in_err-part-clause-refused
returns-in_err-part-clause-refused g c =
    let a = c.args in
    let s = a.self.now in
    let m = c.in_ok-overlap.ensures.meets in
    let overlap = c.in_ok-overlap.overlap in
    let e = c.in_err-part.field-0.0 in
    let refused = rw c.shape-axes.ensures.value at c.in_err-part.ensures.refused in
    let served = served_in_subset s.shape.now (spec_of_subchunks s.subchunks) a.update.now.subset.now a.entry.number overlap.in_subchunk overlap.in_subset m c.args.update.now.well_formed c.requires.inside c.args.self.now.fits in
    passed_on _ e _ c.from_residual-in_err-part.ensures.1
    (inl (taken_refused a.update.now.elements.now overlap.in_subset a.update.now.subset.now.shape s.subchunks.data_type.now e m.subset_well_formed served c.args.self.now.supported c.requires.kind c.args.update.now.counted refused))

pub returns-then-is_whole-clause-new : goal.returns-then-is_whole-clause-new
returns-then-is_whole-clause-new g c =
    let a = c.args in
    let s = a.self.now in
    let overlap = c.in_ok-overlap.overlap in
    let m = c.in_ok-overlap.ensures.meets in
    let part = rw c.shape-axes.ensures.value at c.in_ok-part.ensures.extracted in
    let inner = inner_meaning g.I.ArrayToBytesCodecTraits.meaning s.subchunks in
    let whole = c.is_whole.ensures.whole.0 c.if-is_whole.true in
    let fitting = rw c.requires.kind at a.update.now.fitting in
    record {
      kind = ap (λ (x : Array). x.kind) {y = extracted a.update.now.elements.now overlap.in_subset a.update.now.subset.now.shape} part ∙ c.requires.kind;
      array = covered_array s.shape.now (spec_of_subchunks s.subchunks) a.update.now.subset.now a.entry.number overlap.in_subchunk overlap.in_subset m whole (axes_of overlap.in_subchunk m.sub_well_formed)
          a.update.now.elements.now c.in_ok-part.part part a.update.now.counted fitting;
      cells = λ t. covered_cells s.shape.now (spec_of_subchunks s.subchunks) a.update.now.subset.now a.entry.number overlap.in_subchunk overlap.in_subset m whole (axes_of overlap.in_subchunk m.sub_well_formed)
          a.update.now.elements.now c.in_ok-part.part (cell_in inner.cells s.subchunks.fill_value.now (bytes_of (g.H.BytesPartialDecoderTraits.state a.handle.now).contents) a.entry.slot) part a.update.now.counted fitting;
    }

pub returns-then-is_whole-clause-passed : goal.returns-then-is_whole-clause-passed
returns-then-is_whole-clause-passed g c = λ t straddle.
    let a = c.args in
    let s = a.self.now in
    let overlap = c.in_ok-overlap.overlap in
    let whole = c.is_whole.ensures.whole.0 c.if-is_whole.true in
    absurd (no_straddle s.shape.now (spec_of_subchunks s.subchunks) a.update.now.subset.now a.entry.number overlap.in_subchunk overlap.in_subset c.in_ok-overlap.ensures.meets whole
    (axes_of overlap.in_subchunk c.in_ok-overlap.ensures.meets.sub_well_formed) straddle)

pub returns-in_err-old-clause-refused : goal.returns-in_err-old-clause-refused
returns-in_err-old-clause-refused g c =
    let a = c.args in
    let s = a.self.now in
    let overlap = c.in_ok-overlap.overlap in
    let e = c.in_err-old.field-0.0 in
    let straddle = straddles s.shape.now (spec_of_subchunks s.subchunks) a.update.now.subset.now a.entry.number overlap.in_subchunk overlap.in_subset c.in_ok-overlap.ensures.meets c.is_whole.ensures.positive c.requires.touches
    (λ whole. absurd (false≢true (sym c.if-is_whole.false ∙ c.is_whole.ensures.whole.1 whole))) in
    passed_on _ e _ c.from_residual-in_err-old.ensures.1 (elim c.in_err-old.ensures.refused [
      | inl memory ↦ inl memory
      | inr refusals ↦ inr (λ t. elim (refusals t) [ inl fault ↦ inl fault | inr refused ↦ inr (straddle, refused) ])
    ])

pub returns-in_err-new-clause-refused : goal.returns-in_err-new-clause-refused
returns-in_err-new-clause-refused g c = passed_on _ c.in_err-new.field-0.0 _ c.from_residual-in_err-new.ensures.1 (inl c.in_err-new.ensures.refused)

pub overlaid-requires-clause-same : goal.overlaid-requires-clause-same
overlaid-requires-clause-same g c = ap count_of (sym c.in_ok-overlap.ensures.meets.same_shape)

pub overlaid-requires-clause-part_served : goal.overlaid-requires-clause-part_served
overlaid-requires-clause-part_served g c =
    let a = c.args in
    let s = a.self.now in
    let overlap = c.in_ok-overlap.overlap in
    (served_in_subset s.shape.now (spec_of_subchunks s.subchunks) a.update.now.subset.now a.entry.number overlap.in_subchunk overlap.in_subset c.in_ok-overlap.ensures.meets c.args.update.now.well_formed c.requires.inside c.args.self.now.fits)

pub returns-clause-new : goal.returns-clause-new
returns-clause-new g c =
    let a = c.args in
    let s = a.self.now in
    let overlap = c.in_ok-overlap.overlap in
    let m = c.in_ok-overlap.ensures.meets in
    let part = extracted a.update.now.elements.now overlap.in_subset a.update.now.subset.now.shape in
    let updated = rw c.as_slice-sub.ensures.value at c.in_ok-new.ensures.updated in
    let inner = inner_meaning g.I.ArrayToBytesCodecTraits.meaning s.subchunks in
    let fitting = rw c.requires.kind at a.update.now.fitting in
    record {
      kind = updated.same_kind ∙ c.in_ok-old.ensures.kind;
      array = overlaid_array s.shape.now (spec_of_subchunks s.subchunks) a.update.now.subset.now a.entry.number overlap.in_subchunk overlap.in_subset m
          a.update.now.elements.now part c.in_ok-old.old c.in_ok-new.new refl a.update.now.counted fitting updated c.in_ok-old.ensures.array;
      cells = λ t. overlaid_part s.shape.now (spec_of_subchunks s.subchunks) a.update.now.subset.now a.entry.number overlap.in_subchunk overlap.in_subset m
          a.update.now.elements.now part c.in_ok-old.old c.in_ok-new.new (cell_in inner.cells s.subchunks.fill_value.now (bytes_of (g.H.BytesPartialDecoderTraits.state a.handle.now).contents) a.entry.slot)
          refl a.update.now.counted fitting updated c.in_ok-old.ensures.array (c.in_ok-old.ensures.cells t);
    }
