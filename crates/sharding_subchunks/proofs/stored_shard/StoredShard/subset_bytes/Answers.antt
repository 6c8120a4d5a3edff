use Rattle.std.proofs.Common.{◌≡◌, ◌<◌, ◌∙◌, ap, sym, get_or, map, length, arith}
use Rattle.std.proofs.lemmas.List.{get_or_read}
use Rattle.parts_errors.proofs.ListLaws.{whole_after}
use Rattle.parts_row_major.specs.Numbering.{count_of}
use Rattle.parts_row_major.specs.Subsets.{numbers_in}
use Rattle.storage_handles.specs.Objects.{interval_part}
use Rattle.codec_traits.proofs.ReadLemmas.{length-interval_part}
use Rattle.sharding_format.specs.Cells.{indexed_cell}
use Rattle.sharding_format.specs.DecodeRefusals.{RefusesLengths}
use Rattle.sharding_format.specs.ReadRefusals.{AnswerRefusals}
use Rattle.codec_traits.specs.RefusalLaws.{passed_on}
use Rattle.sharding_gather.proofs.ReadGroupLemmas.{read_then}
use Rattle.sharding_gather.proofs.MetPositions.{met_selection, numbers_counted, some_met, positions_fit}
use Rattle.sharding_gather.proofs.SubsetReadLemmas.{read_more, subset_read, met_refused}
use Rattle.sharding_subchunks.specs.steps.Inner.{inner_meaning}
use Rattle.sharding_subchunks.proofs.stored_shard.StoredShard.subset_bytes.Goals as goal

pub subchunk_overlap-requires-clause-touches : goal.subchunk_overlap-requires-clause-touches
subchunk_overlap-requires-clause-touches g c =
    let touched = c.in_ok-touched.touched.items in
    let lt : c.loop-j.j < length touched = omega arith in
    let number : c.index-number.result.now ≡ get_or touched c.loop-j.j 0 = get_or_read touched _ _ lt c.index-number.ensures 0 in
    rw number (c.in_ok-touched.ensures.touched.touched c.loop-j.j lt)

pub read_into-requires-clause-selection : goal.read_into-requires-clause-selection
read_into-requires-clause-selection g c =
    let a = c.args in
    let s = a.self.now.subchunks in
    let touched = c.in_ok-touched.touched.items in
    let lt : c.loop-j.j < length touched = omega arith in
    let overlap = c.in_ok-overlap.overlap in
    met_selection a.self.now.shape.now s.shape.now a.subset.now c.index-number.result.now overlap.in_subchunk overlap.in_subset c.in_ok-overlap.ensures.meets
    (positions_fit a.self.now.shape.now s.shape.now (get_or touched c.loop-j.j 0) c.args.self.now.divides (c.in_ok-touched.ensures.below c.loop-j.j 0 lt) c.args.self.now.fits)

pub read_into-requires-clause-some : goal.read_into-requires-clause-some
read_into-requires-clause-some g c =
    let a = c.args in
    let s = a.self.now.subchunks in
    let touched = c.in_ok-touched.touched.items in
    let lt : c.loop-j.j < length touched = omega arith in
    let number : c.index-number.result.now ≡ get_or touched c.loop-j.j 0 = get_or_read touched _ _ lt c.index-number.ensures 0 in
    let overlap = c.in_ok-overlap.overlap in
    let meets = rw number at c.in_ok-overlap.ensures.meets in
    let below = c.in_ok-touched.ensures.below c.loop-j.j 0 lt in
    some_met a.self.now.shape.now s.shape.now a.subset.now (get_or touched c.loop-j.j 0) c.args.self.now.divides below c.shape-axes.ensures.well_formed c.requires.lies overlap.in_subchunk overlap.in_subset meets
    (c.in_ok-touched.ensures.touched.touched c.loop-j.j lt)

pub returns-in_err-read_into-clause-refused : goal.returns-in_err-read_into-clause-refused
returns-in_err-read_into-clause-refused g c =
    let a = c.args in
    let s = a.self.now.subchunks in
    let h = g.H.BytesPartialDecoderTraits in
    let inner = inner_meaning g.I.ArrayToBytesCodecTraits.meaning s in
    let shape = a.self.now.shape.now in
    let sub = s.shape.now in
    let fill = s.fill_value.now in
    let subset = a.subset.now in
    let index = a.self.now.index.now.numbers.items in
    let b = interval_part a.self.now.interval (h.state a.handle.now).contents in
    let touched = c.in_ok-touched.touched.items in
    let j = c.loop-j.j in
    let inv = c.loop-j.invariant in
    let e = c.in_err-read_into.field-0.0 in
    let lt : j < length touched = omega arith in
    let number : c.index-number.result.now ≡ get_or touched j 0 = get_or_read touched _ _ lt c.index-number.ensures 0 in
    let overlap = c.in_ok-overlap.overlap in
    let meets = rw number at c.in_ok-overlap.ensures.meets in
    let refused = rw (inv.read.contents_same, number) at c.in_err-read_into.ensures.refused in
    passed_on _ e _ c.from_residual-in_err-read_into.ensures.1
    (met_refused (AnswerRefusals inner.answerable inner.read_refusals) inner.cells shape sub fill index subset touched c.args.self.now.divides c.shape-axes.ensures.well_formed c.requires.lies c.in_ok-touched.ensures.touched
    (h.state a.handle.now) (h.state c.loop-j.handle) (h.state c.read_into.new.handle) a.self.now.interval j overlap.in_subchunk overlap.in_subset c.loop-j.bytes.items
    (RefusesLengths (map (indexed_cell inner.cells shape sub fill b index) (numbers_in subset shape))) e
    inv.read c.requires.inside lt (c.in_ok-touched.ensures.below j 0 lt) meets inv.so_far refused)

pub loop-j-preserved : goal.loop-j-preserved
loop-j-preserved g c =
    let a = c.args in
    let s = a.self.now.subchunks in
    let h = g.H.BytesPartialDecoderTraits in
    let inner = inner_meaning g.I.ArrayToBytesCodecTraits.meaning s in
    let shape = a.self.now.shape.now in
    let sub = s.shape.now in
    let fill = s.fill_value.now in
    let subset = a.subset.now in
    let index = a.self.now.index.now.numbers.items in
    let b = interval_part a.self.now.interval (h.state a.handle.now).contents in
    let touched = c.in_ok-touched.touched.items in
    let j = c.loop-j.j in
    let inv = c.loop-j.invariant in
    let old = c.loop-j.bytes.items in
    let new = c.read_into.new.bytes in
    let lt : j < length touched = omega arith in
    let number : c.index-number.result.now ≡ get_or touched j 0 = get_or_read touched _ _ lt c.index-number.ensures 0 in
    let overlap = c.in_ok-overlap.overlap in
    let meets = rw number at c.in_ok-overlap.ensures.meets in
    let put = rw (inv.read.transparent_same, inv.read.contents_same, number, c.deref_mut.ensures.value, c.shape-axes.ensures.value) at c.in_ok-read_into.ensures.cells in
    let counted : length (numbers_in overlap.in_subchunk sub) ≡ count_of overlap.in_subset.shape = numbers_counted overlap.in_subchunk sub ∙ ap count_of meets.same_shape in
    let long : length new ≡ length old = omega (arith, c.read_into.auto.bytes, ap length c.deref_mut.ensures.value) in
    rw (whole_after c.loop-j.bytes.len new old long (omega (arith, c.loop-j.bytes.ok.0))) (record {
      read = read_then (h.state a.handle.now) (h.state c.loop-j.handle) (h.state c.read_into.new.handle) inv.read c.in_ok-read_into.ensures.read;
      whole = long ∙ inv.whole;
      so_far = λ t. read_more inner.cells shape sub fill b index subset touched a.self.now.interval.size c.args.self.now.divides c.shape-axes.ensures.well_formed c.requires.lies c.in_ok-touched.ensures.touched
          j lt (c.in_ok-touched.ensures.below j 0 lt) overlap.in_subchunk overlap.in_subset meets (put t).part old new (put t).read (rw counted at (put t).written) (inv.so_far t);
    })

pub returns-clause-cells : goal.returns-clause-cells
returns-clause-cells g c = λ t.
    let a = c.args in
    let s = a.self.now.subchunks in
    let h = g.H.BytesPartialDecoderTraits in
    let inner = inner_meaning g.I.ArrayToBytesCodecTraits.meaning s in
    let contents = (h.state a.handle.now).contents in
    let size = length-interval_part a.self.now.interval contents (c.requires.inside t) in
    rw c.requires.count
    (subset_read inner.cells a.self.now.shape.now s.shape.now s.fill_value.now (interval_part a.self.now.interval contents) a.self.now.index.now.numbers.items a.subset.now c.in_ok-touched.touched.items a.self.now.interval.size
    c.args.self.now.divides c.shape-axes.ensures.well_formed c.requires.lies c.in_ok-touched.ensures.touched c.loop-j.j c.loop-j.bytes.items (omega arith) (sym size) (c.loop-j.invariant.so_far t))
