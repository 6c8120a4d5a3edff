use Rattle.std.proofs.Common.{◌≡◌, ◌+◌, ◌<◌, ◌∙◌, ap, sym, inl, inr, map, length, take, drop, [], arith}
use Rattle.std.proofs.lemmas.Bool.{cases_lt}
use Rattle.std.proofs.lemmas.List.{take_rest}
use Rattle.parts_errors.proofs.ListLaws.{whole_after}
use Rattle.parts_row_major.specs.Pieces.{piece}
use Rattle.storage_handles.specs.Objects.{interval_part}
use Rattle.codec_traits.proofs.ReadLemmas.{length-interval_part}
use Rattle.codec_traits.specs.RefusalLaws.{passed_on}
use Rattle.sharding_format.specs.Cells.{indexed_cell}
use Rattle.sharding_format.specs.steps.Decoding.{element_at}
use Rattle.sharding_format.specs.DecodeRefusals.{RefusesLengths}
use Rattle.sharding_format.specs.ReadRefusals.{AnswerRefusals}
use Rattle.sharding_gather.specs.steps.Gathering.{positions_there}
use Rattle.sharding_gather.specs.steps.Sorting.{IsWritten}
use Rattle.sharding_gather.proofs.ReadGroupLemmas.{read_then}
use Rattle.sharding_gather.proofs.SortingLemmas.{run_from_first, run_first, run_counted}
use Rattle.sharding_gather.proofs.SortedReads.{requested_below, positions_inside, ranks_inside, sorted_more, sorted_read, sorted_refused}
use Rattle.sharding_subchunks.specs.steps.Inner.{inner_meaning}
use Rattle.sharding_subchunks.proofs.stored_shard.StoredShard.sorted_bytes.Goals as goal

pub slot-slot-requires : goal.slot-slot-requires
slot-slot-requires g c =
    let a = c.args in
    let requested = a.requested.now in
    let j = c.loop-done.done in
    let n = c.run_length.result in
    rw (take_rest requested j, run_first requested j n c.run_length.ensures.some)
    (omega (arith, c.args.self.now.indexed, requested_below a.self.now.shape.now a.self.now.subchunks.shape.now a.numbers.now requested c.requires.sorted c.args.self.now.divides c.requires.numbers j (omega arith)))

pub read_slot-requires-clause-below : goal.read_slot-requires-clause-below
read_slot-requires-clause-below g c =
    let a = c.args in
    let requested = a.requested.now in
    let j = c.loop-done.done in
    let listed = rw (take_rest requested j) at c.in_ok-list_positions.ensures in
    rw (c.deref.ensures.value, listed)
    (positions_inside a.self.now.shape.now a.self.now.subchunks.shape.now a.numbers.now requested c.requires.sorted c.args.self.now.divides c.requires.numbers j c.run_length.result)

pub put_cells-requires-clause-inside : goal.put_cells-requires-clause-inside
put_cells-requires-clause-inside g c =
    let a = c.args in
    let s = a.self.now.subchunks in
    let requested = a.requested.now in
    let j = c.loop-done.done in
    rw (take_rest requested j, c.as_ne_bytes-fill.ensures, c.deref_mut.ensures.value)
    (ranks_inside a.self.now.shape.now s.shape.now a.numbers.now requested c.requires.sorted (length s.fill_value.now) (length c.loop-done.bytes.items) j c.run_length.result c.loop-done.invariant.whole)

pub returns-in_err-part-clause-refused : goal.returns-in_err-part-clause-refused
returns-in_err-part-clause-refused g c =
    let a = c.args in
    let s = a.self.now.subchunks in
    let h = g.H.BytesPartialDecoderTraits in
    let inner = inner_meaning g.I.ArrayToBytesCodecTraits.meaning s in
    let shape = a.self.now.shape.now in
    let sub = s.shape.now in
    let fill = s.fill_value.now in
    let numbers = a.numbers.now in
    let index = a.self.now.index.now.numbers.items in
    let b = interval_part a.self.now.interval (h.state a.handle.now).contents in
    let requested = a.requested.now in
    let j = c.loop-done.done in
    let n = c.run_length.result in
    let inv = c.loop-done.invariant in
    let e = c.in_err-part.field-0.0 in
    let lt : j < length requested = omega arith in
    let is = rw (take_rest requested j) at c.run_length.ensures in
    let run = run_from_first requested j n c.requires.sorted.rising lt is.some is.within (λ i li. inv.lower i li lt) is.same is.other in
    let listed = rw (take_rest requested j) at c.in_ok-list_positions.ensures in
    let slot = rw (c.args.self.now.len, take_rest requested j, run_first requested j n is.some) at c.slot-slot.ensures.slot in
    let refused = rw (inv.read.contents_same, slot, c.deref.ensures.value, listed, take_rest requested j, run_first requested j n is.some) at c.in_err-part.ensures.refused in
    passed_on _ e _ c.from_residual-in_err-part.ensures.1
    (sorted_refused (AnswerRefusals inner.answerable inner.read_refusals) inner.cells shape sub fill index numbers requested c.requires.sorted
    (h.state a.handle.now) (h.state c.loop-done.handle) (h.state c.read_slot.new.handle) a.self.now.interval j n c.loop-done.bytes.items
    (RefusesLengths (map (indexed_cell inner.cells shape sub fill b index) numbers)) e inv.read c.requires.inside run
    (requested_below shape sub numbers requested c.requires.sorted c.args.self.now.divides c.requires.numbers j lt) inv.so_far refused)

pub returns-clause-cells : goal.returns-clause-cells
returns-clause-cells g c = λ t.
    let a = c.args in
    let s = a.self.now.subchunks in
    let h = g.H.BytesPartialDecoderTraits in
    let inner = inner_meaning g.I.ArrayToBytesCodecTraits.meaning s in
    let contents = (h.state a.handle.now).contents in
    let size = length-interval_part a.self.now.interval contents (c.requires.inside t) in
    sorted_read a.self.now.shape.now s.shape.now a.numbers.now a.requested.now c.requires.sorted inner.cells s.fill_value.now (interval_part a.self.now.interval contents) a.self.now.index.now.numbers.items a.self.now.interval.size
    c.loop-done.done c.loop-done.bytes.items (omega (arith, c.loop-done.invariant.most)) (sym size) (c.loop-done.invariant.so_far t)

pub loop-done-preserved : goal.loop-done-preserved
loop-done-preserved g c =
    let a = c.args in
    let s = a.self.now.subchunks in
    let h = g.H.BytesPartialDecoderTraits in
    let inner = inner_meaning g.I.ArrayToBytesCodecTraits.meaning s in
    let shape = a.self.now.shape.now in
    let sub = s.shape.now in
    let fill = s.fill_value.now in
    let numbers = a.numbers.now in
    let index = a.self.now.index.now.numbers.items in
    let b = interval_part a.self.now.interval (h.state a.handle.now).contents in
    let requested = a.requested.now in
    let j = c.loop-done.done in
    let n = c.run_length.result in
    let inv = c.loop-done.invariant in
    let old = c.loop-done.bytes.items in
    let new = c.put_cells.new.bytes in
    let lt : j < length requested = omega arith in
    let is = rw (take_rest requested j) at c.run_length.ensures in
    let run = run_from_first requested j n c.requires.sorted.rising lt is.some is.within (λ i li. inv.lower i li lt) is.same is.other in
    let counted = run_counted requested j n is.within in
    let listed = rw (take_rest requested j) at c.in_ok-list_positions.ensures in
    let slot = rw (c.args.self.now.len, take_rest requested j, run_first requested j n is.some) at c.slot-slot.ensures.slot in
    let read = rw (inv.read.transparent_same, inv.read.contents_same, slot, c.deref.ensures.value, listed) at c.in_ok-part.ensures.cells in
    let wrote : IsWritten (take n (drop j requested)) (positions_there (length (take n (drop j requested))) c.in_ok-part.part) (piece (length fill) old) (element_at [] c.in_ok-part.part) (piece (length fill) new) =
    rw (take_rest requested j, c.deref_mut.ensures.value, c.as_ne_bytes-fill.ensures) at c.put_cells.ensures in
    let long : length new ≡ length old = omega (arith, c.put_cells.auto.bytes, ap length c.deref_mut.ensures.value) in
    rw (whole_after c.loop-done.bytes.len new old long (omega (arith, c.loop-done.bytes.ok.0)), take_rest requested j, counted) (record {
      most = run.within;
      read = read_then (h.state a.handle.now) (h.state c.loop-done.handle) (h.state c.read_slot.new.handle) inv.read c.in_ok-part.ensures.read;
      whole = long ∙ inv.whole;
      lower = λ i li below. elim (cases_lt i j) [
        | inl before ↦ omega (arith, run.lower i before, run.higher (j + n) (omega arith) below)
        | inr after ↦ omega (arith, run.same i after li, run.higher (j + n) (omega arith) below)
      ];
      so_far = λ t. sorted_more shape sub numbers requested c.requires.sorted inner.cells fill b index a.self.now.interval.size j n run c.in_ok-part.part old new (read t) wrote (inv.so_far t);
    })
