use Rattle.std.proofs.Common.{◌≡◌, ◌∙◌, ◌<◌, IsTrue, Some, get_or, length, ap, sym, rules, arith}
use Rattle.std.proofs.lemmas.List.{length-append}
use Rattle.std.proofs.lemmas.Nat.{row_fits}
use Rattle.parts_row_major.specs.Numbering.{count_of}
use Rattle.parts_subsets.specs.Grid.{subchunk_number, position_number}
use Rattle.parts_subsets.proofs.GridLaws.{subchunk_number-below, position_number-below}
use Rattle.storage_handles.specs.Objects.{interval_part}
use Rattle.codec_traits.proofs.ReadLemmas.{length-interval_part}
use Rattle.sharding_gather.proofs.ReadGroupLemmas.{read_then}
use Rattle.sharding_format.specs.Cells.{indexed_cell}
use Rattle.sharding_subchunks.specs.steps.Inner.{inner_meaning}
use Rattle.sharding_subchunks.proofs.PlainLemmas.{element_more}
use Rattle.sharding_subchunks.proofs.stored_shard.StoredShard.plain_cells.Goals as goal

pub slot-slot-requires : goal.slot-slot-requires
slot-slot-requires g c =
    let a = c.args in
    let shape = a.self.now.shape.now in
    let sub = a.self.now.subchunks.shape.now in
    let i = get_or a.numbers.now c.loop-i.i 0 in
    let is : c.located-subchunk.result.subchunk ≡ subchunk_number shape sub i = rw (c.as_slice-cells.ensures.value, c.as_slice-sub.ensures.value) at c.located-subchunk.ensures.subchunk in
    let below = subchunk_number-below shape sub c.args.self.now.divides i (c.requires.numbers c.loop-i.i 0 c.loop-i-test.true) in
    omega (arith, is, below, c.args.self.now.indexed)

pub append_element-requires-clause-position : goal.append_element-requires-clause-position
append_element-requires-clause-position g c =
    let a = c.args in
    let shape = a.self.now.shape.now in
    let sub = a.self.now.subchunks.shape.now in
    let i = get_or a.numbers.now c.loop-i.i 0 in
    let is : c.located-subchunk.result.position ≡ position_number shape sub i = rw (c.as_slice-cells.ensures.value, c.as_slice-sub.ensures.value) at c.located-subchunk.ensures.position in
    rw is (position_number-below shape sub c.args.self.now.divides i (c.requires.numbers c.loop-i.i 0 c.loop-i-test.true))

pub append_element-requires-clause-within : goal.append_element-requires-clause-within
append_element-requires-clause-within g c =
    let a = c.args in
    let shape = a.self.now.shape.now in
    let sub = a.self.now.subchunks.shape.now in
    let n = length a.self.now.subchunks.fill_value.now in
    let i = get_or a.numbers.now c.loop-i.i 0 in
    let is : c.located-subchunk.result.position ≡ position_number shape sub i = rw (c.as_slice-cells.ensures.value, c.as_slice-sub.ensures.value) at c.located-subchunk.ensures.position in
    let below = position_number-below shape sub c.args.self.now.divides i (c.requires.numbers c.loop-i.i 0 c.loop-i-test.true) in
    let fits = row_fits (position_number shape sub i) n (count_of sub) n below (omega arith) in
    rw is (omega (arith, fits, c.requires.plain.size_is))

pub loop-i-preserved : goal.loop-i-preserved
loop-i-preserved g c =
    let a = c.args in
    let s = a.self.now.subchunks in
    let h = g.H.BytesPartialDecoderTraits in
    let inner = inner_meaning g.I.ArrayToBytesCodecTraits.meaning s in
    let shape = a.self.now.shape.now in
    let sub = s.shape.now in
    let fill = s.fill_value.now in
    let n = length fill in
    let contents = (h.state a.handle.now).contents in
    let bytes = interval_part a.self.now.interval contents in
    let f = indexed_cell inner.cells shape sub fill bytes a.self.now.index.now.numbers.items in
    let i = get_or a.numbers.now c.loop-i.i 0 in
    let lt : c.loop-i.i < length a.numbers.now = c.loop-i-test.true in
    let inv = c.loop-i.invariant in
    let subchunk : c.located-subchunk.result.subchunk ≡ subchunk_number shape sub i = rw (c.as_slice-cells.ensures.value, c.as_slice-sub.ensures.value) at c.located-subchunk.ensures.subchunk in
    let position : c.located-subchunk.result.position ≡ position_number shape sub i = rw (c.as_slice-cells.ensures.value, c.as_slice-sub.ensures.value) at c.located-subchunk.ensures.position in
    let true_is : IsTrue c.in_ok-append_element.field-0 = search rules in
    let put = c.in_ok-append_element.ensures.element true_is in
    let old = c.loop-i.read.items in
    let new = c.append_element.new.read.items in
    record {
      handle_read = read_then (h.state a.handle.now) (h.state c.loop-i.handle) (h.state c.append_element.new.handle) inv.handle_read c.in_ok-append_element.ensures.read;
      whole = ap length put.appended ∙ omega (arith, length-append old put.element, inv.whole, put.long);
      are = λ t.
          let long = length-interval_part a.self.now.interval contents (c.requires.inside t) in
          let there = put.there (rw inv.handle_read.transparent_same t) in
          let here : f i ≡ Some put.element = rw (inv.handle_read.contents_same, c.slot-slot.ensures.slot, c.args.self.now.len ∙ sym long, subchunk, position) at there in
          element_more n c.loop-i.i f a.numbers.now old put.element new lt inv.whole put.long (inv.are t) here put.appended;
    }
