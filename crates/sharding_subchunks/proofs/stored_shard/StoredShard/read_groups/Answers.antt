use Rattle.std.proofs.Common.{◌≡◌, ◌<◌, ℕ, ◌∙◌, ap, sym, subst, get_or, length, [], List, arith}
use Rattle.std.proofs.lemmas.List.{get_or_read}
use Rattle.std.specs.List.{All}
use Rattle.parts_row_major.specs.Numbering.{count_of}
use Rattle.parts_arrays.specs.Types.{size_of}
use Rattle.storage_handles.specs.Objects.{interval_part}
use Rattle.sharding_format.specs.Index.{slot_at}
use Rattle.sharding_format.specs.ReadRefusals.{AnswerRefusals}
use Rattle.sharding_format.specs.steps.Decoding.{IsPartOf}
use Rattle.sharding_format.specs.steps.Reading.{IsReadAt}
use Rattle.sharding_format.proofs.DecodingLemmas.{counted_more, each_more}
use Rattle.codec_traits.specs.RefusalLaws.{passed_on}
use Rattle.sharding_gather.specs.steps.Grouping.{lists_of}
use Rattle.sharding_gather.proofs.ReadGroupLemmas.{group_below, group_read, read_then, group_refused}
use Rattle.sharding_subchunks.specs.steps.Inner.{inner_meaning}
use Rattle.sharding_subchunks.proofs.stored_shard.StoredShard.read_groups.Goals as goal

pub read_slot-requires-clause-some : goal.read_slot-requires-clause-some
read_slot-requires-clause-some g c =
    let groups = c.args.groups.now in
    let below : c.loop-j.j < length groups.subchunks.items = omega arith in
    let positions = group_read groups c.requires.lists c.loop-j.j below c.index.result.now c.as_slice-positions.result.now c.index.ensures c.as_slice-positions.ensures.value in
    λ none. c.requires.some c.loop-j.j [] (group_below groups c.requires.lists c.loop-j.j below) (sym positions ∙ none)

pub read_slot-requires-clause-below : goal.read_slot-requires-clause-below
read_slot-requires-clause-below g c =
    let groups = c.args.groups.now in
    let sub = c.args.self.now.subchunks.shape.now in
    let below : c.loop-j.j < length groups.subchunks.items = omega arith in
    let positions = group_read groups c.requires.lists c.loop-j.j below c.index.result.now c.as_slice-positions.result.now c.index.ensures c.as_slice-positions.ensures.value in
    let P : List ℕ → Type 0 = λ (positions : List ℕ). All (λ position. position < count_of sub) positions in
    subst P (sym positions) (c.requires.positions_below c.loop-j.j [] (group_below groups c.requires.lists c.loop-j.j below))

pub returns-in_err-part-clause-refused : goal.returns-in_err-part-clause-refused
returns-in_err-part-clause-refused g c =
    let a = c.args in
    let s = a.self.now.subchunks in
    let h = g.H.BytesPartialDecoderTraits in
    let inner = inner_meaning g.I.ArrayToBytesCodecTraits.meaning s in
    let groups = a.groups.now in
    let index = a.self.now.index.now.numbers.items in
    let inv = c.loop-j.invariant in
    let e = c.in_err-part.field-0.0 in
    let below : c.loop-j.j < length groups.subchunks.items = omega arith in
    let positions = group_read groups c.requires.lists c.loop-j.j below c.index.result.now c.as_slice-positions.result.now c.index.ensures c.as_slice-positions.ensures.value in
    let number : c.index-number.result.now ≡ get_or groups.subchunks.items c.loop-j.j 0 = get_or_read groups.subchunks.items _ _ below c.index-number.ensures 0 in
    let slot : c.slot-slot.result ≡ slot_at a.self.now.interval.size index (get_or groups.subchunks.items c.loop-j.j 0) =
    (rw c.args.self.now.len at c.slot-slot.ensures.slot) ∙ ap (slot_at a.self.now.interval.size index) number in
    let refused = rw (inv.read.contents_same, slot, positions, number) at c.in_err-part.ensures.refused in
    passed_on _ e _ c.from_residual.ensures.1 (λ shape numbers grouped inside.
    group_refused shape s.shape.now numbers groups.subchunks.items (lists_of groups) grouped.used grouped.positions
    (AnswerRefusals inner.answerable inner.read_refusals) inner.cells (h.state a.handle.now) (h.state c.loop-j.handle) (h.state c.read_slot.new.handle)
    a.self.now.interval index c.loop-j.parts.items c.loop-j.j e inv.read c.requires.inside below (inside c.loop-j.j 0 below) inv.cells refused)

pub loop-j-preserved : goal.loop-j-preserved
loop-j-preserved g c =
    let a = c.args in
    let s = a.self.now.subchunks in
    let h = g.H.BytesPartialDecoderTraits in
    let inner = inner_meaning g.I.ArrayToBytesCodecTraits.meaning s in
    let groups = a.groups.now in
    let lists = lists_of groups in
    let numbers = groups.subchunks.items in
    let index = a.self.now.index.now.numbers.items in
    let bytes = interval_part a.self.now.interval (h.state a.handle.now).contents in
    let inv = c.loop-j.invariant in
    let found = c.in_ok-part.ensures in
    let below : c.loop-j.j < length numbers = omega arith in
    let positions = group_read groups c.requires.lists c.loop-j.j below c.index.result.now c.as_slice-positions.result.now c.index.ensures c.as_slice-positions.ensures.value in
    let number : c.index-number.result.now ≡ get_or numbers c.loop-j.j 0 = get_or_read numbers _ _ below c.index-number.ensures 0 in
    let slot : c.slot-slot.result ≡ slot_at a.self.now.interval.size index (get_or numbers c.loop-j.j 0) =
    (rw c.args.self.now.len at c.slot-slot.ensures.slot) ∙ ap (slot_at a.self.now.interval.size index) number in
    let cells = rw (inv.read.transparent_same, inv.read.contents_same, slot, positions) at found.cells in
    record {
      read = read_then (h.state a.handle.now) (h.state c.loop-j.handle) (h.state c.read_slot.new.handle) inv.read found.read;
      counted = counted_more c.loop-j.parts.items c.push.new.self.items c.in_ok-part.part c.loop-j.j inv.counted c.in_ok-push.ensures.items;
      parts = each_more (λ i o. IsPartOf (size_of s.data_type.now) (length (get_or lists i [])) o) c.loop-j.parts.items c.push.new.self.items c.in_ok-part.part c.loop-j.j
          inv.counted inv.parts c.in_ok-push.ensures.items (rw positions at found.part);
      cells = λ t. each_more (λ i o. IsReadAt inner.cells bytes (slot_at a.self.now.interval.size index (get_or numbers i 0)) (get_or lists i []) o)
          c.loop-j.parts.items c.push.new.self.items c.in_ok-part.part c.loop-j.j inv.counted (inv.cells t) c.in_ok-push.ensures.items (cells t);
    }
