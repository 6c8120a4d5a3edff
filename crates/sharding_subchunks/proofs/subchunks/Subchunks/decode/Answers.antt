use Rattle.std.proofs.Common.{◌/◌, Some, arith, length}
use Rattle.sharding_subchunks.specs.steps.Inner.{spec_of_subchunks}
use Rattle.parts_errors.specs.Order.{done, RefusedBy}
use Rattle.sharding_format.specs.Index.{slot_at}
use Rattle.sharding_format.specs.DecodeRefusals.{SubchunkRefusals}
use Rattle.sharding_format.specs.steps.Decoding.{IsDecoded}
use Rattle.sharding_format.proofs.DecodingLemmas.{counted_more, each_more}
use Rattle.sharding_format.proofs.RefusalLemmas.{one_refused}
use Rattle.codec_traits.specs.RefusalLaws.{passed_on}
use Rattle.sharding_subchunks.proofs.subchunks.Subchunks.decode.Goals as goal

pub loop-k-preserved : goal.loop-k-preserved
loop-k-preserved g c =
    let a = c.args in
    let sub_g = spec_of_subchunks a.self.now in
    let cells = (g.I.ArrayToBytesCodecTraits.meaning a.self.now.codec.now sub_g).cells in
    record {
      counted = counted_more c.loop-k.found.items c.push.new.self.items c.in_ok-subchunk.subchunk c.loop-k.k c.loop-k.invariant.counted c.in_ok-push.ensures.items;
      each = each_more (λ j o. IsDecoded cells sub_g a.bytes.now (slot_at (length a.bytes.now) a.index.now.numbers.items j) o) c.loop-k.found.items c.push.new.self.items c.in_ok-subchunk.subchunk c.loop-k.k
          c.loop-k.invariant.counted c.loop-k.invariant.each c.in_ok-push.ensures.items (rw (c.slot.ensures.slot, c.requires.len) at c.in_ok-subchunk.ensures.decoded);
    }

pub returns-in_err-subchunk-clause-refused : goal.returns-in_err-subchunk-clause-refused
returns-in_err-subchunk-clause-refused g c =
    let a = c.args in
    let sub_g = spec_of_subchunks a.self.now in
    let decode = (g.I.ArrayToBytesCodecTraits.meaning a.self.now.codec.now sub_g).decode_refusals in
    let cells = (g.I.ArrayToBytesCodecTraits.meaning a.self.now.codec.now sub_g).cells in
    let refused = one_refused decode cells sub_g a.bytes.now a.index.now.numbers.items c.loop-k.found.items (length a.index.now.numbers.items / 2) c.loop-k.k c.in_err-subchunk.field-0.0
    (omega arith) c.loop-k.invariant.each (rw (c.slot.ensures.slot, c.requires.len) at c.in_err-subchunk.ensures.refused) in
    passed_on c.from_residual-in_err-subchunk.result c.in_err-subchunk.field-0.0 (RefusedBy (SubchunkRefusals decode cells a.bytes.now (Some a.index.now.numbers.items) (length a.index.now.numbers.items / 2) done)) c.from_residual-in_err-subchunk.ensures.1 refused
