use Rattle.std.proofs.Common.{arith}
use Rattle.codec_traits.specs.RefusalLaws.{passed_on}
use Rattle.sharding_format.proofs.ReadIndexLemmas.{numbers_of_part, part_refused}
use Rattle.sharding_index.specs.Indexes.{index_meaning}
use Rattle.sharding_index.proofs.index.IndexCodec.decode.Goals as goal

pub returns-in_err-numbers-clause-refused : goal.returns-in_err-numbers-clause-refused
returns-in_err-numbers-clause-refused g c =
    let a = c.args in
    let s = a.self.now in
    let index = index_meaning g.X.ArrayToBytesCodecTraits.meaning s.codec.now a.plan.now.grid in
    let e = c.in_err-numbers.field-0.0 in
    passed_on _ e _ c.from_residual.ensures.1
    (part_refused index.decode_refusals index.cells s.location a.plan.now.size a.bytes.now c.index_bytes-part.result.now e
    (omega arith) c.index_bytes-part.ensures c.in_err-numbers.ensures.refused)

pub returns-clause-numbers : goal.returns-clause-numbers
returns-clause-numbers g c =
    let a = c.args in
    let s = a.self.now in
    let index = index_meaning g.X.ArrayToBytesCodecTraits.meaning s.codec.now a.plan.now.grid in
    numbers_of_part index.cells s.location a.plan.now.size a.bytes.now c.index_bytes-part.result.now c.in_ok-numbers.numbers.items
    (omega arith) c.index_bytes-part.ensures c.in_ok-numbers.ensures.numbers
