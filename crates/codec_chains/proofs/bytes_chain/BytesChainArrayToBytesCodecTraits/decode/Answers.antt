use Rattle.std.proofs.Common.{◌<◌}
use Rattle.parts_arrays.specs.ArraySpec.{array_spec}
use Rattle.parts_row_major.specs.Numbering.{count_of}
use Rattle.parts_row_major.proofs.NumberingLaws.{count_positive}
use Rattle.codec_chains.specs.Chains.{chain_bytes}
use Rattle.codec_chains.proofs.ChainSteps.{refused_decode}
use Rattle.codec_traits.specs.RefusalLaws.{passed_on}
use Rattle.codec_chains.proofs.bytes_chain.BytesChainArrayToBytesCodecTraits.decode.Goals as goal

pub returns-in_err-inner-clause-lawful : goal.returns-in_err-inner-clause-lawful
returns-in_err-inner-clause-lawful g c =
    let a = c.args in
    let m = g.C.ArrayToBytesCodecTraits.meaning a.self.now.array_to_bytes (array_spec a.shape.now a.data_type.now a.fill_value.now) in
    let some : 0 < count_of a.shape.now = count_positive a.shape.now (λ i lt. c.as_slice-axes.ensures.positive i 0 lt) in
    passed_on c.from_residual-in_err-inner.result c.in_err-inner.field-0.0 _ c.from_residual-in_err-inner.ensures.1 (λ s.
    refused_decode m.cells (count_of a.shape.now) (chain_bytes (g.B.BytesToBytesCodecTraits.coding a.self.now.bytes_to_bytes) m a.bytes.now) c.in_err-inner.field-0.0 some c.in_err-inner.ensures.refused)
