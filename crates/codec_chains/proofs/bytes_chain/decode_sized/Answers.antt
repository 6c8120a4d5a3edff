use Rattle.std.proofs.Common.{◌∙◌, sym}
use Rattle.codec_traits.specs.RefusalLaws.{passed_on}
use Rattle.codec_chains.proofs.InnerSteps.{refused_within, refused_other_length, sized}
use Rattle.codec_chains.proofs.bytes_chain.decode_sized.Goals as goal

pub returns-in_err-inner-clause-refused : goal.returns-in_err-inner-clause-refused
returns-in_err-inner-clause-refused g c =
    let decoded = (g.B.BytesToBytesCodecTraits.coding c.args.codec.now).decoding c.args.bytes.now in
    let e = c.in_err-inner.field-0.0 in
    passed_on c.from_residual.result e _ c.from_residual.ensures.1 (refused_within c.args.size decoded e c.in_err-inner.ensures.refused)

pub returns-then-len-size-clause-refused : goal.returns-then-len-size-clause-refused
returns-then-len-size-clause-refused g c =
    let decoded = (g.B.BytesToBytesCodecTraits.coding c.args.codec.now).decoding c.args.bytes.now in
    refused_other_length c.args.size decoded _ c.in_ok-inner.ensures.decoded (λ same. c.if-len-size.true (c.len.ensures ∙ same))

pub returns-clause-decoded : goal.returns-clause-decoded
returns-clause-decoded g c =
    let decoded = (g.B.BytesToBytesCodecTraits.coding c.args.codec.now).decoding c.args.bytes.now in
    sized c.args.size decoded _ c.in_ok-inner.ensures.decoded (sym c.len.ensures ∙ c.if-len-size.false)
