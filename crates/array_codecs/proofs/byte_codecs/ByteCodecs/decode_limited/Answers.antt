use Rattle.codec_traits.specs.RefusalLaws.{passed_on}
use Rattle.array_codecs.specs.ByteCodec.{byte_coding}
use Rattle.array_codecs.specs.ByteCodecs.{followed, optional_coding}
use Rattle.array_codecs.proofs.ByteLists.{limits_followed, refused_before}
use Rattle.array_codecs.proofs.byte_codecs.ByteCodecs.decode_limited.Goals as goal

pub returns-in_err-before_third-clause-refused : goal.returns-in_err-before_third-clause-refused
returns-in_err-before_third-clause-refused c =
    let codecs = c.args.self.now in
    let first = byte_coding codecs.first in
    let second = optional_coding codecs.second in
    let third = optional_coding codecs.third in
    let by_second = c.limit_behind-by_second.result in
    let e = c.in_err-before_third.field-0.0 in
    passed_on c.from_residual.result e _ c.from_residual.ensures.1
    (refused_before (followed first second) third c.args.limit by_second c.args.bytes.now e
    (limits_followed first second c.args.limit c.limit_by-by_first.result by_second c.limit_by-by_first.ensures c.limit_behind-by_second.ensures)
    c.in_err-before_third.ensures.refused)
