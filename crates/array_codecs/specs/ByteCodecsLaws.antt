-- Lists of codecs from bytes to bytes keep the laws.
use Rattle.std.proofs.Common.{Option, Some, None, refl, ap, ◌∙◌, option_and_then}
use Rattle.codec_chains.specs.Codings.{Coding, IsInvertible, IsBounded}
use Rattle.array_codecs.specs.ByteCodec.{byte_coding, byte_invertible, byte_bounded}
use Rattle.array_codecs.specs.ByteCodecs.{followed, unchanged, optional_coding, list_coding}
use Rattle.array_codecs.specs.declared.byte_codec.ByteCodec.{ByteCodec}
use Rattle.array_codecs.specs.declared.byte_codecs.ByteCodecs.{ByteCodecs}

followed_invertible : (first second : Coding) → IsInvertible first → IsInvertible second → IsInvertible (followed first second)
followed_invertible first second back again b encoded (between, written, is) =
    ap (option_and_then first.decoding) (again between encoded is) ∙ back b between written

followed_bounded : (first second : Coding) → IsBounded first → IsBounded second → IsBounded (followed first second)
followed_bounded first second bounded again = record {
  unbounded = ap second.representation (bounded.unbounded) ∙ again.unbounded;
  within = λ told b encoded h written. again.within (first.representation told) written.0 encoded
      (bounded.within told b written.0 h written.1) written.2;
}

optional_invertible : (codec : Option ByteCodec) → IsInvertible (optional_coding codec)
optional_invertible None = λ b encoded is. ap Some is
optional_invertible (Some codec) = byte_invertible codec

unchanged_bounded : IsBounded unchanged
unchanged_bounded = record { unbounded = refl; within = λ told b encoded h is. rw is h }

optional_bounded : (codec : Option ByteCodec) → IsBounded (optional_coding codec)
optional_bounded None = unchanged_bounded
optional_bounded (Some codec) = byte_bounded codec

pub list_invertible : (codecs : ByteCodecs) → IsInvertible (list_coding codecs)
list_invertible codecs =
    let first = byte_coding codecs.first in
    let second = optional_coding codecs.second in
    let two = followed_invertible first second (byte_invertible codecs.first) (optional_invertible codecs.second) in
    followed_invertible (followed first second) (optional_coding codecs.third) two (optional_invertible codecs.third)

pub list_bounded : (codecs : ByteCodecs) → IsBounded (list_coding codecs)
list_bounded codecs =
    let first = byte_coding codecs.first in
    let second = optional_coding codecs.second in
    let two = followed_bounded first second (byte_bounded codecs.first) (optional_bounded codecs.second) in
    followed_bounded (followed first second) (optional_coding codecs.third) two (optional_bounded codecs.third)
