-- A codec whose bytes may have two encodings, one of them much shorter.
use Rattle.std.specs.Prelude.{◌≡◌, ◌*◌, ◌^◌, ◌==◌, ◌&&◌, ℕ, [], ◌∷◌, if◌then◌else◌, Option, Some, None, length, replicate, slice_index, refl}
use Rattle.parts_errors.specs.Words.{Bytes}
use Rattle.codec_traits.specs.declared.representation.BytesRepresentation.TheVariants.{UnboundedSize}
use Rattle.codec_chains.specs.Codings.{Coding, IsBounded}

-- how many zeros an encoding stands for that counts them: a 1 and a number
abbrev pub counted_zeros : Bytes → Option ℕ
counted_zeros encoded = if (slice_index encoded 0 == 1) && (length encoded == 2) then Some (slice_index encoded 1 * 2 ^ 52) else None

-- the bytes of an encoding that counts no zeros: those after a 0
abbrev pub after_zero : Bytes → Option Bytes
after_zero [] = None
after_zero (b ∷ bytes) = if b == 0 then Some bytes else None

abbrev pub unpacked_by : Option ℕ → Bytes → Option Bytes
unpacked_by (Some count) encoded = Some (replicate count 0)
unpacked_by None encoded = after_zero encoded

-- the bytes that an encoding stands for
unfoldable pub unpacked : Bytes → Option Bytes
unpacked encoded = unpacked_by (counted_zeros encoded) encoded

-- what the codec means
abbrev pub packed_coding : Coding
packed_coding = record { written = λ b encoded. unpacked encoded ≡ Some b; decoding = unpacked; representation = λ _. UnboundedSize }

-- nothing is known of how long encodings are
pub packed_bounded : IsBounded packed_coding
packed_bounded = record { unbounded = refl; within = λ told b encoded h is. tt }
