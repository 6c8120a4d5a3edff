use Rattle.std.proofs.Common.{◌∙◌, ap, refl}
use Rattle.std.specs.Int.{w32, to_le_bytes}
use Rattle.codec_chains.proofs.TrailerSteps.{refused_short, refused_other, decoded}
use Rattle.codec_checksums.specs.Crc32c.{checksum_bytes}
use Rattle.codec_checksums.proofs.crc32c_codec.Crc32cCodecBytesToBytesCodecTraits.decode.Goals as goal

pub returns-then-bytes-lt4-clause-refused : goal.returns-then-bytes-lt4-clause-refused
returns-then-bytes-lt4-clause-refused c = refused_short 4 checksum_bytes (λ _. refl) c.args.bytes.now c.if-bytes-lt4.true

pub returns-then-ne-clause-refused : goal.returns-then-ne-clause-refused
returns-then-ne-clause-refused c =
    refused_other 4 checksum_bytes (λ _. refl) c.args.bytes.now c.as_slice.result.now
    (c.as_slice.ensures ∙ (c.to_le_bytes-checksum.ensures ∙ ap (to_le_bytes w32) c.crc32c.ensures)) c.if-ne.ensures

pub returns-clause-decoded : goal.returns-clause-decoded
returns-clause-decoded c =
    decoded 4 checksum_bytes (λ _. refl) c.args.bytes.now c.as_slice.result.now
    (c.as_slice.ensures ∙ (c.to_le_bytes-checksum.ensures ∙ ap (to_le_bytes w32) c.crc32c.ensures)) c.if-ne.ensures
