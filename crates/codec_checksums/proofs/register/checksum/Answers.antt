use Rattle.std.proofs.Common.{◌/◌, ◌∙◌, ap, bit_xor, length}
use Rattle.codec_checksums.specs.Checksum.{with_byte}
use Rattle.codec_checksums.proofs.EightLaws.{fold-all}
use Rattle.codec_checksums.proofs.register.checksum.Goals as goal

pub returns : goal.returns
returns g c =
    let chunks = c.as_chunks.ensures in
    let bytes = c.args.bytes.now in
    ap (λ k. bit_xor k 4294967295)
    (c.after_bytes-register.ensures ∙ rw (c.after_eights.ensures, chunks.front, chunks.back) (fold-all (with_byte g.P.Polynomial.polynomial) 4294967295 8 (length bytes / 8) bytes))
