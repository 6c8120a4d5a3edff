use Rattle.std.proofs.Common.{◌+◌, ◌*◌, ◌/◌, ◌∙◌, ap, length}
use Rattle.codec_checksums.proofs.EightLaws.{fold-all}
use Rattle.codec_gzip.specs.Adler.{after_byte, first_sums}
use Rattle.codec_gzip.specs.declared.zlib_streams.adler.Sums.{Sums}
use Rattle.codec_gzip.proofs.zlib_streams.adler.adler32.Goals as goal

pub returns : goal.returns
returns c =
    let chunks = c.as_chunks.ensures in
    let bytes = c.args.bytes.now in
    ap (λ (sums : Sums). sums.s2 * 65536 + sums.s1)
    (c.after_block-sums.ensures.sums ∙ rw (c.after_blocks.ensures.sums, chunks.front, chunks.back) (fold-all after_byte first_sums 2048 (length bytes / 2048) bytes))
