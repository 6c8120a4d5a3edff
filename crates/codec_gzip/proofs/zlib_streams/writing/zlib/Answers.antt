use Rattle.std.proofs.Common.{◌∙◌, length, ap, arith, subst, sym}
use Rattle.codec_compression.specs.Bits.{Bytes}
use Rattle.codec_deflate.specs.Streams.{IsStreamOf}
use Rattle.codec_gzip.specs.Zlib.{zlib_content}
use Rattle.codec_gzip.proofs.ZlibLaws.{stream_read, length-stream}
use Rattle.codec_gzip.proofs.zlib_streams.writing.zlib.Goals as goal

pub returns-clause-back : goal.returns-clause-back
returns-clause-back c =
    ap zlib_content c.in_ok-stream.ensures
    ∙ stream_read c.flags.result c.flags.ensures.check c.flags.ensures.no_dictionary c.deref.result.now c.args.bytes.now
    (subst (λ (s : Bytes). IsStreamOf c.args.bytes.now s) (sym c.deref.ensures.value) c.in_ok-compressed.ensures.back)

pub returns-clause-bound : goal.returns-clause-bound
returns-clause-bound c =
    omega (
      arith,
      ap (λ (xs : Bytes). length xs) c.in_ok-stream.ensures,
      length-stream c.flags.result c.deref.result.now c.args.bytes.now
          (omega (arith, ap (λ (xs : Bytes). length xs) c.deref.ensures.value, c.in_ok-compressed.ensures.bound)),
    )
