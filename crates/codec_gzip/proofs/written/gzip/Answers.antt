use Rattle.std.proofs.Common.{◌∙◌, length, ap, arith, subst, sym}
use Rattle.codec_compression.specs.Bits.{Bytes}
use Rattle.codec_deflate.specs.Streams.{IsStreamOf}
use Rattle.codec_gzip.specs.Gzip.{gunzipped}
use Rattle.codec_gzip.proofs.WrittenLaws.{file_read, length-file}
use Rattle.codec_gzip.proofs.written.gzip.Goals as goal

pub returns-clause-back : goal.returns-clause-back
returns-clause-back c =
    ap gunzipped c.in_ok-file.ensures
    ∙ file_read c.extra_flags.result c.deref.result.now c.args.bytes.now (subst (λ (s : Bytes). IsStreamOf c.args.bytes.now s) (sym c.deref.ensures.value) c.in_ok-stream.ensures.back)

pub returns-clause-bound : goal.returns-clause-bound
returns-clause-bound c =
    omega (
      arith,
      ap (λ (xs : Bytes). length xs) c.in_ok-file.ensures,
      length-file c.extra_flags.result c.deref.result.now c.args.bytes.now
          (omega (arith, ap (λ (xs : Bytes). length xs) c.deref.ensures.value, c.in_ok-stream.ensures.bound)),
    )
