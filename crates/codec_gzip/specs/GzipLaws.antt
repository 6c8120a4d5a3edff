-- The codec `gzip` keeps its bound.
use Rattle.std.proofs.Common.{arith}
use Rattle.codec_chains.specs.Codings.{IsBounded}
use Rattle.codec_chains.specs.CompressorLaws.{compressor_bounded}
use Rattle.codec_gzip.specs.Gzip.{gunzipped}
use Rattle.codec_gzip.specs.Written.{gzip_bound}
use Rattle.codec_gzip.specs.GzipCoding.{gzip_coding}

pub gzip_bounded : IsBounded gzip_coding
gzip_bounded = compressor_bounded gunzipped gzip_bound (λ n m more. omega arith)
