-- The codec `zlib` keeps its bound.
use Rattle.std.proofs.Common.{arith}
use Rattle.codec_chains.specs.Codings.{IsBounded}
use Rattle.codec_chains.specs.CompressorLaws.{compressor_bounded}
use Rattle.codec_gzip.specs.Zlib.{zlib_content}
use Rattle.codec_gzip.specs.ZlibWritten.{zlib_bound}
use Rattle.codec_gzip.specs.ZlibCoding.{zlib_coding}

pub zlib_bounded : IsBounded zlib_coding
zlib_bounded = compressor_bounded zlib_content zlib_bound (λ n m more. omega arith)
