-- The codec `zlib`: any zlib stream is an encoding of its content, if it is no longer than a stream without compression.
use Rattle.codec_chains.specs.Codings.{Coding}
use Rattle.codec_chains.specs.Compressors.{compressor_coding}
use Rattle.codec_gzip.specs.Zlib.{zlib_content}
use Rattle.codec_gzip.specs.ZlibWritten.{zlib_bound}

-- what the codec means
abbrev pub zlib_coding : Coding
zlib_coding = compressor_coding zlib_content zlib_bound
