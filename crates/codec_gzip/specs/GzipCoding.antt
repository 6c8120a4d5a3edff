-- The codec `gzip`: any gzip file is an encoding of its content, if it is no longer than a file without compression.
use Rattle.codec_chains.specs.Codings.{Coding}
use Rattle.codec_chains.specs.Compressors.{compressor_coding}
use Rattle.codec_gzip.specs.Gzip.{gunzipped}
use Rattle.codec_gzip.specs.Written.{gzip_bound}

-- what the codec means
abbrev pub gzip_coding : Coding
gzip_coding = compressor_coding gunzipped gzip_bound
