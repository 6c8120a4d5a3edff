use Rattle.std.proofs.Common.{refl}
use Rattle.codec_checksums.specs.Checksum.{with_bits}
use Rattle.codec_checksums.proofs.ChecksumLaws.{tables, remainder_in}
use Rattle.codec_gzip.specs.Checksum.{gzip_polynomial}
use Rattle.codec_gzip.proofs.table.GzipPolynomialPolynomial.remainder_after.Goals as goal

pub returns : goal.returns
unfolding with_bits tables
returns c = remainder_in gzip_polynomial _ c.args.zeros c.args.byte c.requires c.ranges.byte.fits refl
