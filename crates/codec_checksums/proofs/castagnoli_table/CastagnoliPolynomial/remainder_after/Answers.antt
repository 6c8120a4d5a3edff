use Rattle.std.proofs.Common.{refl}
use Rattle.codec_checksums.specs.Checksum.{with_bits}
use Rattle.codec_checksums.proofs.ChecksumLaws.{tables, remainder_in}
use Rattle.codec_checksums.specs.Castagnoli.{castagnoli}
use Rattle.codec_checksums.proofs.castagnoli_table.CastagnoliPolynomial.remainder_after.Goals as goal

pub returns : goal.returns
unfolding with_bits tables
returns c = remainder_in castagnoli _ c.args.zeros c.args.byte c.requires c.ranges.byte.fits refl
