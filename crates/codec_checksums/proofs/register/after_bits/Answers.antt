use Rattle.std.proofs.Common.{sym}
use Rattle.codec_checksums.proofs.EightLaws.{with_bits-eight}
use Rattle.codec_checksums.proofs.register.after_bits.Goals as goal

pub returns : goal.returns
returns g c =
    rw (c.remainder_after.ensures, c.remainder_after-2.ensures, c.remainder_after-3.ensures, c.remainder_after-4.ensures, c.remainder_after-5.ensures, c.remainder_after-6.ensures, c.remainder_after-7.ensures, c.remainder_after-8.ensures)
    (rw c.to_le_bytes-bytes.ensures (sym (with_bits-eight g.P.Polynomial.polynomial c.args.bits c.ranges.bits.fits)))
