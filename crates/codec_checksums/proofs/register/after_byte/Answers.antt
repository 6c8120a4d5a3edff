use Rattle.std.proofs.Common.{◌∙◌, ◌/◌, sym, ap, bit_xor}
use Rattle.codec_checksums.proofs.ChecksumLaws.{with_byte-table}
use Rattle.codec_checksums.proofs.register.after_byte.Goals as goal

pub returns : goal.returns
returns g c = ap (λ k. bit_xor k (c.args.register / 256)) c.remainder_after.ensures ∙ sym (with_byte-table g.P.Polynomial.polynomial c.args.register c.args.byte c.ranges.byte.fits)
