use Rattle.std.proofs.Common.{◌∙◌}
use Rattle.codec_checksums.proofs.EightLaws.{with_eight}
use Rattle.codec_checksums.proofs.register.after_eight.Goals as goal

pub returns : goal.returns
returns g c = c.after_bits.ensures ∙ with_eight g.P.Polynomial.polynomial c.args.bytes.now c.args.register c.from_le_bytes.result c.told-bytes c.fits-bytes c.from_le_bytes.ensures
