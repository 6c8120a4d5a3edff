use Rattle.std.proofs.Common.{◌≡◌, fold, take}
use Rattle.codec_checksums.specs.Checksum.{with_byte}
use Rattle.codec_checksums.proofs.register.after_eights.Given as goal

abbrev pub invariant-loop-bytes : goal.invariant-loop-bytes
invariant-loop-bytes g l = l.after ≡ fold (fold (with_byte g.P.Polynomial.polynomial)) l.register (take l.bytes-index l.eights)
