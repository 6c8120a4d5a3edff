use Rattle.std.proofs.Common.{◌≡◌, fold, take}
use Rattle.codec_checksums.specs.Checksum.{with_byte}
use Rattle.codec_checksums.proofs.register.after_bytes.Given as goal

abbrev pub invariant-loop-byte : goal.invariant-loop-byte
invariant-loop-byte g l = l.after ≡ fold (with_byte g.P.Polynomial.polynomial) l.register (take l.byte-index l.bytes)
