use Rattle.std.proofs.Common.{◌≡◌, fold, take}
use Rattle.codec_checksums.specs.XxHash.{after_one}
use Rattle.codec_checksums.proofs.xx_hash.after_ones.Given as goal

abbrev pub invariant-loop-byte : goal.invariant-loop-byte
invariant-loop-byte l = l.after ≡ fold after_one l.acc (take l.byte-index l.bytes)
