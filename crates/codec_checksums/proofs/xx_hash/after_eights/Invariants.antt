use Rattle.std.proofs.Common.{◌≡◌, fold, take}
use Rattle.codec_checksums.specs.XxHash.{after_eight}
use Rattle.codec_checksums.proofs.xx_hash.after_eights.Given as goal

abbrev pub invariant-loop-bytes : goal.invariant-loop-bytes
invariant-loop-bytes l = l.after ≡ fold after_eight l.acc (take l.bytes-index l.eights)
