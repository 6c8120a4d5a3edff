use Rattle.std.proofs.Common.{◌≡◌, fold, take}
use Rattle.codec_checksums.specs.XxHash.{after_stripe, first_accumulators}
use Rattle.codec_checksums.proofs.xx_hash.after_stripes.Given as goal

abbrev pub invariant-loop-stripe : goal.invariant-loop-stripe
invariant-loop-stripe l = l.accumulators ≡ fold after_stripe first_accumulators (take l.stripe-index l.stripes)
