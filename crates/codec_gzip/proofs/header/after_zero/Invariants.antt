use Rattle.std.proofs.Common.{◌≡◌, drop}
use Rattle.codec_gzip.specs.Gzip.{after_zero}
use Rattle.codec_gzip.proofs.header.after_zero.Given as goal

abbrev pub invariant-loop-place : goal.invariant-loop-place
invariant-loop-place l = after_zero (drop l.place l.bytes) ≡ after_zero l.bytes
