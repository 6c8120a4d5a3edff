use Rattle.std.proofs.Common.{◌<◌, ◌^◌, ℕ, [], length, get_or}
use Rattle.codec_vlen.proofs.text.lengths_fit.Given as goal

abbrev pub invariant-loop-i : goal.invariant-loop-i
invariant-loop-i l = (k : ℕ) → k < l.i → length (get_or l.array.elements k []) < 2 ^ 32
