use Rattle.std.proofs.Common.{◌≡◌, ℕ, ◌<◌, get_or, eqb, false}
use Rattle.array_codecs.proofs.axis_order.place_of.Given as goal

-- the axis does not stand at the places up to here
abbrev pub invariant-loop-place : goal.invariant-loop-place
invariant-loop-place l = (k : ℕ) → k < l.place → eqb (get_or l.order k 0) l.axis ≡ false
