use Rattle.std.proofs.Common.{◌≡◌, ℕ, ◌<◌, true}
use Rattle.array_codecs.specs.AxisOrders.{are_undone}
use Rattle.array_codecs.proofs.axis_order.is_order.Given as goal

-- the orders undo one another at the places up to here
abbrev pub invariant-loop-place : goal.invariant-loop-place
invariant-loop-place l = (k : ℕ) → k < l.place → are_undone l.order l.inverse k ≡ true
