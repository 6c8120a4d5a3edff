use Rattle.std.proofs.Common.{◌≡◌, ◌*◌, map}
use Rattle.std.specs.List.{range_with_len}
use Rattle.parts_arrays.proofs.array_bytes.fill.even_offsets.Given as goal

abbrev pub invariant-loop-i : goal.invariant-loop-i
invariant-loop-i l = l.offsets.items ≡ map (λ k. k * l.size) (range_with_len 0 l.i)
