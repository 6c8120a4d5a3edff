use Rattle.std.proofs.Common.{◌≡◌, ◌≤◌, ◌<◌, ◌+◌, ◌-◌, ℕ, get_or}
use Rattle.parts_arrays.proofs.array_bytes.builder.move_offsets.Given as goal

abbrev pub invariant-loop-end : goal.invariant-loop-end
invariant-loop-end l = record {
  moved : (k : ℕ) → k < l.end-index → get_or l.offsets k 0 ≡ l.to + (get_or l.fn.offsets k 0 - l.from);
  left : (k : ℕ) → l.end-index ≤ k → get_or l.offsets k 0 ≡ get_or l.fn.offsets k 0;
}
