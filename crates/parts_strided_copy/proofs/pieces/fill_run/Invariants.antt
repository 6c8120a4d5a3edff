use Rattle.std.proofs.Common.{◌≡◌, ℕ, ◌+◌, ◌-◌, ◌<◌, ◌≤◌, length}
use Rattle.parts_row_major.specs.Pieces.{piece}
use Rattle.parts_strided_copy.proofs.pieces.fill_run.Given as goal

abbrev pub invariant-loop-done : goal.invariant-loop-done
invariant-loop-done l = record {
  whole : length l.output ≡ length l.fn.output;
  some : 0 < l.done;
  most : l.done ≤ l.len;
  written : (r : ℕ) → r < l.done → piece l.size l.output (l.first + r) ≡ l.element;
  before : (i : ℕ) → i < l.first → piece l.size l.output i ≡ piece l.size l.fn.output i;
  after : (i : ℕ) → l.first + l.len ≤ i → piece l.size l.output i ≡ piece l.size l.fn.output i;
}

abbrev pub decreases-loop-done : goal.decreases-loop-done
decreases-loop-done l = l.len - l.done
