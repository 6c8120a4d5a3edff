use Rattle.std.proofs.Common.{◌≡◌, ◌≤◌, ◌-◌, map}
use Rattle.std.specs.List.{range_with_len}
use Rattle.parts_arrays.specs.Arrays.{element_of}
use Rattle.array_codecs.specs.AxisOrders.{number_moved}
use Rattle.array_codecs.proofs.moved_rows.moved_elements.Given as goal

-- the elements up to here
abbrev pub invariant-loop-done : goal.invariant-loop-done
invariant-loop-done l = record {
  within : l.done ≤ l.count;
  kind : l.moved.kind ≡ l.inner.kind;
  elements : l.moved.elements ≡ map (λ i. element_of l.inner (number_moved l.order l.axes i)) (range_with_len 0 l.done);
}

abbrev pub decreases-loop-done : goal.decreases-loop-done
decreases-loop-done l = l.count - l.done
