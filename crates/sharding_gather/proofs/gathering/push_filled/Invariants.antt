use Rattle.std.proofs.Common.{◌≡◌, ◌++◌, ℕ, map}
use Rattle.std.specs.List.{range_with_len}
use Rattle.parts_arrays.specs.declared.data_type.DataTypeSize.TheVariants.{Variable}
use Rattle.sharding_gather.proofs.gathering.push_filled.Given as goal

abbrev pub invariant-loop-i : goal.invariant-loop-i
invariant-loop-i l = record {
  kind : l.elements.kind ≡ Variable;
  elements : l.elements.elements ≡ l.initial.elements.elements ++ map (λ (k : ℕ). l.fill) (range_with_len 0 l.i);
}
