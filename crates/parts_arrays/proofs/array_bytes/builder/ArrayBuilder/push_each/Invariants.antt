use Rattle.std.proofs.Common.{◌≡◌, ◌++◌, map}
use Rattle.std.specs.List.{range_with_len}
use Rattle.parts_arrays.specs.Arrays.{element_of}
use Rattle.parts_arrays.specs.declared.data_type.DataTypeSize.TheVariants.{Variable}
use Rattle.parts_arrays.proofs.array_bytes.builder.ArrayBuilder.push_each.Given as goal

abbrev pub invariant-loop-i : goal.invariant-loop-i
invariant-loop-i l = record {
  kind : l.self.kind ≡ Variable;
  elements : l.self.elements ≡ l.initial.self.elements ++ map (element_of l.from) (range_with_len l.first l.i);
}
