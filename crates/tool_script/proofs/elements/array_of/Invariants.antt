use Rattle.std.proofs.Common.{◌≡◌, map, take}
use Rattle.tool_script.specs.Elements.{width_of, element_of_number}
use Rattle.parts_arrays.specs.declared.data_type.DataTypeSize.TheVariants.{Fixed}
use Rattle.tool_script.proofs.elements.array_of.Given as goal

abbrev pub invariant-loop-number : goal.invariant-loop-number
invariant-loop-number l = record {
  kind : l.array.kind ≡ Fixed (width_of l.fn.number_type);
  elements : l.array.elements ≡ map (element_of_number l.fn.number_type) (take l.number-index l.numbers);
}
