use Rattle.std.proofs.Common.{◌≡◌, map, take}
use Rattle.parts_arrays.specs.Arrays.{element_of}
use Rattle.parts_arrays.proofs.array_bytes.ArrayBytes.extract_numbers.Given as goal

abbrev pub invariant-loop-number : goal.invariant-loop-number
invariant-loop-number l = record {
  same_kind : l.builder.kind ≡ l.self.kind;
  so_far : l.builder.elements ≡ map (element_of l.self) (take l.number-index l.numbers);
}
