-- The numbers of the elements so far.
use Rattle.std.proofs.Common.{◌≡◌, map, take}
use Rattle.parts_arrays.proofs.array_bytes.ArrayBytes.to_numbers.Given as goal

abbrev pub invariant-loop-i : goal.invariant-loop-i
invariant-loop-i g l = l.numbers.items ≡ map g.T.Number.number_of (take l.i l.self.elements)
