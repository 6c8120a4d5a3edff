-- The bytes of the numbers so far.
use Rattle.std.proofs.Common.{◌≡◌, take}
use Rattle.std.specs.List.{flat_map}
use Rattle.parts_arrays.proofs.array_bytes.ArrayBytes.from_numbers.Given as goal

abbrev pub invariant-loop-number : goal.invariant-loop-number
invariant-loop-number g l = l.bytes.items ≡ flat_map g.T.Number.bytes_of (take l.number-index l.numbers)
