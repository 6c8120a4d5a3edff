use Rattle.std.proofs.Common.{◌≡◌, take, flat_map}
use Rattle.sharding_c.specs.Layouts.{number_bytes}
use Rattle.sharding_c.proofs.index.bytes_of_numbers.Given as goal

abbrev pub invariant-loop-number : goal.invariant-loop-number
invariant-loop-number l = l.bytes.items ≡ flat_map (number_bytes l.is_big) (take l.number-index l.numbers)
