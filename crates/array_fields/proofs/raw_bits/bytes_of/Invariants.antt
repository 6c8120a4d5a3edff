use Rattle.std.proofs.Common.{◌≡◌, take}
use Rattle.array_fields.proofs.raw_bits.bytes_of.Given as goal

-- the numbers up to here
abbrev pub invariant-loop-number : goal.invariant-loop-number
invariant-loop-number l = l.bytes.items ≡ take l.number-index l.numbers
