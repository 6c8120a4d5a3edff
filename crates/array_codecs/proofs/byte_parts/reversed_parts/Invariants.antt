use Rattle.std.proofs.Common.{◌≡◌, get_or, map}
use Rattle.std.specs.List.{range_with_len}
use Rattle.array_codecs.specs.ReversedParts.{mirrored}
use Rattle.array_codecs.proofs.byte_parts.reversed_parts.Given as goal

-- the bytes that come to the places up to here
abbrev pub invariant-loop-i : goal.invariant-loop-i
invariant-loop-i l = l.reversed.items ≡ map (λ i. get_or l.bytes (mirrored l.size i) 0) (range_with_len 0 l.i)
