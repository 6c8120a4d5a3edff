-- Bytes in parts, each of which stands in reverse.
use Rattle.std.specs.Prelude.{ℕ, ◌+◌, ◌-◌, ◌%◌, List, length, map, slice_index}
use Rattle.std.specs.List.{range_with_len}

-- where the byte stands that comes to a place: as far from the other end of its part
abbrev pub mirrored : ℕ → ℕ → ℕ
mirrored size i = i - i % size + (size - 1 - i % size)

-- bytes in parts of a size, each in reverse
abbrev pub parts_reversed : ℕ → List ℕ → List ℕ
parts_reversed size bytes = map (λ i. slice_index bytes (mirrored size i)) (range_with_len 0 (length bytes))
