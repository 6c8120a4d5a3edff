use Rattle.std.proofs.Common.{◌≡◌, length, map, get_or, None}
use Rattle.std.specs.List.{range_with_len}
use Rattle.parts_arrays.specs.Arrays.{AreOffsets, parts, chosen}
use Rattle.parts_arrays.proofs.array_bytes.update.update_variable.Given as goal

abbrev pub invariant-loop-i : goal.invariant-loop-i
invariant-loop-i l = record {
  are_offsets : AreOffsets l.ends.items (length l.taken.items);
  so_far : parts l.ends.items l.taken.items ≡ map (λ k. chosen l.bytes l.offsets l.update l.update_offsets (get_or l.made.items k None) k) (range_with_len 0 l.i);
}
