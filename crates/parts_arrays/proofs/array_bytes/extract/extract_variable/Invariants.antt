use Rattle.std.proofs.Common.{ℕ, length}
use Rattle.parts_arrays.specs.Arrays.{AreOffsets, part, parts}
use Rattle.parts_arrays.proofs.PartLaws.{AreTaken}
use Rattle.parts_arrays.proofs.array_bytes.extract.extract_variable.Given as goal

abbrev pub invariant-loop-first : goal.invariant-loop-first
invariant-loop-first l = record {
  are_offsets : AreOffsets l.ends.items (length l.taken.items);
  so_far : (done : ℕ) × AreTaken (part l.bytes l.offsets) l.subset l.shape done l.first-iterator (parts l.ends.items l.taken.items);
}
