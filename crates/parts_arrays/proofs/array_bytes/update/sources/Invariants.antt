use Rattle.std.proofs.Common.{◌≡◌, ℕ, ◌<◌, length, get_or, Some, None}
use Rattle.parts_row_major.specs.Numbering.{count_of}
use Rattle.parts_row_major.specs.Subsets.{number_in}
use Rattle.parts_row_major.specs.Pieces.{IsUpdated}
use Rattle.parts_arrays.proofs.array_bytes.update.sources.Given as goal

abbrev pub invariant-loop-position : goal.invariant-loop-position
invariant-loop-position l = record {
  whole : length l.made.items ≡ count_of l.shape;
  below : (i k : ℕ) → get_or l.made.items i None ≡ Some k → k < l.position;
  so_far : IsUpdated l.position (number_in l.subset l.shape) (λ i. None) (λ k. Some k) (λ i. get_or l.made.items i None);
}
