use Rattle.std.proofs.Common.{◌≡◌, ◌+◌, ◌*◌, length}
use Rattle.parts_row_major.specs.Subsets.{number_in}
use Rattle.parts_row_major.specs.Pieces.{piece, IsUpdated}
use Rattle.parts_strided_copy.proofs.strided.StridedSubset.scatter_sets.Given as goal

abbrev pub invariant-loop-q : goal.invariant-loop-q
invariant-loop-q g l = record {
  whole : length l.output ≡ length l.initial.output;
  so_far : IsUpdated (l.q * (l.set.rows * l.set.run)) (λ k. l.moved + number_in l.self.subset l.self.around k) (piece l.size l.initial.output) (piece l.size l.update) (piece l.size l.output);
  walk : l.starts ≡ record { subset = l.self.subset; around = l.self.around; each = l.set.rows * l.set.run; sets = l.set.sets; passed = l.q };
}
