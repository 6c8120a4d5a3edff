use Rattle.std.proofs.Common.{◌≡◌, ◌*◌, length}
use Rattle.parts_row_major.specs.Subsets.{number_in}
use Rattle.parts_row_major.specs.Pieces.{piece, IsUpdated}
use Rattle.parts_strided_copy.proofs.subsets.copy_subset.Given as goal

abbrev pub invariant-loop-q : goal.invariant-loop-q
invariant-loop-q l = record {
  whole : length l.output ≡ length l.initial.output;
  so_far : IsUpdated (l.q * (l.set.rows * l.set.run)) (number_in l.into l.shape) (piece l.size l.initial.output)
      (λ k. piece l.size l.update (number_in l.from l.other k)) (piece l.size l.output);
  walk : l.starts ≡ record { subset = l.into; around = l.shape; each = l.set.rows * l.set.run; sets = l.set.sets; passed = l.q };
  other_walk : l.others ≡ record { subset = l.from; around = l.other; each = l.set.rows * l.set.run; sets = l.set.sets; passed = l.q };
}
