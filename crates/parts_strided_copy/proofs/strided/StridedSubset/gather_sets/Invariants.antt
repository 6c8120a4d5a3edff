use Rattle.std.proofs.Common.{◌≡◌, ◌+◌, ◌*◌, ◌<◌, ℕ, length}
use Rattle.parts_row_major.specs.Subsets.{number_in}
use Rattle.parts_row_major.specs.Pieces.{piece}
use Rattle.parts_strided_copy.proofs.strided.StridedSubset.gather_sets.Given as goal

abbrev pub invariant-loop-q : goal.invariant-loop-q
invariant-loop-q g l = record {
  whole : length l.part ≡ length l.initial.part;
  so_far : (k : ℕ) → k < l.q * (l.set.rows * l.set.run) → piece l.size l.part k ≡ piece l.size l.bytes (l.moved + number_in l.self.subset l.self.around k);
  walk : l.starts ≡ record { subset = l.self.subset; around = l.self.around; each = l.set.rows * l.set.run; sets = l.set.sets; passed = l.q };
}
