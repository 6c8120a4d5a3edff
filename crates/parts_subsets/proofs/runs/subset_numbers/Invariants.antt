use Rattle.std.proofs.Common.{◌≡◌, ◌+◌, ◌≤◌, ◌++◌, All}
use Rattle.parts_row_major.specs.Numbering.{count_of}
use Rattle.parts_row_major.specs.Subsets.{numbers_in}
use Rattle.parts_row_major.specs.Runs.{runs_end_to_end}
use Rattle.parts_subsets.proofs.runs.subset_numbers.Given as goal

abbrev pub invariant-loop-first : goal.invariant-loop-first
invariant-loop-first l = record {
  within : All (λ run. run.0 + run.1 ≤ count_of l.shape) l.first-iterator;
  so_far : l.numbers.items ++ runs_end_to_end l.first-iterator ≡ numbers_in l.subset l.shape;
}
