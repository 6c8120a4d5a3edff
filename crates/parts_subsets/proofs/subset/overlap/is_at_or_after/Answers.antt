use Rattle.std.proofs.Common.{◌≤◌, arith, refl}
use Rattle.std.proofs.lemmas.Bool.{false≢true}
use Rattle.std.proofs.lemmas.List.Elements.{AllZip-get_or}
use Rattle.parts_row_major.proofs.SubsetLaws.{all_zip_from_each}
use Rattle.parts_subsets.proofs.subset.overlap.is_at_or_after.Goals as goal

pub returns-then-start-axis : goal.returns-then-start-axis
returns-then-start-axis c = (
  λ e. absurd (false≢true e),
  λ h. absurd (omega (arith, AllZip-get_or ◌≤◌ c.args.origin.now c.args.start.now c.loop-axis.axis 0 0 h (omega arith))),
)

pub returns : goal.returns
returns c = (λ _. all_zip_from_each ◌≤◌ c.args.origin.now c.args.start.now (omega arith) (λ k lt. c.loop-axis.invariant k (omega arith)), λ _. refl)
