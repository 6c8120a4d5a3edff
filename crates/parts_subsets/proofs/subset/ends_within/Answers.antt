use Rattle.std.proofs.Common.{◌+◌, ◌^◌, ◌<◌, arith, refl}
use Rattle.std.proofs.lemmas.Bool.{false≢true}
use Rattle.std.proofs.lemmas.List.Elements.{length_all_zip, AllZip-get_or}
use Rattle.parts_row_major.proofs.SubsetLaws.{lies_in_length, lies_in_at, lies_in_from_each}
use Rattle.parts_subsets.proofs.subset.ends_within.Goals as goal

pub returns-then-start-shape : goal.returns-then-start-shape
returns-then-start-shape c =
    let same = length_all_zip (λ first len. first + len < 2 ^ 64) c.args.start.now c.args.len.now c.requires in
    (λ e. absurd (false≢true e), λ h. absurd (c.if-start-shape.true (lies_in_length c.args.start.now c.args.len.now c.args.shape.now same h)))

pub loop-axis-init : goal.loop-axis-init
loop-axis-init c = record {
  same_axes = length_all_zip (λ first len. first + len < 2 ^ 64) c.args.start.now c.args.len.now c.requires;
  same_length = c.if-start-shape.false;
  so_far = λ k lt. absurd (omega arith);
}

pub overflow_add-start : goal.overflow_add-start
overflow_add-start c =
    let fits = AllZip-get_or (λ first len. first + len < 2 ^ 64) c.args.start.now c.args.len.now c.loop-axis.axis 0 0 c.requires (omega arith) in
    omega arith

pub returns-then-start-axis : goal.returns-then-start-axis
returns-then-start-axis c = (
  λ e. absurd (false≢true e),
  λ h. absurd
      (omega (arith, lies_in_at c.args.start.now c.args.len.now c.args.shape.now c.loop-axis.axis c.loop-axis.invariant.same_axes h (omega arith))),
)

pub returns : goal.returns
returns c =
    let known = c.loop-axis.invariant in
    (λ _. lies_in_from_each c.args.start.now c.args.len.now c.args.shape.now known.same_axes known.same_length (λ k lt. known.so_far k (omega arith)), λ _. refl)
