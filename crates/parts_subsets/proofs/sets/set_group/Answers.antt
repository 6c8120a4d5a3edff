use Rattle.std.proofs.Common.{◌≡◌, ◌+◌, ◌-◌, ◌<◌, ◌^◌, sym, ◌∙◌, arith, refl, length, drop}
use Rattle.std.proofs.lemmas.List.{drop_all}
use Rattle.std.proofs.lemmas.List.Elements.{length_all_zip}
use Rattle.parts_row_major.specs.Numbering.{count_of}
use Rattle.parts_row_major.proofs.SubsetLaws.{lies_in_length}
use Rattle.parts_row_major.proofs.CountLaws.{subset_count_le}
use Rattle.parts_row_major.proofs.NumberingLaws.{positive_product}
use Rattle.parts_row_major.proofs.PieceLaws.{number_in_below}
use Rattle.parts_row_major.proofs.RunLaws.{tail_step}
use Rattle.parts_subsets.proofs.SetLaws.{tail_more, one_each, along_axis}
use Rattle.parts_subsets.proofs.sets.set_group.Goals as goal
use Rattle.parts_subsets.proofs.sets.set_group.Goals.{After-shape-len, In-loop-axis}

-- as many axes stand for the subset's start as for its lengths, and for the array
axes : (c : After-shape-len) → (length c.args.subset.now.start ≡ length c.args.subset.now.shape) × (length c.args.subset.now.shape ≡ length c.args.shape.now)
axes c =
    let subset = c.args.subset.now in
    let same = length_all_zip (λ first len. first + len < 2 ^ 64) subset.start subset.shape c.shape-len.ensures.well_formed in
    (same, sym same ∙ lies_in_length subset.start subset.shape c.args.shape.now same c.requires.served.0)

-- more than one set has points
points : (c : In-loop-axis) → 0 < count_of c.args.subset.now.shape
points c =
    let some = positive_product c.args.sets c.args.each (omega arith) c.requires.some in
    omega (arith, some, c.requires.whole)

pub loop-axis-init : goal.loop-axis-init
loop-axis-init c =
    let same : length c.shape-len.result.now ≡ length c.args.shape.now = rw c.shape-len.ensures.value (axes (goal.at.loop-axis-init c).After-shape-len).1 in
    record {
      same_axes = same;
      covered_is = rw (drop_all (length c.args.shape.now) c.shape-len.result.now (omega arith)) refl;
      stride_is = rw (drop_all (length c.args.shape.now) c.args.shape.now (omega arith)) refl;
    }

pub returns-then-len-axis-ne1-clause-group : goal.returns-then-len-axis-ne1-clause-group
returns-then-len-axis-ne1-clause-group c =
    let known = c.loop-axis.invariant in
    let subset = c.args.subset.now in
    let shape = c.args.shape.now in
    let value = c.shape-len.ensures.value in
    let same = axes (goal.at.returns-then-len-axis-ne1-clause-group c).After-shape-len in
    let covered : c.args.each ≡ count_of (drop c.loop-axis.axis subset.shape) = rw value at (sym c.if-covered-each.true ∙ known.covered_is) in
    rw value (along_axis subset shape (c.loop-axis.axis - 1) c.loop-axis.axis c.args.each c.loop-axis.stride c.args.sets same.0 c.requires.served.0 (points (goal.at.returns-then-len-axis-ne1-clause-group c).In-loop-axis)
    (omega arith) (omega (arith, same.1)) covered known.stride_is c.requires.whole)

pub overflow_mul-covered : goal.overflow_mul-covered
overflow_mul-covered c =
    let known = c.loop-axis.invariant in
    let subset = c.args.subset.now in
    let some : 0 < count_of c.shape-len.result.now = rw c.shape-len.ensures.value (points (goal.at.overflow_mul-covered c).In-loop-axis) in
    let fits : count_of c.shape-len.result.now < 2 ^ 64 =
    rw c.shape-len.ensures.value (let le = subset_count_le subset.start subset.shape c.args.shape.now (axes (goal.at.overflow_mul-covered c).After-shape-len).0 c.requires.served.0 in omega (arith, le, c.requires.served.1)) in
    let le = tail_step c.shape-len.result.now (c.loop-axis.axis - 1) c.loop-axis.axis c.loop-axis.covered (omega (arith, known.same_axes)) (omega arith) known.covered_is some in
    omega (arith, le, fits)

pub overflow_mul-stride : goal.overflow_mul-stride
overflow_mul-stride c =
    let known = c.loop-axis.invariant in
    let first = number_in_below c.args.subset.now c.args.shape.now 0 c.requires.served.0 (points (goal.at.overflow_mul-stride c).In-loop-axis) in
    let le = tail_step c.args.shape.now (c.loop-axis.axis - 1) c.loop-axis.axis c.loop-axis.stride (omega arith) (omega arith) known.stride_is (omega (arith, first)) in
    omega (arith, le, c.requires.served.1)

pub loop-axis-preserved : goal.loop-axis-preserved
loop-axis-preserved c =
    let known = c.loop-axis.invariant in
    record {
      same_axes = known.same_axes;
      covered_is = tail_more c.shape-len.result.now (c.loop-axis.axis - 1) c.loop-axis.axis c.loop-axis.covered (omega (arith, known.same_axes)) (omega arith) known.covered_is;
      stride_is = tail_more c.args.shape.now (c.loop-axis.axis - 1) c.loop-axis.axis c.loop-axis.stride (omega arith) (omega arith) known.stride_is;
    }

pub returns-then-sets-le1-clause-group : goal.returns-then-sets-le1-clause-group
returns-then-sets-le1-clause-group c = one_each _ 0 c.args.sets

pub returns-clause-group : goal.returns-clause-group
returns-clause-group c = one_each _ 0 c.args.sets
