use Rattle.std.proofs.Common.{◌≡◌, ◌<◌, ◌≤◌, ◌-◌, ◌*◌, ◌%◌, ◌^◌, ℕ, get_or, subst, arith}
use Rattle.std.proofs.lemmas.Nat.{one_shl}
use Rattle.sharding_layout.specs.steps.Reached.{AreReached}
use Rattle.sharding_layout.proofs.ReachLemmas.{axis_step_of, next_bit}
use Rattle.sharding_layout.proofs.morton.add_bit.Goals as goal
use Rattle.sharding_layout.proofs.morton.add_bit.Goals.{then-step-length+in_ok-add_moved, else-step-length}

-- less than one number and no more than another
small_product : (step stride len whole : ℕ) → step < len → stride * len ≡ whole → step * stride ≤ whole
small_product step stride len whole less is = grind arith

pub add_moved-requires : goal.add_moved-requires
add_moved-requires c =
    let a = c.args in
    let l = c.loop-axis in
    let step = axis_step_of a.grid.now a.bit l.axis (1 * 2 ^ a.bit % 2 ^ 64) l.stride l.numbers.items (λ i below. c.requires.positive i 0 below) c.requires.fits c.requires.bit
    c.loop-axis-test.true l.auto.axis (one_shl a.bit 64 c.requires.bit) l.invariant.stride_is l.invariant.reached in
    record {
      some = step.some;
      room = c.if-step-length.true;
      near = step.near;
      fits = step.fits;
      whole = omega (arith, step.more_fits, small_product (1 * 2 ^ a.bit % 2 ^ 64) l.stride (get_or a.grid.now (l.axis - 1) 0) (l.stride * get_or a.grid.now (l.axis - 1) 0) c.if-step-length.true (omega arith));
    }

pub overflow_mul-stride : goal.overflow_mul-stride
overflow_mul-stride c =
    let a = c.args in
    let l = c.loop-axis in
    omega (
      arith,
      (axis_step_of a.grid.now a.bit l.axis (1 * 2 ^ a.bit % 2 ^ 64) l.stride l.numbers.items (λ i below. c.requires.positive i 0 below) c.requires.fits c.requires.bit
          c.loop-axis-test.true l.auto.axis (one_shl a.bit 64 c.requires.bit) l.invariant.stride_is l.invariant.reached).more_fits,
    )

pub loop-axis-preserved : goal.loop-axis-preserved
loop-axis-preserved c =
    let a = c.args in
    let l = c.loop-axis in
    let step = axis_step_of a.grid.now a.bit l.axis (1 * 2 ^ a.bit % 2 ^ 64) l.stride l.numbers.items (λ i below. c.requires.positive i 0 below) c.requires.fits c.requires.bit
    c.loop-axis-test.true l.auto.axis (one_shl a.bit 64 c.requires.bit) l.invariant.stride_is l.invariant.reached in
    record {
      stride_is = step.more;
      reached = elim c.if-step-length.branch [
        | then-step-length+in_ok-add_moved w ↦ rw w.numbers-is (rw w.in_ok-add_moved.ensures step.added)
        | else-step-length w ↦ rw w.numbers-is (step.none w.if-step-length.false)
      ];
    }

pub returns : goal.returns
returns c =
    let first : c.loop-axis.axis ≡ 0 = omega (arith, c.loop-axis-test.false) in
    next_bit c.args.grid.now c.args.bit c.loop-axis.numbers.items (subst (λ n. AreReached c.args.grid.now c.args.bit n c.loop-axis.numbers.items) first c.loop-axis.invariant.reached)
