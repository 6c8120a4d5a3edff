use Rattle.std.proofs.Common.{◌≡◌, ℕ, zero, suc, ◌+◌, ◌^◌, ◌<◌, get_or, inl, inr, refl, arith}
use Rattle.std.proofs.lemmas.Bool.{cases_lt}
use Rattle.std.proofs.lemmas.List.Elements.{length_all_zip, AllZip-get_or}
use Rattle.parts_subsets.proofs.subset.touched.is_in_one.Goals as goal

pub bounds-sub-axis : goal.bounds-sub-axis
bounds-sub-axis c = omega (arith, c.requires.axes)

pub bounds-len-axis : goal.bounds-len-axis
bounds-len-axis c =
    omega (arith, length_all_zip (λ first len. first + len < 2 ^ 64) c.args.start.now c.args.len.now c.requires.well_formed)

pub touched_along-requires-clause-some : goal.touched_along-requires-clause-some
touched_along-requires-clause-some c = c.requires.sub c.loop-axis.axis 0 (omega (arith, c.requires.axes))

pub touched_along-requires-clause-fits : goal.touched_along-requires-clause-fits
touched_along-requires-clause-fits c =
    let fits = AllZip-get_or (λ first len. first + len < 2 ^ 64) c.args.start.now c.args.len.now c.loop-axis.axis 0 0 c.requires.well_formed (omega arith) in
    omega (arith, fits)

-- what gives one part has a number
some_along : (len parts : ℕ) → (len ≡ 0 → parts ≡ 0) → parts ≡ 1 → 0 < len
some_along zero parts none one = absurd (omega (arith, none refl, one))
some_along (suc len) parts none one = omega arith

pub loop-axis-preserved : goal.loop-axis-preserved
loop-axis-preserved c = λ k lt.
    elim (cases_lt k c.loop-axis.axis) [
      | inl before ↦ c.loop-axis.invariant k before
      | inr after ↦
          let this : c.loop-axis.axis ≡ k = omega arith in
          let some = some_along (get_or c.args.len.now c.loop-axis.axis 0) c.touched_along.result c.touched_along.ensures.none c.if-touched_along-ne1.false in
          let ends = c.touched_along.ensures.ends some in
          rw (← this) (some, omega (arith, ends, c.if-touched_along-ne1.false))
    ]
