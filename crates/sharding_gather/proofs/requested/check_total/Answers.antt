use Rattle.std.proofs.Common.{ℕ, ◌+◌, refl, length, arith, ap}
use Rattle.sharding_gather.specs.steps.Gathering.{element_read}
use Rattle.sharding_format.proofs.LayingLemmas.{sum_more, sum_grows_to}
use Rattle.sharding_gather.proofs.requested.check_total.Goals as goal

pub returns-in_default-clause-refused : goal.returns-in_default-clause-refused
returns-in_default-clause-refused c =
    let a = c.args in
    let size : ℕ → ℕ = λ i. length (element_read a.groups.now a.parts.now a.fill.now i) in
    let k = c.in_default.ensures in
    (refl, omega (arith, sum_more size c.loop-i.i, ap length c.requested_element-element.ensures.element, sum_grows_to size (c.loop-i.i + 1) (length a.groups.now.standings.items) (omega arith)))

pub loop-i-preserved : goal.loop-i-preserved
loop-i-preserved c =
    let a = c.args in
    let size : ℕ → ℕ = λ i. length (element_read a.groups.now a.parts.now a.fill.now i) in
    let k = c.in-Some.ensures in
    record {
      total = omega (arith, sum_more size c.loop-i.i, ap length c.requested_element-element.ensures.element);
      fits = omega arith;
    }
