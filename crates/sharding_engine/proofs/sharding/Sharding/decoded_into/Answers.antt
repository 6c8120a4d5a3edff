use Rattle.std.proofs.Common.{◌≡◌, rules, subst}
use Rattle.std.proofs.lemmas.Result.{on_ok_weaker}
use Rattle.parts_arrays.specs.Arrays.{element_of}
use Rattle.parts_arrays.specs.declared.target.FixedTarget.{FixedTarget}
use Rattle.parts_arrays.specs.Targets.{IsWritten}
use Rattle.sharding_engine.proofs.sharding.Sharding.decoded_into.Goals as goal

pub returns-clause-cells : goal.returns-clause-cells
returns-clause-cells g c =
    let array = c.in_ok-array.array in
    let new = c.copy_from.new.self in
    let kept : c.copied_into.new.target ≡ c.args.target.now = search rules in
    on_ok_weaker c.copy_from.result
    (λ wrote. record {
      elements = array.elements;
      there = c.in_ok-array.ensures.cells;
      written = subst (λ (old : FixedTarget). IsWritten old new (element_of array)) kept wrote;
    })
    c.copy_from.ensures.written
