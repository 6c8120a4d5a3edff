use Rattle.std.proofs.Common.{◌∙◌, ap, inl, inr, arith}
use Rattle.std.proofs.lemmas.Bool.{cases_lt}
use Rattle.sharding_gather.specs.steps.Sorting.{requested_at}
use Rattle.sharding_gather.proofs.sorted.run_length.Goals as goal

pub loop-i-init : goal.loop-i-init
loop-i-init c = record {
  from = omega arith;
  same = λ a lt. ap (λ n. (requested_at c.args.requested.now n).subchunk) (omega (arith, lt));
}

pub loop-i-preserved : goal.loop-i-preserved
loop-i-preserved c = record {
  from = omega arith;
  same = λ a lt. elim (cases_lt a c.loop-i.i) [
    | inl before ↦ c.loop-i.invariant.same a before
    | inr after ↦ ap (λ n. (requested_at c.args.requested.now n).subchunk) (omega (arith, lt, after)) ∙ c.if-requested-i.false
  ];
}
