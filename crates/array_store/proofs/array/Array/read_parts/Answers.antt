use Rattle.std.proofs.Common.{◌∙◌, refl, arith}
use Rattle.array_store.proofs.ReadLemmas.{read_more}
use Rattle.array_store.proofs.array.Array.read_parts.Goals as goal

pub loop-number-init : goal.loop-number-init
loop-number-init g c = record {
  same_size = refl;
  same_shape = refl;
  read = λ t touched are counted i q lt. absurd (omega (arith, lt));
}

pub loop-number-preserved : goal.loop-number-preserved
loop-number-preserved g c = record {
  same_size = c.in_ok-read_numbered.ensures.same_size ∙ c.loop-number.invariant.same_size;
  same_shape = c.in_ok-read_numbered.ensures.same_shape ∙ c.loop-number.invariant.same_shape;
  read = λ t touched are counted.
      let one = rw c.loop-number.invariant.same_size at (c.in_ok-read_numbered.ensures.read t touched are) in
      read_more _ _ _ touched are.rising c.loop-number.number _ _ (omega (arith, counted, c.loop-number-test.true, c.len-number-end.ensures))
      (c.loop-number.invariant.read t touched are counted) one;
}

pub returns-clause-read : goal.returns-clause-read
returns-clause-read g c = λ t touched are counted i q lt.
    c.loop-number.invariant.read t touched are counted i q (omega (arith, lt, c.loop-number-test.false, c.loop-number.auto.number-end, c.len-number-end.ensures))
