use Rattle.std.proofs.Common.{◌≡◌, ◌∙◌, inl, inr, get_or, set, sym, ap, arith}
use Rattle.std.proofs.lemmas.Bool.{cases_eq}
use Rattle.std.proofs.lemmas.List.{length-set, get_or-set_same, get_or-set_other}
use Rattle.sharding_c.specs.Layouts.{number_at, number_as}
use Rattle.sharding_c.proofs.index.read_numbers.Goals as goal

pub loop-i-preserved : goal.loop-i-preserved
loop-i-preserved c =
    let xs = c.loop-i.numbers in
    let i = c.loop-i.i in
    let flags = c.args.flags in
    let bytes = c.args.bytes.now in
    let written : c.number_in.result ≡ number_at flags bytes i = c.number_in.ensures ∙ ap (λ big. number_as big bytes i) c.has-is_big.ensures in
    record {
      same_length = length-set xs i c.number_in.result ∙ c.loop-i.invariant.same_length;
      read = λ k lt. elim (cases_eq k i) [
        | inl e ↦ ap (λ n. get_or (set xs i c.number_in.result) n 0) e ∙ (get_or-set_same xs i c.number_in.result 0 (omega (arith, c.loop-i-test.true, c.loop-i.invariant.same_length)) ∙ (written ∙ ap (number_at flags bytes) (sym e)))
        | inr other ↦ get_or-set_other xs i k c.number_in.result 0 other ∙ c.loop-i.invariant.read k (omega (arith, lt, other))
      ];
    }
