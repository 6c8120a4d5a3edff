use Rattle.std.proofs.Common.{◌++◌, ◌∷◌, ◌∙◌, sym, ap, inr}
use Rattle.std.specs.Vec.Iter.{into_iter_items}
use Rattle.codec_traits.specs.RefusalLaws.{passed_on}
use Rattle.sharding_workers.proofs.numbered.in_order.Goals as goal

pub returns-in_err-result-clause-refused : goal.returns-in_err-result-clause-refused
returns-in_err-result-clause-refused g c =
    let so_far = c.loop-result.invariant.2 in
    let all = c.loop-result.invariant.3 in
    let rest = into_iter_items c.next.new.self in
    let e = c.in_err-result.field-0.0 in
    let here = c.in-Some.ensures.steps.0 ∙ ap (λ r. r ∷ rest) c.in_err-result.was in
    passed_on _ e _ c.from_residual-in_err-result.ensures.1 (inr (record {
      before = c.loop-result.taken.items;
      after = rest;
      are = sym all ∙ (λ i. so_far i ++ here i);
    }))
