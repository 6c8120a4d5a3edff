use Rattle.std.proofs.Common.{◌≡◌, ◌++◌, ◌∷◌, [], ℕ, map, replicate, arith, ap, sym, ◌∙◌}
use Rattle.std.proofs.lemmas.List.{append_assoc}
use Rattle.std.proofs.lemmas.List.FromFn.{map-range_with_len_more}
use Rattle.std.specs.List.{range_with_len}
use Rattle.parts_arrays.proofs.FillLaws.{map_const-range_with_len}
use Rattle.sharding_gather.proofs.gathering.push_filled.Goals as goal

pub loop-i-preserved : goal.loop-i-preserved
loop-i-preserved c =
    let known = c.loop-i.invariant in
    let old = c.args.elements.now.elements in
    let f = λ (k : ℕ). c.args.fill.now in
    record {
      kind = c.push.ensures.kind ∙ known.kind;
      elements =
          c.in_ok-push.ensures.ok
          ∙ (ap (λ ys. ys ++ c.args.fill.now ∷ []) known.elements
          ∙ (append_assoc old (map f (range_with_len 0 c.loop-i.i)) (c.args.fill.now ∷ [])
          ∙ ap (λ ys. old ++ ys) (sym (map-range_with_len_more f 0 c.loop-i.i c.loop-i.i (omega arith)))));
    }

pub returns-clause-ok : goal.returns-clause-ok
returns-clause-ok c =
    let all : c.loop-i.i ≡ c.args.count = omega (arith, c.loop-i.auto.i-end, c.loop-i-test.false) in
    c.loop-i.invariant.elements
    ∙ ap (λ ys. c.args.elements.now.elements ++ ys) (map_const-range_with_len c.args.fill.now 0 c.loop-i.i ∙ ap (λ n. replicate n c.args.fill.now) all)
