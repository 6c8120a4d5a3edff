use Rattle.std.proofs.Common.{ℕ, List, ◌+◌, ◌*◌, ◌++◌, ◌∷◌, [], map, ap, sym, ◌∙◌, arith}
use Rattle.std.proofs.lemmas.List.{append_assoc}
use Rattle.std.proofs.lemmas.List.FromFn.{map-range_with_len_more}
use Rattle.std.specs.List.{range_with_len}
use Rattle.parts_arrays.specs.Arrays.{element_of}
use Rattle.array_codecs.proofs.moved_rows.push_elements.Goals as goal

pub loop-k-preserved : goal.loop-k-preserved
loop-k-preserved c =
    let known = c.loop-k.invariant in
    let old = c.args.moved.now.elements in
    let f : ℕ → List ℕ = λ k. element_of c.args.inner.now (c.args.first + k * c.args.step) in
    record {
      kind = c.push.ensures.kind ∙ known.kind;
      elements =
          c.in_ok-push.ensures.ok
          ∙ (ap (λ ys. ys ++ c.element.result.now ∷ []) known.elements
          ∙ (ap (λ y. (old ++ map f (range_with_len 0 c.loop-k.k)) ++ y ∷ []) c.element.ensures
          ∙ (append_assoc old (map f (range_with_len 0 c.loop-k.k)) (f c.loop-k.k ∷ [])
          ∙ ap (λ ys. old ++ ys) (sym (map-range_with_len_more f 0 c.loop-k.k c.loop-k.k (omega arith))))));
    }
