use Rattle.std.proofs.Common.{◌+◌, ◌++◌, ◌∷◌, [], map, refl, ap, sym, ◌∙◌}
use Rattle.std.proofs.lemmas.List.{append_assoc}
use Rattle.std.proofs.lemmas.List.FromFn.{map-range_with_len_more}
use Rattle.std.specs.List.{range_with_len}
use Rattle.parts_arrays.specs.Arrays.{element_of}
use Rattle.parts_arrays.proofs.array_bytes.builder.ArrayBuilder.push_each.Goals as goal

pub loop-i-preserved : goal.loop-i-preserved
loop-i-preserved c =
    let known = c.loop-i.invariant in
    let old = c.args.self.now.elements in
    let f = element_of c.args.from.now in
    record {
      kind = c.push.ensures.kind ∙ known.kind;
      elements =
          c.in_ok-push.ensures.ok
          ∙ (ap (λ ys. ys ++ c.element.result.now ∷ []) known.elements
          ∙ (ap (λ y. old ++ map f (range_with_len c.args.first c.loop-i.i) ++ y ∷ []) c.element.ensures
          ∙ (append_assoc old (map f (range_with_len c.args.first c.loop-i.i)) (f (c.args.first + c.loop-i.i) ∷ [])
          ∙ ap (λ ys. old ++ ys) (sym (map-range_with_len_more f c.args.first c.loop-i.i (c.args.first + c.loop-i.i) refl)))));
    }
