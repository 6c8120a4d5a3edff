use Rattle.std.proofs.Common.{◌≡◌, ◌∙◌, ℕ, ◌+◌, ◌++◌, [], ◌∷◌, ap, sym, refl}
use Rattle.std.proofs.lemmas.List.{map-id, append_assoc}
use Rattle.std.proofs.lemmas.List.FromFn.{map-range_with_len_more}
use Rattle.std.specs.List.{range_with_len}
use Rattle.parts_subsets.proofs.runs.push_run.Goals as goal

pub loop-i-preserved : goal.loop-i-preserved
loop-i-preserved c =
    let first = c.args.first in
    let i = c.loop-i.i in
    let old = c.args.numbers.now.items in
    let next = (first + i) ∷ [] in
    let range : range_with_len first (i + 1) ≡ range_with_len first i ++ next =
    sym (map-id (range_with_len first (i + 1))) ∙ map-range_with_len_more (λ (j : ℕ). j) first i (first + i) refl ∙ ap (λ xs. xs ++ next) (map-id (range_with_len first i)) in
    c.in_ok-push.ensures.items ∙ (ap (λ xs. xs ++ next) c.loop-i.invariant ∙ (append_assoc old (range_with_len first i) next ∙ ap (λ xs. old ++ xs) (sym range)))
