use Rattle.std.proofs.Common.{ℕ, List, ◌+◌, ◌-◌, drop, length, ◌*◌, ◌++◌, ◌∷◌, [], map, ap, sym, ◌∙◌, arith}
use Rattle.std.proofs.lemmas.List.{append_assoc, length-drop, take_all}
use Rattle.std.proofs.lemmas.List.FromFn.{map-range_with_len_more}
use Rattle.std.specs.List.{range_with_len}
use Rattle.parts_row_major.specs.Pieces.{piece}
use Rattle.array_codecs.proofs.moved_rows.push_pieces.Goals as goal

pub loop-k-preserved : goal.loop-k-preserved
loop-k-preserved c =
    let known = c.loop-k.invariant in
    let old = c.args.moved.now.elements in
    let f : ℕ → List ℕ = λ k. piece c.args.size c.args.bytes.now (c.args.first + k * c.args.step) in
    let start = (c.args.first + c.loop-k.k * c.args.step) * c.args.size in
    let whole = take_all (length c.args.bytes.now - start) (drop start c.args.bytes.now) (omega (arith, length-drop start c.args.bytes.now)) in
    let pushed = rw whole at c.in_ok-push_first.ensures.ok in
    record {
      kind = c.push_first.ensures.kind ∙ known.kind;
      elements =
          pushed
          ∙ (ap (λ ys. ys ++ f c.loop-k.k ∷ []) known.elements
          ∙ (append_assoc old (map f (range_with_len 0 c.loop-k.k)) (f c.loop-k.k ∷ [])
          ∙ ap (λ ys. old ++ ys) (sym (map-range_with_len_more f 0 c.loop-k.k c.loop-k.k (omega arith)))));
    }
