use Rattle.std.proofs.Common.{◌*◌, ◌∷◌, ◌++◌, [], ◌∙◌, ap, sym, arith}
use Rattle.std.proofs.lemmas.List.FromFn.{map-range_with_len_more}
use Rattle.parts_arrays.proofs.array_bytes.fill.even_offsets.Goals as goal

pub loop-i-preserved : goal.loop-i-preserved
loop-i-preserved c =
    c.in_ok-push.ensures.items
    ∙ (ap (λ offsets. offsets ++ c.loop-i.i * c.args.size ∷ []) c.loop-i.invariant
    ∙ sym (map-range_with_len_more (λ k. k * c.args.size) 0 c.loop-i.i c.loop-i.i (omega arith)))
