use Rattle.std.proofs.Common.{◌-◌, ◌∙◌, length, drop, sym, arith}
use Rattle.std.proofs.lemmas.List.{take_all, length-drop}
use Rattle.parts_subsets.proofs.grid.subchunks_follow.Goals as goal

pub returns : goal.returns
returns c = λ same.
    let shape = c.args.shape.now in
    let sub = c.args.sub.now in (
      omega arith,
      sym (take_all (length shape - 1) (drop 1 shape) (omega (arith, length-drop 1 shape)))
          ∙ (c.are_same.ensures.0 same ∙ take_all (length sub - 1) (drop 1 sub) (omega (arith, length-drop 1 sub))),
    )
