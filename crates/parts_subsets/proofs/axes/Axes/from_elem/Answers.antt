use Rattle.std.proofs.Common.{[], replicate, refl, arith}
use Rattle.std.proofs.lemmas.List.{take-replicate}
use Rattle.parts_subsets.proofs.axes.Axes.from_elem.Goals as goal
use Rattle.parts_subsets.proofs.AxesLemmas.{held_within}

pub returns : goal.returns
returns c = rw (c.new-many.ensures.items, held_within (replicate 4 c.args.number) c.args.len [] refl) (take-replicate c.args.len 4 c.args.number (omega (arith, c.if-len-gt4.false)))
