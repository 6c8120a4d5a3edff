use Rattle.std.proofs.Common.{refl, arith}
use Rattle.array_grid.proofs.PickLemmas.{lies_on_at, picked_more, on_more, all_zipped}
use Rattle.array_grid.proofs.picking.each_picked_of.Goals as goal

pub returns-in_default : goal.returns-in_default
returns-in_default c = λ all. c.in_default.ensures (lies_on_at c.args.words.now c.args.shape.now c.loop-axis.axis _ c.requires (omega arith) all)

pub loop-axis-preserved : goal.loop-axis-preserved
loop-axis-preserved c =
    let value = c.in-Some.ensures in
    let before = c.loop-axis.invariant in
    record {
      picked = picked_more c.args.words.now c.args.shape.now c.loop-axis.axis _ _ _ _ _ c.requires (omega arith) refl refl before.picked (rw value.1 at c.in_ok-push.ensures.items);
      on = on_more c.args.words.now c.args.shape.now c.loop-axis.axis _ _ _ c.requires (omega arith) refl refl before.on value.0;
    }

pub returns : goal.returns
returns c =
    let whole = all_zipped c.args.words.now c.args.shape.now c.loop-axis.axis c.requires (omega arith) in
    let known = c.loop-axis.invariant in
    (rw whole at known.on, rw whole at known.picked)
