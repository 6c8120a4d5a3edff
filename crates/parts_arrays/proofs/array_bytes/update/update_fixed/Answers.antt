use Rattle.std.proofs.Common.{◌≡◌, ◌∙◌, ap, arith, length}
use Rattle.parts_arrays.proofs.ArrayLaws.{overlaid_array}
use Rattle.parts_errors.proofs.ListLaws.{whole_after}
use Rattle.parts_arrays.proofs.array_bytes.update.update_fixed.Goals as goal

pub returns : goal.returns
returns c =
    let same = c.in_ok-output.ensures.items in
    let items = c.in_ok-output.output.items in
    let long : length c.scatter.new.output ≡ length items = omega (arith, c.scatter.auto.output, ap length c.deref_mut.ensures.value) in
    let after = whole_after c.in_ok-output.output.len c.scatter.new.output items long (omega (arith, c.in_ok-output.output.ok.0)) in
    rw after
    (overlaid_array c.args.size c.args.bytes.now c.args.update.now c.scatter.new.output c.args.subset.now c.args.shape.now
    c.requires.whole c.requires.whole_update (long ∙ ap length same) (rw (c.deref_mut.ensures.value, same) at c.scatter.ensures))
