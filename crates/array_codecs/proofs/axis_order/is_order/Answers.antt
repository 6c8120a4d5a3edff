use Rattle.std.proofs.Common.{◌∙◌, length, sym, ap, arith}
use Rattle.array_codecs.specs.AxisOrderLaws.{length-inverse_of}
use Rattle.array_codecs.proofs.AxisOrderSteps.{order_whole, order_broken}
use Rattle.array_codecs.proofs.axis_order.is_order.Goals as goal

pub are_undone-requires-clause-alike : goal.are_undone-requires-clause-alike
are_undone-requires-clause-alike c = ap length c.requires ∙ length-inverse_of c.args.order.now

pub returns : goal.returns
returns c = sym (order_whole c.args.order.now c.args.inverse.now c.requires (λ k lt. c.loop-place.invariant k (omega (arith, lt))))

pub returns-then-not-are_undone : goal.returns-then-not-are_undone
returns-then-not-are_undone c =
    sym (order_broken c.args.order.now c.args.inverse.now c.loop-place.place c.requires (omega arith) (sym c.are_undone.ensures ∙ c.if-not-are_undone.true))
