use Rattle.std.proofs.Common.{eqb, eq-eqb, get_or, length, sym, arith}
use Rattle.std.proofs.lemmas.List.Sums.{position_or_len_is}
use Rattle.array_codecs.proofs.axis_order.place_of.Goals as goal

pub returns-then-order-place : goal.returns-then-order-place
returns-then-order-place c =
    let order = c.args.order.now in
    sym (position_or_len_is (λ other. eqb other c.args.axis) order c.loop-place.place 0 (omega arith)
    (λ k lt. c.loop-place.invariant k lt) (λ lt. eq-eqb (get_or order c.loop-place.place 0) c.args.axis c.if-order-place.true))

pub returns : goal.returns
returns c =
    let order = c.args.order.now in
    sym (position_or_len_is (λ other. eqb other c.args.axis) order (length order) 0 (omega arith)
    (λ k lt. c.loop-place.invariant k (omega (arith, lt))) (λ lt. absurd (omega arith)))
