use Rattle.std.proofs.Common.{◌≡◌, ◌++◌, map, Ok}
use Rattle.std.specs.Vec.Iter.{into_iter_items}
use Rattle.sharding_workers.proofs.numbered.in_order.Given as goal

abbrev pub invariant-loop-result : goal.invariant-loop-result
invariant-loop-result g l =
    (goal.iterator-loop-result g).can_next l.result-iterator ×
    (goal.iterator-loop-result g).is_finite l.result-iterator ×
    (l.yielded ≡ map Ok l.taken.items) ×
    (l.yielded ++ into_iter_items l.result-iterator ≡ l.fn.results.items)
