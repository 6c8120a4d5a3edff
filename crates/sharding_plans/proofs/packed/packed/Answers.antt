use Rattle.sharding_plans.proofs.PackLemmas.{packed_below, packed_stand}
use Rattle.sharding_plans.proofs.packed.packed.Goals as goal

pub returns-clause-packed : goal.returns-clause-packed
returns-clause-packed c =
    let e = c.in_ok-len.ensures in
    let place = c.args.place in
    let are = rw c.fresh_offset-start.ensures at c.in_ok-numbers.ensures in
    record {
      counted = are.counted;
      below = packed_below place.location place.size _ c.in_ok-len.len _ c.in_ok-numbers.numbers.items e.good are e.size e.small;
      long = e.size;
      small = e.small;
      stand = packed_stand place.location place.size _ c.in_ok-len.len _ c.in_ok-numbers.numbers.items e.good are e.size e.small;
    }
