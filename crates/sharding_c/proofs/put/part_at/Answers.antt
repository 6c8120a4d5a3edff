use Rattle.std.proofs.Common.{◌≡◌, ◌+◌, ◌*◌, ◌-◌, arith}
use Rattle.sharding_c.proofs.put.part_at.Goals as goal

pub returns-clause-refused : goal.returns-clause-refused
returns-clause-refused c =
    let start : c.args.place + c.args.axes - c.args.place ≡ c.args.axes = omega arith in
    let lengths : 3 + 2 * c.args.axes + c.args.axes - (3 + 2 * c.args.axes) ≡ c.args.axes = omega arith in
    rw (start, lengths) at c.subset_of.ensures.refused
