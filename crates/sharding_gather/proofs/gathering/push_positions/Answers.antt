use Rattle.sharding_gather.proofs.RunPositions.{filled}
use Rattle.sharding_gather.proofs.gathering.push_positions.Goals as goal

pub returns-in-None-clause-ok : goal.returns-in-None-clause-ok
returns-in-None-clause-ok c =
    rw (c.in-None.is, filled c.args.fill.now c.args.position c.args.count) c.push_filled.ensures.ok
