use Rattle.sharding_subchunks.proofs.DecodedRowLemmas.{run_longer}
use Rattle.sharding_subchunks.proofs.plain_decoded.add_slot.Goals as goal

pub returns-then-from-run-clause-added : goal.returns-then-from-run-clause-added
returns-then-from-run-clause-added c =
    let a = c.args in
    let subchunk = a.subchunk.now in
    run_longer a.bytes.now.items a.shard.now subchunk.fill.now a.run.from a.run.len c.in-InRange.offset c.in-InRange.size subchunk.positions a.slot c.in-InRange.is c.if-from-run.true
