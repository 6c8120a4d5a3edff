use Rattle.codec_traits.proofs.OverwriteLemmas.{untouched}
use Rattle.sharding_subchunks.proofs.stored_shard.StoredShard.put_subset.Goals as goal

pub returns-in_default-clause-written : goal.returns-in_default-clause-written
returns-in_default-clause-written g c = untouched c.args.target.now

pub returns-in_err-touched-clause-written : goal.returns-in_err-touched-clause-written
returns-in_err-touched-clause-written g c = untouched c.args.target.now
