use Rattle.parts_subsets.proofs.SelectionLemmas.{numbers_of-points_of}
use Rattle.codec_traits.proofs.OverwriteLemmas.{untouched}
use Rattle.sharding_subchunks.proofs.stored_shard.StoredShard.put_plain_requested.Goals as goal

pub returns-in_default-clause-written : goal.returns-in_default-clause-written
returns-in_default-clause-written g c = untouched c.args.target.now

pub returns-then-not-same_axes-clause-written : goal.returns-then-not-same_axes-clause-written
returns-then-not-same_axes-clause-written g c = untouched c.args.target.now

pub returns-clause-put : goal.returns-clause-put
returns-clause-put g c = rw c.in-Some.ensures.some (rw (numbers_of-points_of c.in-Some.subset.now c.args.self.now.shape.now) at c.put_subset.ensures.put)
