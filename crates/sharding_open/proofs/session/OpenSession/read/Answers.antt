use Rattle.sharding_open.proofs.session.OpenSession.read.Goals as goal

pub returns-clause-read : goal.returns-clause-read
returns-clause-read g c = c.read_indexer.ensures.read
