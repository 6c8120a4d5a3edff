use Rattle.sharding_codec.proofs.partial_decoder.ShardingPartialDecoder.partial_decode_into_fresh.Goals as goal

pub returns-clause-refused : goal.returns-clause-refused
returns-clause-refused g c = rw (← c.self.view_is) c.read_indexer_into_fresh.ensures.refused

pub returns-clause-cells : goal.returns-clause-cells
returns-clause-cells g c = rw (← c.self.view_is) c.read_indexer_into_fresh.ensures.cells
