use Rattle.std.proofs.Common.{refl}
use Rattle.codec_traits.proofs.OverwriteLemmas.{untouched}
use Rattle.sharding_format.specs.ReadRefusals.{numbers_of}
use Rattle.sharding_engine.specs.Meanings.{shard_layout, inner_of, index_of}
use Rattle.sharding_open.specs.OpenShards.{shard_spec}
use Rattle.sharding_open.proofs.OpenLemmas.{stored_cells}
use Rattle.sharding_open.proofs.shard.OpenShard.put_plain.Goals as goal

pub returns-in_default-clause-written : goal.returns-in_default-clause-written
returns-in_default-clause-written g c = untouched c.args.target.now

pub returns-clause-cells : goal.returns-clause-cells
returns-clause-cells g c is_put t =
    let a = c.args in
    let s = a.sharding.now in
    let spec = shard_spec a.self.now in
    let inner = inner_of g.I.ArrayToBytesCodecTraits.meaning s spec in
    let index = index_of g.X.ArrayToBytesCodecTraits.meaning s spec in
    let points = (g.N.Indexer.selection a.indexer.now).points in
    let found = c.in-Some.index in
    let put = c.in_ok-put.ensures.put is_put t in
    record {
      elements = put.elements;
      there = stored_cells inner index (shard_layout s index spec) spec (g.H.BytesPartialDecoderTraits.state a.handle.now).contents found.len found.numbers.items (numbers_of a.self.now.shape points)
          points put.elements (rw c.in-Some.is at (c.requires.known.cached t)) c.requires.points refl put.there;
      written = put.written;
    }
