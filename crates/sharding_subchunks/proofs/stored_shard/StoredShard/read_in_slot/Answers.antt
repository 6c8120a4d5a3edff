use Rattle.sharding_subchunks.specs.steps.Inner.{spec_of_subchunks}
use Rattle.sharding_format.proofs.ReadSlotLemmas.{positions_read, positions_refused}
use Rattle.sharding_subchunks.proofs.stored_shard.StoredShard.read_in_slot.Goals as goal

pub returns-in-Ok-clause-cells : goal.returns-in-Ok-clause-cells
returns-in-Ok-clause-cells g c =
    let a = c.args in
    let s = a.self.now.subchunks in
    let x = g.I.ArrayToBytesCodecTraits in
    let h = g.H.BytesPartialDecoderTraits in
    let sub_g = spec_of_subchunks s in
    let fits = rw c.in-InRange.is at c.requires.fits in
    let read = c.in-Ok.ensures.cells in
    let requested = g.N.Indexer.selection a.requested.now in
    λ t. rw c.in-InRange.is
    (positions_read (x.meaning s.codec.now sub_g).cells sub_g a.self.now.interval (h.state a.handle.now).contents c.in-InRange.offset c.in-InRange.size requested fits c.requires.points c.in-Ok.array.elements (read t))

pub returns-in-Err-clause-refused : goal.returns-in-Err-clause-refused
returns-in-Err-clause-refused g c =
    let a = c.args in
    let s = a.self.now.subchunks in
    let x = g.I.ArrayToBytesCodecTraits in
    let h = g.H.BytesPartialDecoderTraits in
    let sub_g = spec_of_subchunks s in
    let fits = rw c.in-InRange.is at c.requires.fits in
    let requested = g.N.Indexer.selection a.requested.now in
    rw c.in-InRange.is
    (positions_refused (x.meaning s.codec.now sub_g).cells sub_g a.self.now.interval (h.state a.handle.now).contents c.in-InRange.offset c.in-InRange.size requested fits c.requires.points
    (x.meaning s.codec.now sub_g) (h.state a.handle.now) (h.state c.partial_decode.new.handle)
    c.in-Err.error c.of_stored.result c.requires.serves c.requires.selection c.requires.inside c.in-Err.ensures.lawful c.in-Err.ensures.refused c.of_stored.ensures a.number c.requires.some)
