use Rattle.array_store.specs.ArrayElements.{chunk_spec}
use Rattle.array_store.proofs.ReadLemmas.{read_put}
use Rattle.array_store.proofs.array.Array.put_part.Goals as goal

pub returns-clause-put : goal.returns-clause-put
returns-clause-put g c =
    let a = c.args in
    read_put c.read_part.result (g.C.ArrayToBytesCodecTraits.meaning a.self.now.codec.now (chunk_spec a.self.now.format)).cells a.self.now.format.fill_value.now (g.S.Store.state a.self.now.store) a.key.now _ _
    a.self.now.format.chunk.now c.in-Some.size a.in_chunk.now a.in_subset.now a.cells.now c.read_part.new.self c.in_ok-handle.ensures.opened c.in_ok-size.ensures.read
    (λ t. rw c.in-Some.is at c.in_ok-size.ensures.told t) c.read_part.ensures.cells c.read_part.ensures.counted
