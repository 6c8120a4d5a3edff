use Rattle.array_store.specs.ArrayElements.{chunk_spec}
use Rattle.array_store.proofs.PartLemmas.{kept_but, number_is, other_chunks, part_written}
use Rattle.array_store.proofs.array.Array.write_part.Goals as goal

pub returns-in-Ok-clause-others : goal.returns-in-Ok-clause-others
returns-in-Ok-clause-others g c =
    let a = c.args in
    let at = rw (c.in-Some.is, c.requires.parts.array, c.requires.parts.subset_same) at c.in_ok-part.ensures.part in
    other_chunks a.self.now.format (g.C.ArrayToBytesCodecTraits.meaning a.self.now.codec.now (chunk_spec a.self.now.format)) a.subset.now a.parts.now a.place c.in-Some.part c.requires.parts at
    (g.S.Store.state a.self.now.store) (g.S.Store.state c.write_in_chunk.new.self.store) (rw c.deref.ensures.value at c.write_in_chunk.ensures.others)

pub returns-in-Ok-clause-number : goal.returns-in-Ok-clause-number
returns-in-Ok-clause-number g c =
    let a = c.args in
    let at = rw (c.in-Some.is, c.requires.parts.array, c.requires.parts.subset_same) at c.in_ok-part.ensures.part in
    number_is a.self.now.format (g.C.ArrayToBytesCodecTraits.meaning a.self.now.codec.now (chunk_spec a.self.now.format)) a.subset.now a.parts.now a.place c.in-Some.part c.requires.parts at

pub returns-in-Ok-clause-written : goal.returns-in-Ok-clause-written
returns-in-Ok-clause-written g c = λ t.
    let a = c.args in
    let at = rw (c.in-Some.is, c.requires.parts.array, c.requires.parts.subset_same) at c.in_ok-part.ensures.part in
    part_written a.self.now.format (g.C.ArrayToBytesCodecTraits.meaning a.self.now.codec.now (chunk_spec a.self.now.format)) a.subset.now a.parts.now a.place c.in-Some.part c.requires.parts at
    a.elements.now c.in_ok-here.here (g.S.Store.state a.self.now.store) (g.S.Store.state c.write_in_chunk.new.self.store) (rw c.shape.ensures.value at c.in_ok-here.ensures.extracted)
    (rw c.deref.ensures.value at c.write_in_chunk.ensures.others) t (rw (c.in-Ok.is, c.deref.ensures.value) at c.write_in_chunk.ensures.written t)

pub returns-clause-others : goal.returns-clause-others
returns-clause-others g c =
    let a = c.args in
    let at = rw (c.in-Some.is, c.requires.parts.array, c.requires.parts.subset_same) at c.in_ok-part.ensures.part in
    other_chunks a.self.now.format (g.C.ArrayToBytesCodecTraits.meaning a.self.now.codec.now (chunk_spec a.self.now.format)) a.subset.now a.parts.now a.place c.in-Some.part c.requires.parts at
    (g.S.Store.state a.self.now.store) (g.S.Store.state c.write_in_chunk.new.self.store) (rw c.deref.ensures.value at c.write_in_chunk.ensures.others)

pub returns-clause-kept : goal.returns-clause-kept
returns-clause-kept g c =
    let a = c.args in
    kept_but (g.S.Store.state a.self.now.store) (g.S.Store.state c.write_in_chunk.new.self.store) _ c.in-Err.error (rw c.in-Err.is at c.write_in_chunk.ensures.refused) c.write_in_chunk.ensures.others
