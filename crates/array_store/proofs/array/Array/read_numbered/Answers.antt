use Rattle.array_store.specs.ArrayElements.{chunk_spec}
use Rattle.array_store.proofs.NumberedLemmas.{numbered}
use Rattle.array_store.proofs.PartLemmas.{refusal_in}
use Rattle.array_store.proofs.ProgressLemmas.{passed_error}
use Rattle.array_store.proofs.array.Array.read_numbered.Goals as goal

pub returns-in_err-read_chunk-clause-refused : goal.returns-in_err-read_chunk-clause-refused
returns-in_err-read_chunk-clause-refused g c =
    let a = c.args in
    let at = rw (c.in-Some.is, c.requires.parts.array) at c.in_ok-part.ensures.part in
    passed_error c.from_residual-in_err-read_chunk.result c.in_err-read_chunk.field-0.0 _ c.from_residual-in_err-read_chunk.ensures.1
    (refusal_in a.self.now.format (g.C.ArrayToBytesCodecTraits.meaning a.self.now.codec.now (chunk_spec a.self.now.format)) a.parts.now.subset a.parts.now a.number c.in-Some.part c.requires.parts at
    c.requires.number c.in_err-read_chunk.field-0.0 c.in_err-read_chunk.ensures.refused)

pub returns-clause-read : goal.returns-clause-read
returns-clause-read g c = λ t touched are.
    let a = c.args in
    let at = rw (c.in-Some.is, c.requires.parts.array) at c.in_ok-part.ensures.part in
    numbered (g.S.Store.state a.self.now.store).contents a.self.now.format (g.C.ArrayToBytesCodecTraits.meaning a.self.now.codec.now (chunk_spec a.self.now.format)).cells
    a.parts.now.subset c.requires.parts.axes c.requires.parts.some c.requires.parts.inside a.number a.parts.now.count c.in-Some.part a.cells.now c.read_chunk.new.cells touched
    c.requires.number c.requires.around at are (c.in_ok-read_chunk.ensures.read t)
