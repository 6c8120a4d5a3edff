use Rattle.storage_handles.specs.Writes.{bytes_of}
use Rattle.sharding_subchunks.specs.steps.Inner.{inner_meaning}
use Rattle.sharding_write.proofs.OldLemmas.{part_found, has_array}
use Rattle.sharding_write.proofs.old.old_cells.Goals as goal

pub returns-in_ok-array-in-InRange-clause-passed : goal.returns-in_ok-array-in-InRange-clause-passed
returns-in_ok-array-in-InRange-clause-passed g c = λ t.
    let contents = (g.H.BytesPartialDecoderTraits.state c.args.handle.now).contents in
    let inner = inner_meaning g.I.ArrayToBytesCodecTraits.meaning c.args.subchunks.now in
    let there = rw c.in-InRange.is at c.requires.there in
    let borrowed = rw c.in-Some.is at c.in_ok-part-in-InRange.ensures.told in
    let is = part_found contents c.in-InRange.offset c.in-InRange.size c.in-Some.part.now (there t) (borrowed.told t) in
    rw c.in-InRange.is (has_array inner.cells (bytes_of contents) c.in-Some.part.now c.in-InRange.offset c.in-InRange.size c.in_ok-array-in-InRange.array.elements is c.in_ok-array-in-InRange.ensures.cells)
