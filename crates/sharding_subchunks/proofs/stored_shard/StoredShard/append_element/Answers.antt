use Rattle.std.proofs.Common.{length, arith}
use Rattle.parts_row_major.specs.Numbering.{count_of}
use Rattle.sharding_subchunks.specs.steps.Inner.{inner_meaning}
use Rattle.sharding_subchunks.proofs.PlainLemmas.{cell_read}
use Rattle.sharding_subchunks.proofs.stored_shard.StoredShard.append_element.Goals as goal

pub returns-in_ok-extend_from_slice-in-InRange-clause-element :
    goal.returns-in_ok-extend_from_slice-in-InRange-clause-element
returns-in_ok-extend_from_slice-in-InRange-clause-element g c put =
    let a = c.args in
    let s = a.self.now.subchunks in
    let n = length s.fill_value.now in
    let inner = inner_meaning g.I.ArrayToBytesCodecTraits.meaning s in
    let state = g.H.BytesPartialDecoderTraits.state a.handle.now in
    let fits = rw c.in-InRange.is at c.requires.fits in
    let same = c.if-stored-size.true in
    let read = rw (c.in-Some.is, c.as_ne_bytes-fill.ensures) at c.in_ok-element-in-InRange.ensures.told in
    record {
      element = c.in-Some.element.now;
      long = read.requested;
      there = λ t. rw (c.in-InRange.is, same)
          (cell_read a.self.now.interval n c.in-InRange.offset a.size a.position (count_of s.shape.now) state.contents c.in-Some.element.now inner.cells (c.requires.inside t)
          (omega (arith, fits, same)) c.requires.within c.requires.position c.requires.plain.cells (read.told t));
      appended = c.in_ok-extend_from_slice-in-InRange.ensures.items;
    }
