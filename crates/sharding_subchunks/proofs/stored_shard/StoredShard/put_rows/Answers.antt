use Rattle.std.proofs.Common.{◌≡◌, ◌*◌, length, subst, rules, arith}
use Rattle.std.proofs.lemmas.Nat.{row_fits}
use Rattle.parts_row_major.specs.Numbering.{count_of}
use Rattle.parts_row_major.specs.Pieces.{piece}
use Rattle.parts_arrays.specs.Targets.{IsPartWritten}
use Rattle.parts_strided_copy.specs.Paired.{from_at}
use Rattle.sharding_subchunks.specs.steps.Inner.{inner_meaning}
use Rattle.sharding_subchunks.proofs.PlainLemmas.{slice_read}
use Rattle.sharding_subchunks.proofs.stored_shard.StoredShard.put_rows.Goals as goal

pub returns-in-Some-clause-put : goal.returns-in-Some-clause-put
returns-in-Some-clause-put g c = λ put position are.
    let a = c.args in
    let s = a.self.now.subchunks in
    let n = length s.fill_value.now in
    let inner = inner_meaning g.I.ArrayToBytesCodecTraits.meaning s in
    let state = g.H.BytesPartialDecoderTraits.state a.handle.now in
    let fits = rw c.in-InRange.is at c.requires.fits in
    let same = c.if-stored-size.true in
    let sub = s.shape.now in
    let read = rw c.in-Some.is at c.in_ok-elements-in-InRange.ensures.told in
    record {
      element = λ r. piece n c.in-Some.elements.now (from_at a.rows.now r);
      cells = λ t r lt. rw (c.in-InRange.is, same)
          (slice_read a.self.now.interval n c.in-InRange.offset a.size (from_at a.rows.now r) (count_of sub) state.contents c.in-Some.elements.now inner.cells (c.requires.inside t)
          (omega (arith, fits, same)) read.requested (c.requires.from.1 r lt) c.requires.plain.cells (read.told t));
      written = subst (λ n. IsPartWritten a.target.now c.copy_rows.new.self position (λ r. piece n c.in-Some.elements.now (from_at a.rows.now r))) c.requires.element (c.copy_rows.ensures position are);
    }

pub copy_rows-requires-clause-from : goal.copy_rows-requires-clause-from
copy_rows-requires-clause-from g c = λ k lt.
    let s = c.args.self.now.subchunks in
    let n = length s.fill_value.now in
    let whole : length c.in-Some.elements.now ≡ count_of s.shape.now * n = search rules in
    rw c.requires.element (omega (arith, row_fits (from_at c.args.rows.now k) n (count_of s.shape.now) n (c.requires.from.1 k lt) (omega arith), whole))
