use Rattle.std.proofs.Common.{IsTrue}
use Rattle.storage_handles.specs.Writes.{bytes_of}
use Rattle.sharding_subchunks.specs.steps.Inner.{spec_of_subchunks, inner_meaning}
use Rattle.sharding_write.proofs.PlainLemmas.{old_stored, blank_after}
use Rattle.sharding_write.proofs.plain.old_after.Goals as goal

pub returns-in_ok-extend_from_slice-in-Absent-clause-appended : goal.returns-in_ok-extend_from_slice-in-Absent-clause-appended
returns-in_ok-extend_from_slice-in-Absent-clause-appended g c = λ t.
    let s = c.args.subchunks.now in
    let state = g.H.BytesPartialDecoderTraits.state c.args.handle.now in
    let blank = c.in_ok-blank-in-Absent in
    let long = rw c.as_ne_bytes-fill.ensures at blank.ensures.len in
    let each = rw c.as_ne_bytes-fill.ensures at blank.ensures.each in
    let items = rw c.deref.ensures.value at c.in_ok-extend_from_slice-in-Absent.ensures.items in
    rw c.in-Absent.is (blank_after (spec_of_subchunks s) (inner_meaning g.I.ArrayToBytesCodecTraits.meaning s) c.args.size (bytes_of state.contents) blank.blank.items c.args.slices.now.items c.extend_from_slice.new.self.items
    (IsTrue state.transparent) c.requires.plain long each items)

pub returns-in_ok-there-in-InRange-clause-appended : goal.returns-in_ok-there-in-InRange-clause-appended
returns-in_ok-there-in-InRange-clause-appended g c = λ t.
    let s = c.args.subchunks.now in
    let bytes = bytes_of (g.H.BytesPartialDecoderTraits.state c.args.handle.now).contents in
    let put = c.in_ok-there-in-InRange.ensures.appended t in
    record {
      part = put.part;
      long = put.long;
      appended = put.appended;
      holds = λ told. rw (c.in-InRange.is, c.if-stored-size.false) (old_stored (spec_of_subchunks s) (inner_meaning g.I.ArrayToBytesCodecTraits.meaning s) c.args.size bytes put.part c.in-InRange.offset c.requires.plain put.long (put.holds told));
    }
