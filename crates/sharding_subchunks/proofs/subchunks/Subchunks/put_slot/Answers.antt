use Rattle.std.proofs.Common.{◌∙◌, drop, subst, arith}
use Rattle.std.proofs.lemmas.List.{take_rest, length-take-le, length-drop}
use Rattle.parts_row_major.specs.Pieces.{piece}
use Rattle.parts_arrays.specs.Targets.{IsPartWritten}
use Rattle.sharding_format.specs.Index.{slice_at}
use Rattle.sharding_subchunks.specs.steps.Inner.{spec_of_subchunks}
use Rattle.sharding_subchunks.proofs.PutLemmas.{slice_put}
use Rattle.sharding_subchunks.proofs.subchunks.Subchunks.put_slot.Goals as goal

pub returns-in-InRange : goal.returns-in-InRange
returns-in-InRange g c =
    let a = c.args in
    let s = a.self.now in
    let sub_g = spec_of_subchunks s in
    let m = g.I.ArrayToBytesCodecTraits.meaning s.codec.now sub_g in
    let offset = c.in-InRange.offset in
    let len = c.in-InRange.size in
    let part = slice_at offset len a.bytes.now in
    let fits = rw c.in-InRange.is at c.requires.fits in
    let same = rw c.in-InRange.is at c.requires.slot in
    let long = length-take-le len (drop offset a.bytes.now) (omega (arith, fits, length-drop offset a.bytes.now)) ∙ same in
    let wrote = rw (take_rest a.bytes.now offset) at c.copy_part.ensures in
    rw c.in-InRange.is
    (slice_put sub_g m a._size offset len a.bytes.now a.position.now a.target.now c.copy_part.new.self c.requires.plain long
    (subst (λ n. IsPartWritten a.target.now c.copy_part.new.self a.position.now (piece n part)) c.requires.element wrote))
