use Rattle.std.proofs.Common.{◌≡◌, rules, refl, drop, length, length-drop, arith}
use Rattle.std.proofs.lemmas.List.{take_rest, length-take-le}
use Rattle.parts_row_major.specs.Pieces.{piece}
use Rattle.parts_subsets.specs.Grid.{cell_number}
use Rattle.sharding_subchunks.specs.steps.Inner.{spec_of_subchunks}
use Rattle.sharding_subchunks.proofs.WholeLemmas.{plain_written}
use Rattle.sharding_subchunks.proofs.held_shard.HeldShard.put_plain_slice.Goals as goal

pub returns-clause-written : goal.returns-clause-written
returns-clause-written g c = λ t.
    let a = c.args in
    let s = a.self.now.subchunks.now in
    let shape = a.self.now.shape.now in
    let sub_g = spec_of_subchunks s in
    let m = g.I.ArrayToBytesCodecTraits.meaning s.codec.now sub_g in
    let size = length s.fill_value.now in
    let b = a.self.now.bytes.now in
    let offset = c.in-InRange.offset in
    let len = c.in-InRange.size in
    let fits = rw c.in-InRange.is at c.requires.slot in
    let long = length-take-le len (drop offset b) (omega (arith, fits, length-drop offset b)) in
    let same : a.plain.now.size ≡ len = search rules in
    let plain = rw same at c.requires.plain.plain in
    let put = rw (c.requires.plain.rows, take_rest b offset, c.as_ne_bytes-element.ensures) at c.scatter.ensures in
    rw c.in-InRange.is
    (plain_written sub_g m s.fill_value.now b offset len (cell_number shape s.shape.now a.number) (piece size a.output.now) _ refl plain long put)
