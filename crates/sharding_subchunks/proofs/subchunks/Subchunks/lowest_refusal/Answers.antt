use Rattle.std.proofs.Common.{arith}
use borrow.Author.Count.{below_more}
use Rattle.parts_row_major.specs.Numbering.{count_of}
use Rattle.parts_subsets.specs.Grid.{subchunk}
use Rattle.sharding_format.specs.EncodeRefusals.{HasPart}
use Rattle.sharding_format.proofs.LayingLemmas.{lowest_not_stored, part_stored}
use Rattle.sharding_subchunks.specs.steps.Inner.{spec_of_subchunks}
use Rattle.sharding_subchunks.proofs.subchunks.Subchunks.lowest_refusal.Goals as goal

pub loop-lower-preserved : goal.loop-lower-preserved
loop-lower-preserved g c =
    let a = c.args in
    let s = a.self.now in
    let written = (g.I.ArrayToBytesCodecTraits.meaning s.codec.now (spec_of_subchunks s)).written in
    let stored = c.in_default.field-0 in
    below_more (λ j. HasPart written s.fill_value.now (subchunk a.cut.now.shape.now s.shape.now a.cut.now.array.now.elements j)) c.loop-lower.lower c.loop-lower.invariant
    (stored.bytes.items, part_stored written s.fill_value.now (subchunk a.cut.now.shape.now s.shape.now a.cut.now.array.now.elements c.loop-lower.lower) stored.present stored.bytes.items c.in_default.ensures.stored)

pub returns : goal.returns
returns g c =
    let a = c.args in
    let s = a.self.now in
    lowest_not_stored (g.I.ArrayToBytesCodecTraits.meaning s.codec.now (spec_of_subchunks s)) s.fill_value.now (subchunk a.cut.now.shape.now s.shape.now a.cut.now.array.now.elements)
    (count_of a.cut.now.grid.now) a.number a.refusal c.requires.below (λ j below. c.loop-lower.invariant j (omega (arith, below, c.loop-lower-test.false))) c.requires.refusal
