use Rattle.parts_row_major.specs.Numbering.{count_of}
use Rattle.parts_subsets.proofs.GridLaws.{count-positive}
use Rattle.sharding_format.specs.WriteOrderLaws.{order_counted}
use Rattle.sharding_subchunks.specs.steps.Inner.{inner_meaning}
use Rattle.sharding_subchunks.proofs.PlainRowLemmas.{plain_rows}
use Rattle.sharding_subchunks.proofs.subchunks.Subchunks.lay_out_rows.Goals as goal

pub lay_out_along-requires : goal.lay_out_along-requires
lay_out_along-requires g c =
    let a = c.args in
    let s = a.self.now in
    let cut = c.requires.cut in
    let shape = a.cut.now.shape.now in
    let rows = plain_rows (inner_meaning g.I.ArrayToBytesCodecTraits.meaning s) s.data_type.now s.fill_value.now shape s.shape.now a.cut.now.array.now.elements
    c.in-Some-fixed_bytes.bytes.now c.in-Some-plain_size.size
    c.in-Some-plain_size.ensures (rw c.in-Some.ensures.positions at c.in-Some.ensures.runs) cut.divides (count-positive shape c.as_slice-axes.ensures.positive) cut.array c.in-Some-fixed_bytes.ensures.some in
    let counted = order_counted (count_of a.cut.now.grid.now) a.sequence.now c.requires.order in
    record { order = rw counted c.requires.order; rows = rw (counted, cut.grid) rows }

pub lay_out_bytes-requires : goal.lay_out_bytes-requires
lay_out_bytes-requires g c =
    let a = c.args in
    let s = a.self.now in
    let cut = c.requires.cut in
    let shape = a.cut.now.shape.now in
    let rows = plain_rows (inner_meaning g.I.ArrayToBytesCodecTraits.meaning s) s.data_type.now s.fill_value.now shape s.shape.now a.cut.now.array.now.elements
    c.in-Some-fixed_bytes.bytes.now c.in-Some-plain_size.size
    c.in-Some-plain_size.ensures (rw c.in-Some.ensures.positions at c.in-Some.ensures.runs) cut.divides (count-positive shape c.as_slice-axes.ensures.positive) cut.array c.in-Some-fixed_bytes.ensures.some in
    let counted = order_counted (count_of a.cut.now.grid.now) a.sequence.now c.requires.order in
    record { rows = rw (c.len-rows.ensures, counted, cut.grid) rows }

pub returns-then-is_ascending-clause-stored_slices : goal.returns-then-is_ascending-clause-stored_slices
returns-then-is_ascending-clause-stored_slices g c =
    let a = c.args in
    let counted = order_counted (count_of a.cut.now.grid.now) a.sequence.now c.requires.order in
    let ascends = rw counted at (c.is_ascending.ensures c.if-is_ascending.true) in
    rw ascends (rw (c.len-rows.ensures, counted) at c.in_ok-slots.ensures.stored_slices)

pub returns-clause-stored_slices : goal.returns-clause-stored_slices
returns-clause-stored_slices g c =
    let a = c.args in
    let counted = order_counted (count_of a.cut.now.grid.now) a.sequence.now c.requires.order in
    rw counted at c.in_ok-slots-2.ensures.stored_slices
