use Rattle.std.proofs.Common.{◌≡◌, ◌∙◌, ◌*◌, drop, length, replicate, arith}
use Rattle.std.proofs.lemmas.List.{length-replicate}
use Rattle.parts_row_major.specs.Numbering.{count_of}
use Rattle.parts_subsets.specs.Grid.{subchunk}
use Rattle.parts_arrays.specs.ArraySpec.{array_spec}
use Rattle.parts_arrays.proofs.ArrayLaws.{whole_from_length}
use Rattle.sharding_format.specs.Laws.{IsArrayOf-subchunk}
use Rattle.sharding_layout.proofs.StoringLemmas.{stored_plainly, front_of, long_after}
use Rattle.sharding_subchunks.specs.steps.Inner.{inner_meaning}
use Rattle.sharding_subchunks.proofs.PlainSubchunkLemmas.{array_bytes, gathered_subchunk}
use Rattle.sharding_subchunks.proofs.subchunks.Subchunks.store_gathered.Goals as goal
use Rattle.sharding_subchunks.proofs.subchunks.Subchunks.store_gathered.Goals.{After-gather_at}

pub gather_at-requires-clause-whole : goal.gather_at-requires-clause-whole
gather_at-requires-clause-whole g c =
    let s = c.args.self.now in
    let cut = c.args._cut.now in
    let plain = c.requires.plain.subchunks.plain in
    rw (c.requires.plain.subchunks.rows, c.as_ne_bytes-element.ensures)
    (array_bytes s.data_type.now s.fill_value.now cut.shape.now cut.array.now.elements c.args.plain.now.bytes.now plain.fixed c.requires.cut.array c.requires.plain.bytes)

-- how many bytes stand behind the others
long : (g : _) (c : After-gather_at g) → length (drop c.len-from.result c.gather_at.new.bytes.items) ≡ count_of c.args.self.now.shape.now * length c.args.self.now.fill_value.now
long g c =
    let a = c.args in
    let size = a.plain.now.subchunks.size in
    let from : length a.slices.now.items ≡ c.len-from.result = omega (arith, c.len-from.ensures, a.slices.now.ok.0) in
    long_after c.len-from.result size a.slices.now.items (replicate size 0) c.zeros_after.new.slices.items c.gather_at.new.bytes.items from
    c.in_ok-zeros_after.ensures.appended (length-replicate size 0) c.gather_at.ensures.long
    ∙ c.requires.plain.subchunks.plain.size_is

pub slot_after-requires-clause-whole : goal.slot_after-requires-clause-whole
slot_after-requires-clause-whole g c =
    let s = c.args.self.now in
    let part = long g (goal.at.slot_after-requires-clause-whole g c).After-gather_at in
    whole_from_length (length s.fill_value.now) (count_of s.shape.now) (drop c.len-from.result c.gather_at.new.bytes.items) c.requires.plain.subchunks.plain.some part

pub returns-clause-stored : goal.returns-clause-stored
returns-clause-stored g c =
    let a = c.args in
    let s = a.self.now in
    let cut = a._cut.now in
    let fill = s.fill_value.now in
    let size = a.plain.now.subchunks.size in
    let plain = c.requires.plain.subchunks.plain in
    let old = a.slices.now.items in
    let below = rw c.requires.cut.grid at c.requires.below in
    let from : length old ≡ c.len-from.result = omega (arith, c.len-from.ensures, a.slices.now.ok.0) in
    let front = front_of c.len-from.result old (replicate size 0) c.zeros_after.new.slices.items from c.in_ok-zeros_after.ensures.appended in
    let gathered = rw (c.requires.plain.subchunks.rows, c.as_ne_bytes-element.ensures) at c.gather_at.ensures.gathered in
    let elements = gathered_subchunk s.data_type.now fill cut.shape.now cut.array.now.elements a.plain.now.bytes.now plain.fixed c.requires.cut.array c.requires.plain.bytes
    s.shape.now (drop c.len-from.result c.gather_at.new.bytes.items) a.number plain.some c.requires.cut.divides below (long g (goal.at.returns-clause-stored g c).After-gather_at) gathered in
    let stored = rw (c.gather_at.ensures.kept, front, elements) at c.slot_after.ensures.stored in
    let e = subchunk cut.shape.now s.shape.now cut.array.now.elements a.number in
    stored_plainly (inner_meaning g.I.ArrayToBytesCodecTraits.meaning s).written fill e old c.slot_after.new.slices.items c.slot_after.result
    (plain.written e (IsArrayOf-subchunk s.shape.now (array_spec cut.shape.now s.data_type.now fill) cut.array.now.elements a.number c.requires.cut.divides c.requires.cut.array below)) stored
