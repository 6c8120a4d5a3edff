use Rattle.std.proofs.Common.{length, arith}
use Rattle.std.proofs.lemmas.Nat.{mul-le}
use Rattle.parts_subsets.proofs.GridLaws.{count-grid}
use Rattle.parts_row_major.specs.Numbering.{count_of}
use Rattle.parts_subsets.specs.Grid.{grid_of}
use Rattle.parts_arrays.specs.ArraySpec.{array_spec}
use Rattle.parts_arrays.specs.Arrays.{IsWhole}
use Rattle.sharding_subchunks.specs.steps.Inner.{spec_of_subchunks}
use Rattle.sharding_subchunks.specs.steps.DecodedRows.{AreRowsOfShard}
use Rattle.sharding_subchunks.proofs.DecodedRowLemmas.{IsWhole-rows, AreGathered-rows}
use Rattle.sharding_subchunks.proofs.held_shard.HeldShard.decode_rows.Goals as goal

pub rows-requires-clause-some : goal.rows-requires-clause-some
rows-requires-clause-some g c =
    let shape = c.args.self.now.shape.now in
    let sub = c.args.self.now.subchunks.now.shape.now in
    omega (arith, count-grid shape sub c.args.self.now.divides, mul-le 1 1 (count_of (grid_of shape sub)) (count_of sub) (omega (arith, c.requires.some)) (omega (arith, c.requires.positions)))

pub unreachable-requires : goal.unreachable-requires
unreachable-requires g c =
    let a = c.args in
    let s = a.self.now.subchunks.now in
    let spec = array_spec a.self.now.shape.now s.data_type.now s.fill_value.now in
    let inner = g.I.ArrayToBytesCodecTraits.meaning s.codec.now (spec_of_subchunks s) in
    let all = c.in-Some-2.all.items in
    let rows : AreRowsOfShard s.fill_value.now a.self.now.shape.now s.shape.now a.self.now.bytes.now a.self.now.index.now.numbers.items c.in-Some-plain.size all =
    rw (c.in-Some-2.is, c.as_ne_bytes-fill.ensures) at c.in_ok-all.ensures in
    let whole : IsWhole (length c.as_ne_bytes-fill.result.now) all = rw c.as_ne_bytes-fill.ensures
    (IsWhole-rows spec inner s.shape.now a.self.now.bytes.now a.self.now.index.now.numbers.items all c.in-Some-plain.size c.args.self.now.divides c.in-Some-plain.ensures rows) in
    c.in-None.ensures whole

pub returns-clause-gathered : goal.returns-clause-gathered
returns-clause-gathered g c =
    let a = c.args in
    let s = a.self.now.subchunks.now in
    let spec = array_spec a.self.now.shape.now s.data_type.now s.fill_value.now in
    let inner = g.I.ArrayToBytesCodecTraits.meaning s.codec.now (spec_of_subchunks s) in
    let all = c.in-Some-2.all.items in
    let rows : AreRowsOfShard s.fill_value.now a.self.now.shape.now s.shape.now a.self.now.bytes.now a.self.now.index.now.numbers.items c.in-Some-plain.size all =
    rw (c.in-Some-2.is, c.as_ne_bytes-fill.ensures) at c.in_ok-all.ensures in
    AreGathered-rows spec inner s.shape.now a.self.now.bytes.now a.self.now.index.now.numbers.items all c.in-Some-plain.size c.args.self.now.divides c.in-Some-plain.ensures rows
    c.in-Some-new_flen.array (rw c.as_ne_bytes-fill.ensures at c.in-Some-new_flen.ensures.1)
