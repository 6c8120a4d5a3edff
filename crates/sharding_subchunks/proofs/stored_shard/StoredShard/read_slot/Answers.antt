use Rattle.std.proofs.Common.{◌^◌, ◌<◌, length, refl, arith}
use Rattle.std.proofs.lemmas.List.{length-map}
use Rattle.parts_row_major.specs.Numbering.{point_of}
use Rattle.sharding_format.proofs.ReadSlotLemmas.{numbers_of-position_points, inside-position_points}
use Rattle.sharding_subchunks.proofs.stored_shard.StoredShard.read_slot.Goals as goal

pub read_in_slot-requires-clause-selection : goal.read_in_slot-requires-clause-selection
read_in_slot-requires-clause-selection g c =
    let sub = c.args.self.now.subchunks.shape.now in
    let positions = c.args.positions.now in
    let many : length positions < 2 ^ 64 = omega arith in
    rw c.new-requested.ensures (record {
      axes = refl;
      within = inside-position_points sub positions c.requires.below;
      counted = omega (arith, many, length-map positions (λ position. point_of position sub));
    })

pub read_in_slot-requires-clause-points : goal.read_in_slot-requires-clause-points
read_in_slot-requires-clause-points g c = rw c.new-requested.ensures (inside-position_points c.args.self.now.subchunks.shape.now c.args.positions.now c.requires.below)

pub returns-clause-cells : goal.returns-clause-cells
returns-clause-cells g c = rw (c.new-requested.ensures, numbers_of-position_points c.args.self.now.subchunks.shape.now c.args.positions.now c.requires.below) at c.read_in_slot.ensures.cells

pub returns-clause-refused : goal.returns-clause-refused
returns-clause-refused g c = rw (c.new-requested.ensures, numbers_of-position_points c.args.self.now.subchunks.shape.now c.args.positions.now c.requires.below) at c.read_in_slot.ensures.refused
