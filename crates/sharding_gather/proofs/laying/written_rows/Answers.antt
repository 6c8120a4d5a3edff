use Rattle.std.proofs.Common.{◌∙◌, map, length, ap, refl}
use Rattle.std.specs.List.{range_with_len}
use Rattle.parts_row_major.specs.Numbering.{count_of}
use Rattle.parts_arrays.specs.Arrays.{Array}
use Rattle.parts_arrays.proofs.ArrayLaws.{whole-concat, fixed_array-concat}
use Rattle.sharding_format.specs.steps.Decoding.{element_in}
use Rattle.sharding_gather.proofs.LayingLaws.{elements_fit}
use Rattle.sharding_gather.proofs.laying.written_rows.Goals as goal

pub unreachable-requires : goal.unreachable-requires
unreachable-requires c =
    let size = length c.args.shard.now.fill.now in
    let shape = c.args.shard.now.shape.now in
    let elements = map (element_in c.args.shard.now.subchunks.now c.args.shard.now.fill.now shape c.args.shard.now.sub.now) (range_with_len 0 (count_of shape)) in
    let fit = elements_fit c.args.shard.now.subchunks.now c.args.shard.now.fill.now shape c.args.shard.now.sub.now c.requires.shard.divides size refl c.requires.shard.subchunks in
    c.in-None.ensures (rw c.in_ok-bytes.ensures.bytes (whole-concat size elements c.requires.some fit))

pub returns-clause-elements : goal.returns-clause-elements
returns-clause-elements c =
    let size = length c.args.shard.now.fill.now in
    let shape = c.args.shard.now.shape.now in
    let elements = map (element_in c.args.shard.now.subchunks.now c.args.shard.now.fill.now shape c.args.shard.now.sub.now) (range_with_len 0 (count_of shape)) in
    let fit = elements_fit c.args.shard.now.subchunks.now c.args.shard.now.fill.now shape c.args.shard.now.sub.now c.requires.shard.divides size refl c.requires.shard.subchunks in
    let made = rw c.in_ok-bytes.ensures.bytes at c.in-Some.ensures.1 in
    ap (λ (array : Array). array.elements) (made ∙ fixed_array-concat size elements c.requires.some fit)
