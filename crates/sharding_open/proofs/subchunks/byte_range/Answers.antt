use Rattle.std.proofs.Common.{◌<◌, arith}
use Rattle.parts_row_major.specs.Numbering.{count_of}
use Rattle.parts_row_major.proofs.NumberingLaws.{number_below}
use Rattle.sharding_open.specs.Cached.{cached_numbers}
use Rattle.sharding_open.proofs.OpenLemmas.{entry_below}
use Rattle.sharding_open.proofs.subchunks.byte_range.Goals as goal

pub cached_slot-requires : goal.cached_slot-requires
cached_slot-requires c =
    let shard = c.args.shard.now in
    let grid = shard.grid in
    let number = c.in-Some.number in
    let found = rw c.as_slice-grid.ensures.value at c.in-Some.ensures in
    let below : number < count_of grid = omega (arith, number_below c.args.subchunk.now grid found.0.0, found.1) in
    entry_below (cached_numbers shard.cached) (count_of grid) number c.requires.counted below
