use Rattle.std.proofs.Common.{◌+◌, ◌^◌, ◌<◌, arith}
use Rattle.std.proofs.lemmas.List.Elements.{length_all_zip}
use Rattle.parts_row_major.specs.Numbering.{count_of}
use Rattle.parts_row_major.proofs.CountLaws.{subset_count_le, some_from_iff}
use Rattle.parts_row_major.proofs.points.points_in.Goals as goal

pub unwrap-requires : goal.unwrap-requires
unwrap-requires c =
    let start = c.args.start.now in
    let len = c.args.len.now in
    let same = length_all_zip (λ first len. first + len < 2 ^ 64) start len c.requires.well_formed in
    let small = subset_count_le start len c.args.shape.now same c.requires.served.0 in
    some_from_iff c.count.result (count_of len < 2 ^ 64) (count_of len) c.count.ensures (omega (arith, small, c.requires.served.1))
