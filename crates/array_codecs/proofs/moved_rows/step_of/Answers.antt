use Rattle.std.proofs.Common.{◌<◌, ◌≤◌, ◌+◌, ◌-◌, ◌^◌, drop, get_or, length, arith}
use Rattle.std.proofs.lemmas.List.{take_all, length-drop}
use Rattle.parts_row_major.specs.Numbering.{count_of, point_of}
use Rattle.parts_row_major.proofs.CountLaws.{some_from_iff}
use Rattle.parts_row_major.proofs.NumberingLaws.{count_of_drop_le, count_positive, point_inside}
use Rattle.array_codecs.proofs.moved_rows.step_of.Goals as goal

pub unwrap-requires : goal.unwrap-requires
unwrap-requires c =
    let axes = c.args.inner_axes.now in
    let some = count_positive axes (λ i lt. c.requires.positive i 0 lt) in
    let inverse = c.args.inverse.now in
    let behind = get_or inverse (length inverse - 1) 0 + 1 in
    let less : count_of (drop behind axes) ≤ count_of axes = count_of_drop_le (point_of 0 axes) axes behind (point_inside 0 axes some) in
    let whole = take_all (length axes - behind) (drop behind axes) (omega (arith, length-drop behind axes)) in
    some_from_iff c.count.result (count_of (drop behind axes) < 2 ^ 64) (count_of (drop behind axes)) (rw whole at c.count.ensures) (omega (arith, c.requires.fits, less))
