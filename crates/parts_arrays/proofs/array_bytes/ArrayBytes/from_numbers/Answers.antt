use Rattle.std.proofs.Common.{◌∙◌}
use Rattle.std.proofs.lemmas.List.{take_all}
use Rattle.parts_arrays.proofs.ArrayLaws.{whole-flat_map, fixed_array-flat_map}
use Rattle.parts_arrays.proofs.array_bytes.ArrayBytes.from_numbers.Goals as goal

pub unreachable-requires : goal.unreachable-requires
unreachable-requires g c =
    let size = c.element_size-size.ensures in
    c.in-None.ensures (rw (c.loop-number.invariant, size.size)
    (whole-flat_map g.T.Number.width g.T.Number.bytes_of _ size.some g.met.T.Number.sized))

pub returns : goal.returns
returns g c =
    let size = c.element_size-size.ensures in
    let all = take_all c.loop-number.number-index c.args.numbers.now c.loop-number-test.false in
    c.in-Some.ensures.1
    ∙ rw (c.loop-number.invariant, size.size, all)
    (fixed_array-flat_map g.T.Number.width g.T.Number.bytes_of c.args.numbers.now size.some g.met.T.Number.sized)
