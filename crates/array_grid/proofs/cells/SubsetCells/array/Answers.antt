use Rattle.std.proofs.Common.{◌∙◌, ◌%◌, ap, length, arith}
use Rattle.std.proofs.lemmas.Nat.{mod-mul-add}
use Rattle.parts_row_major.specs.Numbering.{count_of}
use Rattle.array_grid.proofs.cells.SubsetCells.array.Goals as goal

pub unreachable-requires : goal.unreachable-requires
unreachable-requires c =
    let s = c.self.inside in
    let i = c.self.invariant in
    c.in_default.ensures (
      i.some,
      ap (λ n. n % s.element_size) (omega (arith, i.whole, ap length c.deref.ensures.value)) ∙ mod-mul-add (count_of s.shape.items) s.element_size 0 i.some,
    )
