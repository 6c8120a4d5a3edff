use Rattle.std.proofs.Common.{sym, arith}
use Rattle.parts_arrays.proofs.ArrayLaws.{length-fixed_array, length-variable_array, element_of-fixed_array, element_of-variable_array, piece_within}
use Rattle.parts_arrays.proofs.array_bytes.ArrayBytes.element.Goals as goal

pub piece_at-requires : goal.piece_at-requires
piece_at-requires c =
    let view = rw c.in-Fixed.is at c.self.view_is in
    let whole = rw c.in-Fixed.is at c.self.invariant in
    let below = rw (← view, length-fixed_array) at c.requires in
    rw c.deref.ensures.value (piece_within _ _ c.args.i whole below)

pub part_at-requires-clause-below : goal.part_at-requires-clause-below
part_at-requires-clause-below c =
    let view = rw c.in-Variable.is at c.self.view_is in
    let below = rw (← view, length-variable_array) at c.requires in
    rw c.deref-in-Variable-2.ensures.value (omega (arith, below))

pub returns-in-Fixed : goal.returns-in-Fixed
returns-in-Fixed c =
    let view = rw c.in-Fixed.is at c.self.view_is in
    let below = rw (← view, length-fixed_array) at c.requires in
    rw (c.piece_at.ensures, c.deref.ensures.value, ← view) (sym (element_of-fixed_array _ _ c.args.i below))

pub returns-in-Variable : goal.returns-in-Variable
returns-in-Variable c =
    let view = rw c.in-Variable.is at c.self.view_is in
    let below = rw (← view, length-variable_array) at c.requires in
    rw (c.part_at.ensures, ← view, c.deref-in-Variable.ensures.value, c.deref-in-Variable-2.ensures.value) (sym (element_of-variable_array _ _ c.args.i below))
