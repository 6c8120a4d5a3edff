use Rattle.std.proofs.Common.{arith}
use Rattle.parts_arrays.proofs.ArrayLaws.{length-fixed_array, length-variable_array}
use Rattle.parts_arrays.proofs.array_bytes.extract.extract_elements.Goals as goal

pub extract_fixed-requires-clause-all : goal.extract_fixed-requires-clause-all
extract_fixed-requires-clause-all c =
    let view = rw c.in-Fixed.is at c.array.view_is in
    let elements = rw (← view, length-fixed_array) at c.requires.all in
    rw c.deref.ensures.value elements

pub extract_variable-requires-clause-all : goal.extract_variable-requires-clause-all
extract_variable-requires-clause-all c =
    let view = rw c.in-Variable.is at c.array.view_is in
    let stored_slices = rw c.in-Variable.is at c.array.invariant in
    let elements = rw (← view, length-variable_array) at c.requires.all in
    rw c.deref-in-Variable-2.ensures.value (omega (arith, elements, stored_slices.some))
