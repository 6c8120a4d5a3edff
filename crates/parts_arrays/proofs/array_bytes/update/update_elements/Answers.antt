use Rattle.std.proofs.Common.{◌≡◌, arith}
use Rattle.parts_arrays.proofs.ArrayLaws.{length-fixed_array, length-variable_array}
use Rattle.parts_arrays.proofs.array_bytes.update.update_elements.Goals as goal

pub update_fixed-requires-clause-all : goal.update_fixed-requires-clause-all
update_fixed-requires-clause-all c =
    let view = rw c.in-Fixed-Fixed.is-0 at c.output.view_is in
    rw c.deref.ensures.value (rw (← view, length-fixed_array) at c.requires.all)

pub update_fixed-requires-clause-all_update : goal.update_fixed-requires-clause-all_update
update_fixed-requires-clause-all_update c =
    let view = rw c.in-Fixed-Fixed.is-0 at c.output.view_is in
    let update = rw c.in-Fixed-Fixed.is-1 at c.update.view_is in
    let same = rw (← view, ← update) at c.requires.same_kind in
    let size : c.in-Fixed-Fixed.field-0-1 ≡ c.in-Fixed-Fixed.size = cc in
    rw (c.deref-in-Fixed-Fixed.ensures.value, ← size) (rw (← update, length-fixed_array) at c.requires.all_update)

pub update_variable-requires-clause-all : goal.update_variable-requires-clause-all
update_variable-requires-clause-all c =
    let view = rw c.in-Variable-Variable.is-0 at c.output.view_is in
    let stored_slices = rw c.in-Variable-Variable.is-0 at c.output.invariant in
    let elements = rw (← view, length-variable_array) at c.requires.all in
    rw c.deref-in-Variable-Variable-2.ensures.value (omega (arith, elements, stored_slices.some))

pub update_variable-requires-clause-all_update : goal.update_variable-requires-clause-all_update
update_variable-requires-clause-all_update c =
    let view = rw c.in-Variable-Variable.is-1 at c.update.view_is in
    let stored_slices = rw c.in-Variable-Variable.is-1 at c.update.invariant in
    let elements = rw (← view, length-variable_array) at c.requires.all_update in
    rw c.deref-in-Variable-Variable-4.ensures.value (omega (arith, elements, stored_slices.some))
