use Rattle.std.proofs.Common.{◌≡◌, ℕ, ◌+◌, ◌<◌, List, ◌++◌, map, length, arith, ap, sym}
use Rattle.std.specs.List.{range_with_len}
use Rattle.std.specs.Cow.{cow_slice_items}
use Rattle.parts_arrays.specs.Arrays.{Array, element_of, part, parts, variable_array}
use Rattle.parts_arrays.proofs.ArrayLaws.{length-variable_array}
use Rattle.parts_arrays.proofs.TakenLaws.{parts_elements}
use Rattle.parts_arrays.proofs.array_bytes.builder.ArrayBuilder.push_range.Goals as goal
use Rattle.parts_arrays.proofs.array_bytes.builder.ArrayBuilder.push_range.Goals.{In-Variable}

within : (c : In-Variable) → c.args.first + c.args.count < length c.in-Variable.ends.items
within c =
    let view = rw c.in-Variable.is at c.from.view_is in
    let stored_slices = rw c.in-Variable.is at c.from.invariant in
    let elements = rw (← view, length-variable_array) at c.requires.within in
    omega (arith, elements, stored_slices.some)

pub push_parts-requires-clause-within : goal.push_parts-requires-clause-within
push_parts-requires-clause-within c =
    rw c.deref-2.ensures.value (within (goal.at.push_parts-requires-clause-within c).In-Variable)

-- what was pushed are the array's elements
pushed : (to from : Array) (offsets bytes ends held : List ℕ) (first count : ℕ) → variable_array offsets bytes ≡ to → variable_array ends held ≡ from
    → first + count < length ends
    → to.elements ++ map (element_of from) (range_with_len first count) ≡ parts offsets bytes ++ map (part held ends) (range_with_len first count)
pushed to from offsets bytes ends held first count to_is from_is fits =
    rw (← to_is, ← from_is) (ap (λ ys. parts offsets bytes ++ ys) (sym (parts_elements ends held first count fits)))

pub returns-clause-ok : goal.returns-clause-ok
returns-clause-ok c =
    let to = rw c.in-Variable-held.is at c.self.view_is in
    let from = rw c.in-Variable.is at c.from.view_is in
    let fits = within (goal.at.returns-clause-ok c).In-Variable in
    let same =
    pushed c.args.self.now c.args.from.now c.in-Variable-held.offsets.items c.self.inside.bytes.items c.in-Variable.ends.items (cow_slice_items c.from.inside.bytes)
    c.args.first c.args.count to from fits in
    rw (same, ← c.deref.ensures.value, ← c.deref-2.ensures.value) c.push_parts.ensures.ok
