use Rattle.std.proofs.Common.{◌∙◌, ℕ, List, ap}
use Rattle.parts_arrays.specs.declared.data_type.DataTypeSize.TheVariants.{Fixed}
use Rattle.parts_arrays.proofs.ArrayLaws.{length-fixed_array}
use Rattle.parts_arrays.proofs.TakenLaws.{range_elements}
use Rattle.parts_arrays.proofs.array_bytes.ArrayBytes.borrowed_range.Goals as goal

pub range_of-requires-clause-within : goal.range_of-requires-clause-within
range_of-requires-clause-within c =
    let view = rw c.in-Fixed.is at c.self.view_is in
    let within = rw (← view, length-fixed_array) at c.requires in
    rw c.deref.ensures.value within

pub returns-in-Fixed-clause-some : goal.returns-in-Fixed-clause-some
returns-in-Fixed-clause-some c =
    let view = rw c.in-Fixed.is at c.self.view_is in
    let whole = rw c.in-Fixed.is at c.self.invariant in
    let within = rw (← view, length-fixed_array) at c.requires in
    let made = rw c.deref.ensures.value at c.range_of.ensures in
    rw (← view) (made ∙ ap (λ (es : List (List ℕ)). record { kind = Fixed c.in-Fixed.size; elements = es }) (range_elements _ _ c.args.first c.args.count whole within))
