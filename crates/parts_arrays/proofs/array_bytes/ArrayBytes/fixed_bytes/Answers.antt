use Rattle.std.proofs.Common.{◌∙◌, ap, sym}
use Rattle.std.specs.List.{concat}
use Rattle.parts_arrays.specs.Arrays.{Array}
use Rattle.parts_arrays.proofs.ArrayLaws.{concat-fixed_array}
use Rattle.parts_arrays.proofs.array_bytes.ArrayBytes.fixed_bytes.Goals as goal

pub returns-in-Fixed-clause-some : goal.returns-in-Fixed-clause-some
returns-in-Fixed-clause-some c =
    let view = rw c.in-Fixed.is at c.self.view_is in
    let whole = rw c.in-Fixed.is at c.self.invariant in
    c.deref.ensures.value ∙ (sym (concat-fixed_array _ _ whole) ∙ ap (λ (array : Array). concat array.elements) view)
