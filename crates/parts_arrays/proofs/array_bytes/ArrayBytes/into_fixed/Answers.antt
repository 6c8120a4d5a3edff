use Rattle.std.proofs.Common.{◌∙◌, ap, sym}
use Rattle.std.specs.List.{concat}
use Rattle.parts_arrays.proofs.ArrayLaws.{concat-fixed_array}
use Rattle.parts_arrays.proofs.array_bytes.ArrayBytes.into_fixed.Goals as goal

pub returns-in-Fixed-clause-bytes : goal.returns-in-Fixed-clause-bytes
returns-in-Fixed-clause-bytes c =
    let view = rw c.in-Fixed.is at c.self.view_is in
    let whole = rw c.in-Fixed.is at c.self.invariant in
    sym (ap (λ array. concat array.elements) (sym view) ∙ concat-fixed_array _ _ whole)
