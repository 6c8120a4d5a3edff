use Rattle.parts_arrays.proofs.ArrayLaws.{All-fixed_array}
use Rattle.parts_arrays.proofs.array_bytes.ArrayBytes.kind.Goals as goal

pub returns-in-Fixed-clause-fitting : goal.returns-in-Fixed-clause-fitting
returns-in-Fixed-clause-fitting c =
    let view = rw c.in-Fixed.is at c.self.view_is in
    let whole = rw c.in-Fixed.is at c.self.invariant in
    rw (← view) (All-fixed_array _ _ whole)
