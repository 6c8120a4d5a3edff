use Rattle.parts_arrays.proofs.ArrayLaws.{whole_push, fixed_array-push}
use Rattle.parts_arrays.proofs.array_bytes.builder.ArrayBuilder.push_first.Goals as goal

pub invariant_of-self-in-Fixed : goal.invariant_of-self-in-Fixed
invariant_of-self-in-Fixed c =
    let view = rw c.in-Fixed.is at c.self.view_is in
    let whole = rw c.in-Fixed.is at c.self.invariant in
    let long = rw (← view) at c.requires.fits in
    rw (c.in-Fixed.is, c.in_ok-push_front-in-Fixed.ensures.ok) (whole_push _ _ _ whole long)

pub returns-in_ok-push_front-in-Fixed-clause-ok : goal.returns-in_ok-push_front-in-Fixed-clause-ok
returns-in_ok-push_front-in-Fixed-clause-ok c =
    let view = rw c.in-Fixed.is at c.self.view_is in
    let whole = rw c.in-Fixed.is at c.self.invariant in
    let long = rw (← view) at c.requires.fits in
    rw (c.in-Fixed.is, c.in_ok-push_front-in-Fixed.ensures.ok, ← view) (fixed_array-push _ _ _ whole long)
