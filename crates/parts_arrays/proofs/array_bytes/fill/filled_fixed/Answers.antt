use Rattle.parts_arrays.proofs.ArrayLaws.{whole_from_length}
use Rattle.parts_arrays.proofs.FillLaws.{fixed_array-pieces}
use Rattle.parts_arrays.proofs.array_bytes.fill.filled_fixed.Goals as goal

pub invariant_of-result : goal.invariant_of-result
invariant_of-result c = whole_from_length _ c.args.count _ c.requires.some c.in_ok-repeated.ensures.len

pub returns : goal.returns
returns c = fixed_array-pieces _ c.args.count _ _ c.requires.some c.in_ok-repeated.ensures.len c.in_ok-repeated.ensures.each
