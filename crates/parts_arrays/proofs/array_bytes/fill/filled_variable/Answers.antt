use Rattle.std.proofs.Common.{length}
use Rattle.parts_arrays.proofs.FillLaws.{even_offsets_are, variable_array-pieces}
use Rattle.parts_arrays.proofs.array_bytes.fill.filled_variable.Goals as goal

pub invariant_of-result : goal.invariant_of-result
invariant_of-result c =
    even_offsets_are _ _ (length c.args.fill.now) c.args.count c.in_ok-offsets.ensures c.in_ok-repeated.ensures.len

pub returns : goal.returns
returns c =
    variable_array-pieces _ _ (length c.args.fill.now) c.args.count c.in_ok-offsets.ensures _ c.in_ok-repeated.ensures.each
