use Rattle.std.proofs.Common.{◌∙◌, ap, arith, map}
use Rattle.parts_arrays.specs.Arrays.{Array}
use Rattle.parts_arrays.proofs.ArrayLaws.{whole-concat, fixed_array-concat}
use Rattle.sharding_format.specs.Index.{element_of_number}
use Rattle.sharding_index.proofs.NumberLaws.{numbers_sized}
use Rattle.sharding_index.proofs.numbers.array_of_numbers.Goals as goal

pub unreachable-requires : goal.unreachable-requires
unreachable-requires c =
    let numbers = c.args._numbers.now in
    c.in-None.ensures (rw c.requires (whole-concat 8 (map element_of_number numbers) (omega arith) (numbers_sized numbers)))

pub returns-clause-elements : goal.returns-clause-elements
returns-clause-elements c =
    let numbers = c.args._numbers.now in
    let made = rw c.requires at c.in-Some.ensures.1 in
    ap (λ (array : Array). array.elements) (made ∙ fixed_array-concat 8 (map element_of_number numbers) (omega arith) (numbers_sized numbers))
