use Rattle.std.proofs.Common.{refl, arith}
use Rattle.parts_arrays.proofs.ArrayLaws.{length-fixed_array, length-variable_array}
use Rattle.parts_arrays.proofs.array_bytes.ArrayBytes.len.Goals as goal

pub returns-in-Fixed : goal.returns-in-Fixed
returns-in-Fixed c =
    let view = rw c.in-Fixed.is at c.self.view_is in
    rw (← view, length-fixed_array, c.len.ensures) refl

pub returns-in-Variable : goal.returns-in-Variable
returns-in-Variable c =
    let view = rw c.in-Variable.is at c.self.view_is in
    rw (← view, length-variable_array, c.len-in-Variable.ensures) (omega (arith, c.in-Variable.offsets.ok.0))
