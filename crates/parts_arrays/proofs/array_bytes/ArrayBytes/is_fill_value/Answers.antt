use Rattle.parts_arrays.proofs.FillLaws.{all_from_each, each_from_all}
use Rattle.parts_arrays.proofs.array_bytes.ArrayBytes.is_fill_value.Goals as goal

pub returns-in-Fixed : goal.returns-in-Fixed
returns-in-Fixed c =
    let view = rw c.in-Fixed.is at c.self.view_is in
    let told = rw (c.deref.ensures.value, c.as_ne_bytes-fill.ensures) at c.is_repeated.ensures in
    rw (← view) (λ t. all_from_each _ _ _ (told.0 t), λ all. told.1 (each_from_all _ _ _ all))

pub returns-in-Variable : goal.returns-in-Variable
returns-in-Variable c =
    let view = rw c.in-Variable.is at c.self.view_is in
    let told = rw (c.deref-in-Variable.ensures.value, c.deref-in-Variable-2.ensures.value, c.as_ne_bytes-fill.ensures) at c.are_parts_alike.ensures in
    rw (← view) (λ t. all_from_each _ _ _ (told.0 t), λ all. told.1 (each_from_all _ _ _ all))
