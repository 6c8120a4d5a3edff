use Rattle.std.proofs.Common.{◌∙◌, ap, sym, length}
use Rattle.std.specs.Cow.{cow_slice_items}
use Rattle.std.specs.List.{sum_by}
use Rattle.parts_arrays.specs.Arrays.{Array}
use Rattle.parts_arrays.proofs.ArrayLaws.{sum_of_held}
use Rattle.parts_arrays.proofs.array_bytes.ArrayBytes.byte_len.Goals as goal

pub returns : goal.returns
returns c =
    c.len.ensures
    ∙ (sym (sum_of_held c.self.inside.held (cow_slice_items c.self.inside.bytes) c.self.invariant)
    ∙ ap (λ (array : Array). sum_by length array.elements) c.self.view_is)
