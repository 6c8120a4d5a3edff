use Rattle.std.proofs.Common.{◌∙◌, ap, sym}
use Rattle.std.specs.Cow.{cow_slice_items}
use Rattle.std.specs.List.{concat}
use Rattle.parts_arrays.specs.Arrays.{Array}
use Rattle.parts_arrays.proofs.SameLaws.{concat_held}
use Rattle.parts_arrays.proofs.array_bytes.ArrayBytes.bytes.Goals as goal

pub returns : goal.returns
returns c =
    c.deref.ensures.value
    ∙ (sym (concat_held c.self.inside.held (cow_slice_items c.self.inside.bytes) c.self.invariant)
    ∙ ap (λ (array : Array). concat array.elements) c.self.view_is)
