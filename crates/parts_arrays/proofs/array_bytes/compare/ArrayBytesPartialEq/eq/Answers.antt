use Rattle.std.proofs.Common.{◌≡◌, ◌∙◌, Decides, sym}
use Rattle.std.specs.Cow.{cow_slice_items}
use Rattle.std.proofs.lemmas.Bool.Decides.{Decides-eqb, same_from_decides}
use Rattle.std.proofs.lemmas.Slice.Eq.{slice_eq-Decides}
use Rattle.parts_arrays.specs.Arrays.{same_array}
use Rattle.parts_arrays.proofs.SameLaws.{same_held, same_from_held, same_array-Decides}
use Rattle.parts_arrays.proofs.array_bytes.compare.ArrayBytesPartialEq.eq.Goals as goal

pub returns-then-same_layout : goal.returns-then-same_layout
returns-then-same_layout c =
    let x = cow_slice_items c.self.inside.bytes in
    let y = cow_slice_items c.other.inside.bytes in
    let bytes = slice_eq-Decides Decides-eqb c.as_slice.result.now c.as_slice-then-same_layout.result.now c.eq.result c.eq.ensures in
    let layout = c.same_layout.ensures.0 c.if-same_layout.true in
    let decided : Decides c.eq.result (c.args.self.now ≡ c.args.other.now) = (
      λ t.
          let same : x ≡ y = sym c.as_slice.ensures.value ∙ (bytes.0 t ∙ c.as_slice-then-same_layout.ensures.value) in
          sym c.self.view_is ∙ (same_from_held c.self.inside.held c.other.inside.held x y layout same ∙ c.other.view_is),
      λ e. bytes.1 (c.as_slice.ensures.value
          ∙ ((same_held c.self.inside.held c.other.inside.held x y c.self.invariant c.other.invariant (c.self.view_is ∙ (e ∙ sym c.other.view_is))).bytes
          ∙ sym c.as_slice-then-same_layout.ensures.value)),
    ) in
    same_from_decides c.eq.result (same_array c.args.self.now c.args.other.now) decided (same_array-Decides c.args.self.now c.args.other.now)

pub returns-else-same_layout : goal.returns-else-same_layout
returns-else-same_layout c =
    let x = cow_slice_items c.self.inside.bytes in
    let y = cow_slice_items c.other.inside.bytes in
    let decided : Decides c.same_layout.result (c.args.self.now ≡ c.args.other.now) = (
      λ t. let no : ⊥ = cc in absurd no,
      λ e. c.same_layout.ensures.1
          (same_held c.self.inside.held c.other.inside.held x y c.self.invariant c.other.invariant (c.self.view_is ∙ (e ∙ sym c.other.view_is))).layout,
    ) in
    same_from_decides c.same_layout.result (same_array c.args.self.now c.args.other.now) decided (same_array-Decides c.args.self.now c.args.other.now)
