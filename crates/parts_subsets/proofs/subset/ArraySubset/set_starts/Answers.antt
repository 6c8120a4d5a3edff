use Rattle.std.proofs.Common.{◌≡◌, ◌+◌, ◌*◌, ◌<◌, ◌^◌, ◌∙◌, ap, arith}
use Rattle.std.proofs.lemmas.List.Elements.{length_all_zip}
use Rattle.parts_row_major.specs.Subsets.{number_in}
use Rattle.parts_row_major.proofs.CountLaws.{subset_count_le}
use Rattle.parts_row_major.proofs.NumberingLaws.{positive_product}
use Rattle.parts_subsets.proofs.SetLaws.{first_set, last_set}
use Rattle.parts_subsets.proofs.subset.ArraySubset.set_starts.Goals as goal
use Rattle.parts_subsets.proofs.subset.ArraySubset.set_starts.Goals.{then-sets-eq0, else-sets-eq0}

pub first_number-start-requires-clause-some : goal.first_number-start-requires-clause-some
first_number-start-requires-clause-some c =
    let some = positive_product c.args.sets c.args.each (omega arith) c.requires.some in
    omega (arith, some, c.requires.whole)

pub invariant_of-result : goal.invariant_of-result
invariant_of-result c =
    let subset = c.args.self.now in
    let group = c.set_group-group in
    let same = length_all_zip (λ first len. first + len < 2 ^ 64) subset.start subset.shape group.ensures.well_formed in
    let none : 0 ≡ 0 * c.args.each = omega arith in
    let le = subset_count_le subset.start subset.shape c.args.shape.now same c.requires.served.0 in (
      record { served = c.requires.served; whole = c.requires.whole; some = c.requires.some; fits = omega (arith, le, c.requires.served.1) },
      elim c.if-sets-eq0.branch [
        | then-sets-eq0 w ↦ last_set _ group.result.sets group.result.stride 0 group.result.sets c.args.sets _ (omega arith)
        | else-sets-eq0 w ↦
            first_set _ group.result.sets group.result.stride c.args.sets _ group.ensures.group (omega arith) (w.start-is ∙ (w.first_number-start.ensures ∙ ap (number_in subset c.args.shape.now) none))
      ],
    )
