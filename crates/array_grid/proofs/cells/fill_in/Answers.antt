use Rattle.std.proofs.Common.{◌+◌, ◌^◌, ◌<◌}
use Rattle.std.proofs.lemmas.List.Elements.{length_all_zip}
use Rattle.parts_row_major.proofs.SubsetLaws.{lies_in_length}
use Rattle.array_grid.proofs.PutLemmas.{placed_refused}
use Rattle.array_grid.proofs.cells.fill_in.Goals as goal

pub returns-clause-refused : goal.returns-clause-refused
returns-clause-refused c =
    let a = c.args in
    let subset = a.place.now.in_subset.now in
    let lies = c.in_ok-check_subset.ensures.served.0 in
    let same = lies_in_length subset.start subset.shape a.place.now.shape.now (length_all_zip (λ first len. first + len < 2 ^ 64) subset.start subset.shape c.start-axes.ensures.well_formed) lies in
    placed_refused c.fill.result subset a.place.now.shape.now _ same lies (rw c.over-target.ensures.element_size at c.fill.ensures.refused)
