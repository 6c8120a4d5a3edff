use Rattle.std.proofs.Common.{◌+◌, ◌^◌, ◌<◌, rules}
use Rattle.std.proofs.lemmas.List.Elements.{length_all_zip}
use Rattle.parts_row_major.proofs.SubsetLaws.{length-points_of, lies_in_length}
use Rattle.array_grid.proofs.PutLemmas.{part_decoded, part_refused}
use Rattle.array_grid.proofs.cells.read_to.Goals as goal

pub returns-clause-counted : goal.returns-clause-counted
returns-clause-counted g c = rw (c.over-target.ensures.subset, length-points_of c.args.in_stored.now) at c.partial_decode_into_fresh.ensures.counted

pub returns-clause-cells : goal.returns-clause-cells
returns-clause-cells g c =
    let a = c.args in
    let over = c.over-target.ensures in
    let reference = c.partial_decode_into_fresh.ensures.written.1.reference in
    part_decoded c.partial_decode_into_fresh.result _ _ _ _ a.in_stored.now a.place.now.in_subset.now a.place.now.element_size a.place.now.shape.now a.bytes.now _ c.over-target.result
    c.partial_decode_into_fresh.new.target over.element_size over.shape over.subset (search rules) (search rules) c.partial_decode_into_fresh.ensures.cells

pub returns-clause-refused : goal.returns-clause-refused
returns-clause-refused g c =
    let a = c.args in
    let subset = a.place.now.in_subset.now in
    let over = c.over-target.ensures in
    let lies = c.in_ok-check_subset.ensures.served.0 in
    let same = lies_in_length subset.start subset.shape a.place.now.shape.now (length_all_zip (λ first len. first + len < 2 ^ 64) subset.start subset.shape c.start-axes.ensures.well_formed) lies in
    part_refused c.partial_decode_into_fresh.result _ _ _ _ _ a.place.now.element_size _ subset a.place.now.shape.now _ over.element_size over.subset same lies
    c.partial_decode_into_fresh.ensures.refused
