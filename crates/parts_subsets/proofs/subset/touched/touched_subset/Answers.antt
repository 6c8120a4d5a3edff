use Rattle.std.proofs.Common.{◌%◌, ◌∙◌, ◌≡◌, ◌+◌, ◌^◌, ◌<◌, sym}
use Rattle.std.proofs.lemmas.List.Elements.{length_all_zip}
use Rattle.parts_row_major.proofs.SubsetLaws.{lies_in_length}
use Rattle.parts_subsets.proofs.TouchedLaws.{touched_is_subset}
use Rattle.parts_subsets.proofs.subset.touched.touched_subset.Goals as goal

pub quotients-requires-clause-axes : goal.quotients-requires-clause-axes
quotients-requires-clause-axes c =
    let one = length_all_zip (λ first len. first + len < 2 ^ 64) c.args.start.now c.args.len.now c.requires.well_formed in
    lies_in_length c.args.start.now c.args.len.now c.args.shape.now one c.requires.inside
    ∙ sym (length_all_zip (λ part axis. axis % part ≡ 0) c.args.sub.now c.args.shape.now c.requires.divides)

pub touched_lengths-requires-clause-axes : goal.touched_lengths-requires-clause-axes
touched_lengths-requires-clause-axes c =
    let one = length_all_zip (λ first len. first + len < 2 ^ 64) c.args.start.now c.args.len.now c.requires.well_formed in
    lies_in_length c.args.start.now c.args.len.now c.args.shape.now one c.requires.inside
    ∙ sym (length_all_zip (λ part axis. axis % part ≡ 0) c.args.sub.now c.args.shape.now c.requires.divides)

pub invariant_of-result : goal.invariant_of-result
invariant_of-result c =
    let a = c.args in
    let made = rw (← c.in_ok-starts.ensures) at c.in_ok-lengths.ensures in
    touched_is_subset a.shape.now a.sub.now (record { start = a.start.now; shape = a.len.now }) (record { start = c.in_ok-starts.starts.items; shape = c.in_ok-lengths.lengths.items })
    made c.requires.sub c.requires.divides c.requires.well_formed c.requires.inside
