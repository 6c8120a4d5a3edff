use Rattle.std.proofs.Common.{◌%◌, ◌≡◌, sym}
use Rattle.std.proofs.lemmas.List.Elements.{length_all_zip}
use Rattle.parts_subsets.proofs.TouchedLaws.{touched_served, are_touched, touched_below}
use Rattle.parts_subsets.proofs.subset.touched.touched_numbers.Goals as goal

pub quotients-requires-clause-axes : goal.quotients-requires-clause-axes
quotients-requires-clause-axes c = sym (length_all_zip (λ part axis. axis % part ≡ 0) c.args.sub.now c.args.shape.now c.requires.divides)

pub points_in-requires : goal.points_in-requires
points_in-requires c =
    let a = c.args in
    rw (c.deref.ensures, c.in_ok-grid.ensures)
    (touched_served a.shape.now a.sub.now (record { start = a.start.now; shape = a.len.now }) c.in_ok-touched.touched
    c.in_ok-touched.ensures c.requires.sub c.requires.divides c.requires.well_formed c.requires.inside c.requires.shape c.requires.fits)

pub subset_numbers-requires : goal.subset_numbers-requires
subset_numbers-requires c =
    let a = c.args in
    rw (c.deref-2.ensures, c.in_ok-grid.ensures)
    (touched_served a.shape.now a.sub.now (record { start = a.start.now; shape = a.len.now }) c.in_ok-touched.touched
    c.in_ok-touched.ensures c.requires.sub c.requires.divides c.requires.well_formed c.requires.inside c.requires.shape c.requires.fits)

pub returns-clause-touched : goal.returns-clause-touched
returns-clause-touched c =
    let a = c.args in
    let numbers = rw (c.deref-2.ensures, c.in_ok-grid.ensures) at c.in_ok-numbers.ensures in
    are_touched a.shape.now a.sub.now (record { start = a.start.now; shape = a.len.now }) c.in_ok-touched.touched
    c.in_ok-touched.ensures c.requires.sub c.requires.divides c.requires.well_formed c.requires.inside c.in_ok-numbers.numbers.items numbers

pub returns-clause-below : goal.returns-clause-below
returns-clause-below c =
    let a = c.args in
    let numbers = rw (c.deref-2.ensures, c.in_ok-grid.ensures) at c.in_ok-numbers.ensures in
    touched_below a.shape.now a.sub.now (record { start = a.start.now; shape = a.len.now }) c.in_ok-touched.touched
    c.in_ok-touched.ensures c.requires.sub c.requires.divides c.requires.well_formed c.requires.inside c.in_ok-numbers.numbers.items numbers
