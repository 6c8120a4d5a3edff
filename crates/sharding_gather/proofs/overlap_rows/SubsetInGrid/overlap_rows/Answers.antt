use Rattle.std.proofs.Common.{◌∙◌, ap}
use Rattle.parts_row_major.specs.Subsets.{Subset}
use Rattle.parts_arrays.specs.Targets.{target_subset}
use Rattle.sharding_gather.proofs.OverlapRowLemmas.{can_share, are_overlap_rows}
use Rattle.sharding_gather.proofs.overlap_rows.SubsetInGrid.overlap_rows.Goals as goal

pub shared_rows-requires : goal.shared_rows-requires
shared_rows-requires c =
    let a = c.args in
    let s = a.self.now in
    let target = a.target.now in
    rw (c.start.ensures.value, c.shape.ensures.value, c.as_slice.ensures.value, c.as_slice-2.ensures.value, c.start-2.ensures.value, c.shape-2.ensures, c.subset.ensures, c.requires.grid)
    (can_share s.shape.now s.sub.now s.subset.now (target_subset target) target.shape.now a.number c.as_slice-axes.ensures.positive c.requires.fits c.requires.divides c.requires.inside c.start.ensures.well_formed
    (rw c.requires.grid at c.requires.below) c.requires.touches c.requires.same (rw c.subset.ensures at c.start-2.ensures.well_formed) target.is_target.served)

pub returns : goal.returns
returns c =
    let a = c.args in
    let s = a.self.now in
    let target = a.target.now in
    are_overlap_rows s.shape.now s.sub.now s.subset.now (target_subset target) target.shape.now a.number c.as_slice-axes.ensures.positive c.requires.fits c.requires.divides c.requires.inside c.start.ensures.well_formed
    (rw c.requires.grid at c.requires.below) c.requires.touches c.requires.same _ _ _ _ _ _ c.shared_rows.new.rows
    (rw c.subset.ensures at c.start-2.ensures.well_formed) target.is_target.served
    c.start.ensures.value c.shape.ensures.value (c.as_slice.ensures.value ∙ c.requires.grid) c.as_slice-2.ensures.value (c.start-2.ensures.value ∙ ap (λ (w : Subset). w.start) c.subset.ensures) c.shape-2.ensures
    c.in_ok-shared_rows.ensures.are_rows c.in_ok-shared_rows.ensures.into c.in_ok-shared_rows.ensures.from
