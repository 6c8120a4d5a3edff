use Rattle.std.proofs.Common.{arith}
use Rattle.parts_row_major.specs.Subsets.{Subset}
use Rattle.parts_subsets.proofs.OverlapLaws.{HaveSameAxes, overlap_is_subset}
use Rattle.parts_subsets.proofs.subset.ArraySubset.overlap.Goals as goal

pub invariant_of-result : goal.invariant_of-result
invariant_of-result c =
    let subset : Subset = record { start = c.self.inside.start.items; shape = c.self.inside.shape.items } in
    let other : Subset = record { start = c.other.inside.start.items; shape = c.other.inside.shape.items } in
    let alike : HaveSameAxes subset other = record { well_formed = c.self.invariant; other_well_formed = c.other.invariant; same_axes = omega arith } in
    rw (c.in_ok-start.ensures, c.in_ok-shape.ensures, c.deref.ensures, c.deref-2.ensures, c.deref-3.ensures, c.deref-4.ensures, c.deref-5.ensures, c.deref-6.ensures) (overlap_is_subset subset other alike)
