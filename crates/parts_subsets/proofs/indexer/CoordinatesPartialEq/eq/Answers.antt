use Rattle.std.proofs.Common.{◌≡◌, arith}
use Rattle.std.proofs.lemmas.Bool.Decides.{nat_tests}
use Rattle.parts_subsets.proofs.CoordinateLaws.{same_by_numbers, not_same}
use Rattle.parts_subsets.proofs.indexer.CoordinatesPartialEq.eq.Goals as goal
use Rattle.parts_subsets.proofs.indexer.CoordinatesPartialEq.eq.Goals.{then-self-other, else-self-other}

pub returns-then-self-other-2 : goal.returns-then-self-other-2
returns-then-self-other-2 c =
    let a = c.self.inside in
    let b = c.other.inside in
    let same : (a.dimensionality ≡ b.dimensionality) × (a.count ≡ b.count) =
    elim c.if-self-other.branch [ then-self-other w ↦ (grind (arith, nat_tests), grind (arith, nat_tests)) | else-self-other w ↦ absurd (grind (arith, nat_tests)) ] in
    rw (c.eq.ensures, ← c.self.view_is, ← c.other.view_is)
    (same_by_numbers a.dimensionality a.count b.dimensionality b.count a.flat.items b.flat.items c.self.invariant.1 c.other.invariant.1 same.0 same.1)

pub returns-else-self-other-2 : goal.returns-else-self-other-2
returns-else-self-other-2 c =
    let a = c.self.inside in
    let b = c.other.inside in
    rw (c.if-self-other-2.false, ← c.self.view_is, ← c.other.view_is)
    (not_same a.dimensionality a.count b.dimensionality b.count a.flat.items b.flat.items c.self.invariant.1 c.other.invariant.1
    (λ same. elim c.if-self-other.branch [ then-self-other w ↦ grind (arith, nat_tests) | else-self-other w ↦ w.if-self-other.false same.0 ]))
