use Rattle.std.proofs.Common.{◌≡◌, [], ◌∷◌, get_or, ap, sym, ◌++◌, ◌∙◌, arith}
use Rattle.std.proofs.lemmas.List.{get_or_default}
use Rattle.sharding_gather.specs.declared.grouping.Standing.{Standing}
use Rattle.sharding_gather.specs.steps.Grouping.{lists_of, standing_at}
use Rattle.sharding_c.specs.Points.{place_at}
use Rattle.sharding_c.proofs.PointLemmas.{pieces_more}
use Rattle.sharding_c.proofs.points.places_of_elements.Goals as goal

pub loop-i-preserved : goal.loop-i-preserved
loop-i-preserved c =
    let elements = c.args.elements.now in
    let i = c.loop-i.i in
    let found = c.index-at.result.now in
    let position = rw c.deref.ensures.value at c.position_of-position.ensures in
    let here : found ≡ standing_at elements i = c.index-at.ensures ∙ get_or_default elements.standings.items i found (record { group = 0; rank = 0 }) (omega (arith, c.loop-i-test.true, c.len-i-end.ensures)) in
    let piece : (found.group ∷ c.position_of-position.result ∷ []) ≡ place_at elements i =
    ap (λ p. found.group ∷ p ∷ []) position ∙ ap (λ (at : Standing). at.group ∷ get_or (get_or (lists_of elements) at.group []) at.rank 0 ∷ []) here in
    c.in_ok-extend_from_slice.ensures.items
    ∙ (ap (λ more. c.loop-i.places.items ++ more) piece
    ∙ (ap (λ places. places ++ place_at elements i) c.loop-i.invariant ∙ sym (pieces_more (place_at elements) i)))
