use Rattle.std.proofs.Common.{arith, refl}
use Rattle.std.proofs.lemmas.Bool.{false≢true}
use Rattle.sharding_plans.proofs.FetchLemmas.{merged_first, merged_next, merged_same, merged_all}
use Rattle.sharding_plans.proofs.fetches.merge.Goals as goal
use Rattle.sharding_plans.proofs.fetches.merge.Goals.{then-are_apart+in_ok-push, else-are_apart}

pub loop-i-init : goal.loop-i-init
loop-i-init c =
    let a = c.args in
    rw c.new-fetches.ensures.items (merged_first a.gap a.slices.now c.requires.sorted c.requires.fits _ (omega arith) refl)

pub loop-i-preserved : goal.loop-i-preserved
loop-i-preserved c =
    let a = c.args in
    let l = c.loop-i in
    elim c.if-are_apart.branch [
      | then-are_apart+in_ok-push w ↦ rw (w.fetches-is, w.in_ok-push.ensures.items, w.current-is)
          (merged_next a.gap a.slices.now c.requires.sorted c.requires.fits l.i l.fetches.items l.current _ c.loop-i-test.true refl l.invariant (w.if-are_apart.ensures.0 refl))
      | else-are_apart w ↦ rw w.fetches-is
          (merged_same a.gap a.slices.now c.requires.sorted c.requires.fits l.i l.fetches.items l.current _ c.loop-i-test.true refl l.invariant c.if-are_apart.current
          (λ apart. false≢true (w.if-are_apart.ensures.1 apart)) (rw w.current-is w.joined-current.ensures.offset) (rw w.current-is w.joined-current.ensures.end))
    ]

pub returns : goal.returns
returns c =
    let a = c.args in
    rw c.in_ok-push-2.ensures.items
    (merged_all a.gap a.slices.now c.requires.sorted c.requires.fits c.loop-i.i c.loop-i.fetches.items c.loop-i.current (omega arith) c.loop-i.invariant)
