use Rattle.std.proofs.Common.{refl}
use Rattle.std.proofs.lemmas.Bool.{false≢true}
use Rattle.sharding_plans.proofs.AxesLemmas.{passed_on}
use Rattle.sharding_plans.proofs.WriteLemmas.{some_room, appended, no_length_after, no_length_anew}
use Rattle.sharding_plans.proofs.write_plan.settle.Goals as goal

pub append-requires-clause-room : goal.append-requires-clause-room
append-requires-clause-room c =
    let a = c.args in
    some_room a.place a.index.now.len a.index.now.numbers.now _ a.touched.now a.sizes.now (rw c.requires.copied at c.cleared-numbers.ensures) c.requires.room
    (λ all. false≢true (c.if-not-is_anew.ensures.1 (rw c.deref.ensures.value all)))

pub returns-then-not-is_anew-clause-plan : goal.returns-then-not-is_anew-clause-plan
returns-then-not-is_anew-clause-plan c =
    let a = c.args in
    let e = c.in_ok-plan.ensures in
    appended a.place a.index.now.len a.index.now.numbers.now _ a.touched.now a.sizes.now (rw c.requires.copied at c.cleared-numbers.ensures) c.in_ok-plan.plan a.total
    c.requires.total (λ all. false≢true (c.if-not-is_anew.ensures.1 (rw c.deref.ensures.value all))) e.outcome e.entries e.write_offset e.index_offset e.len e.small

pub returns-in_err-plan-clause-refused : goal.returns-in_err-plan-clause-refused
returns-in_err-plan-clause-refused c =
    let a = c.args in
    let e = c.in_err-plan.ensures.refused in
    passed_on _ c.in_err-plan.field-0.0 _ c.from_residual.ensures.1 (
      e.0,
      no_length_after a.place a.index.now.len a.index.now.numbers.now _ a.touched.now a.sizes.now (rw c.requires.copied at c.cleared-numbers.ensures) a.total
          (λ all. false≢true (c.if-not-is_anew.ensures.1 (rw c.deref.ensures.value all))) e.1,
    )

pub returns-in_err-plan-2-clause-refused : goal.returns-in_err-plan-2-clause-refused
returns-in_err-plan-2-clause-refused c =
    let a = c.args in
    let e = c.in_err-plan-2.ensures.refused in
    passed_on _ c.in_err-plan-2.field-0.0 _ c.from_residual-in_err-plan-2.ensures.1 (
      e.0,
      no_length_anew a.place a.index.now.len a.index.now.numbers.now _ a.touched.now a.sizes.now (rw c.requires.copied at c.cleared-numbers.ensures) a.total
          (rw c.deref.ensures.value at (c.if-not-is_anew.ensures.0 refl)) e.1,
    )
