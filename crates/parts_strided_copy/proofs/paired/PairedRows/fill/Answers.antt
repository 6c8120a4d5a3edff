use Rattle.std.proofs.Common.{◌≡◌, ◌∙◌, ℕ, ◌+◌, ◌*◌, ◌^◌, ◌<◌, ◌≤◌, ap, sym, length, arith}
use Rattle.std.proofs.lemmas.Nat.{row_fits}
use Rattle.parts_row_major.specs.Runs.{row_position}
use Rattle.parts_row_major.proofs.NumberingLaws.{both_positive}
use Rattle.parts_subsets.proofs.RowSetLaws.{updated_part}
use Rattle.parts_strided_copy.specs.Paired.{rows_along, steps_of, elements_in_rows, into_at, steps_to}
use Rattle.parts_strided_copy.specs.declared.paired.RowStep.{RowStep}
use Rattle.parts_strided_copy.proofs.RowParts.{row_ends}
use Rattle.parts_strided_copy.proofs.PairedLemmas.{set_along, set_below, set_row_ends}
use Rattle.parts_strided_copy.proofs.paired.PairedRows.fill.Goals as goal
use Rattle.parts_strided_copy.proofs.paired.PairedRows.fill.Goals.{In-loop-q, After-row_behind-behind}

-- each row has an element, and each set a row
each_some : (c : In-loop-q) → (0 < c.args.self.now.run) × (0 < c.args.self.now.first.rows) × (0 < rows_along c.args.self.now.others.items)
each_some c =
    let s = c.args.self.now in
    let each = both_positive s.run (rows_along (steps_of s)) c.requires.are_rows.some in
    let inner = both_positive s.first.rows (rows_along s.others.items) each.1 in
    (each.0, inner.0, inner.1)

-- where a row of a set ends, in either array
into_end : (c : In-loop-q) (k : ℕ) → k < c.args.self.now.first.rows
    → (c.args.self.now.into + steps_to (λ (step : RowStep). step.into) c.args.self.now.others.items c.loop-q.q + k * c.args.self.now.first.into + c.args.self.now.run) * c.args.size ≤ length c.args.output.now
into_end c k small =
    let s = c.args.self.now in
    set_row_ends (λ (step : RowStep). step.into) s.into s.run s.first s.others.items s.sets c.loop-q.q c.args.size (each_some c).0 (each_some c).1 c.requires.are_rows.counted (omega arith) c.requires.inside k small

from_end : (c : In-loop-q) (k : ℕ) → k < c.args.self.now.first.rows
    → (c.args.self.now.from + steps_to (λ (step : RowStep). step.from) c.args.self.now.others.items c.loop-q.q + k * c.args.self.now.first.from + c.args.self.now.run) * 1 ≤ 2 ^ 64
from_end c k small =
    let s = c.args.self.now in
    set_row_ends (λ (step : RowStep). step.from) s.from s.run s.first s.others.items s.sets c.loop-q.q 1 (each_some c).0 (each_some c).1 c.requires.are_rows.counted (omega arith) (λ i lt. omega (arith, c.requires.from_fits i lt)) k small

-- how far a set begins behind the first, in either array
into_behind : (c : After-row_behind-behind) → c.row_behind-behind.result.into ≡ steps_to (λ (step : RowStep). step.into) c.args.self.now.others.items c.loop-q.q
into_behind c = rw c.deref.ensures.value at c.row_behind-behind.ensures.into

-- a set begins below the number of bytes, in either array
into_small : (c : In-loop-q) → c.args.self.now.into + steps_to (λ (step : RowStep). step.into) c.args.self.now.others.items c.loop-q.q ≤ length c.args.output.now
into_small c =
    let s = c.args.self.now in
    omega (arith, row_ends (s.into + steps_to (λ (step : RowStep). step.into) s.others.items c.loop-q.q) s.first.into s.run c.args.size 0 c.requires.some (into_end c 0 (each_some c).1))

from_small : (c : In-loop-q) → c.args.self.now.from + steps_to (λ (step : RowStep). step.from) c.args.self.now.others.items c.loop-q.q + c.args.self.now.run ≤ 2 ^ 64
from_small c = omega (arith, from_end c 0 (each_some c).1)

pub row_behind-behind-requires-clause-some : goal.row_behind-behind-requires-clause-some
row_behind-behind-requires-clause-some c = rw c.deref.ensures.value (each_some (goal.at.row_behind-behind-requires-clause-some c).In-loop-q).2

pub row_behind-behind-requires-clause-into_fits : goal.row_behind-behind-requires-clause-into_fits
row_behind-behind-requires-clause-into_fits c = rw c.deref.ensures.value (omega (arith, into_small (goal.at.row_behind-behind-requires-clause-into_fits c).In-loop-q))

pub row_behind-behind-requires-clause-from_fits : goal.row_behind-behind-requires-clause-from_fits
row_behind-behind-requires-clause-from_fits c = rw c.deref.ensures.value (omega (arith, from_small (goal.at.row_behind-behind-requires-clause-from_fits c).In-loop-q, (each_some (goal.at.row_behind-behind-requires-clause-from_fits c).In-loop-q).0))

pub overflow_add-to : goal.overflow_add-to
overflow_add-to c = omega (arith, into_small (goal.at.overflow_add-to c).In-loop-q, into_behind (goal.at.overflow_add-to c).After-row_behind-behind)

pub fill_rows-requires-clause-inside : goal.fill_rows-requires-clause-inside
fill_rows-requires-clause-inside c = λ k lt.
    rw (into_behind (goal.at.fill_rows-requires-clause-inside c).After-row_behind-behind) (omega (arith, into_end (goal.at.fill_rows-requires-clause-inside c).In-loop-q k lt, c.loop-q.invariant.whole))

-- where the elements of a set lie, in either array
into_is : (c : After-row_behind-behind) (j : ℕ) → 0 < c.args.self.now.run → 0 < c.args.self.now.first.rows → j < c.args.self.now.first.rows * c.args.self.now.run
    → into_at c.args.self.now (c.loop-q.q * (c.args.self.now.first.rows * c.args.self.now.run) + j) ≡ row_position (c.args.self.now.into + c.row_behind-behind.result.into) c.args.self.now.first.into c.args.self.now.run j
into_is c j some_run some_rows lj =
    let s = c.args.self.now in
    rw (into_behind c) (set_along (λ (step : RowStep). step.into) s.into s.run s.first s.others.items c.loop-q.q j some_run some_rows lj)

pub fill_rows-requires-clause-apart : goal.fill_rows-requires-clause-apart
fill_rows-requires-clause-apart c = λ i j li lj e.
    let s = c.args.self.now in
    let q = c.loop-q.q in
    let here = each_some (goal.at.fill_rows-requires-clause-apart c).In-loop-q in
    let after = (goal.at.fill_rows-requires-clause-apart c).After-row_behind-behind in
    let below : (k : ℕ) → k < s.first.rows * s.run → q * (s.first.rows * s.run) + k < elements_in_rows s = λ k lk. set_below s.run s.first.rows s.others.items s.sets q k c.requires.are_rows.counted (omega arith) lk in
    let same = c.requires.apart (q * (s.first.rows * s.run) + i) (q * (s.first.rows * s.run) + j) (below i li) (below j lj) (into_is after i here.0 here.1 li ∙ (e ∙ sym (into_is after j here.0 here.1 lj))) in
    omega (arith, same)

pub loop-q-preserved : goal.loop-q-preserved
loop-q-preserved c =
    let s = c.args.self.now in
    let q = c.loop-q.q in
    let many = s.first.rows * s.run in
    let here = each_some (goal.at.loop-q-preserved c).In-loop-q in
    let after = (goal.at.loop-q-preserved c).After-row_behind-behind in
    let known = c.loop-q.invariant in
    let wrote = c.fill_rows.ensures in
    let more : (q + 1) * many ≡ q * many + many = omega arith in
    let below : (k : ℕ) → k < many → q * many + k < elements_in_rows s = λ k lk. set_below s.run s.first.rows s.others.items s.sets q k c.requires.are_rows.counted (omega arith) lk in
    let most : q * many + many ≤ elements_in_rows s = omega (arith, row_fits q many s.sets many (omega arith) (omega arith), ap (λ n. n * many) c.requires.are_rows.counted) in
    record {
      whole = omega (arith, known.whole);
      so_far = rw more (updated_part (q * many) many (elements_in_rows s) (into_at s) (row_position (s.into + c.row_behind-behind.result.into) s.first.into s.run) _ (λ k. c.args.element.now) _ _ known.so_far
          (record { inside = wrote.inside; outside = wrote.outside })
          (λ j lj. into_is after j here.0 here.1 lj) most c.requires.apart);
    }

pub returns : goal.returns
returns c =
    let s = c.args.self.now in
    let end : c.loop-q.q ≡ s.sets = omega arith in
    let all : c.loop-q.q * (s.first.rows * s.run) ≡ elements_in_rows s = omega (arith, ap (λ n. n * (s.first.rows * s.run)) (end ∙ c.requires.are_rows.counted)) in
    rw all at c.loop-q.invariant.so_far
