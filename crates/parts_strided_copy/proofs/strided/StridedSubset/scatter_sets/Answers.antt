use Rattle.std.proofs.Common.{◌≡◌, ◌∙◌, ℕ, ◌+◌, ◌*◌, ◌<◌, ◌≤◌, ap, arith, length}
use Rattle.std.proofs.lemmas.Nat.{mul-le}
use Rattle.parts_row_major.specs.Numbering.{count_of}
use Rattle.parts_row_major.specs.Subsets.{number_in}
use Rattle.parts_row_major.specs.Pieces.{piece}
use Rattle.parts_row_major.specs.Runs.{row_position}
use Rattle.parts_row_major.proofs.PieceLaws.{same_point}
use Rattle.parts_subsets.proofs.RowSetLaws.{SetWithin, set_within, updated_part, end_to_end}
use Rattle.parts_strided_copy.proofs.RowParts.{moved_row_ends, row_ends}
use Rattle.parts_strided_copy.proofs.strided.StridedSubset.scatter_sets.Goals as goal
use Rattle.parts_strided_copy.proofs.strided.StridedSubset.scatter_sets.Goals.{After-set_starts-starts, After-next_start}

-- what is known of a set of the subset's rows
within : (g : _) (c : After-set_starts-starts g) (q : ℕ) → q < c.args.set.sets → SetWithin c.self.inside.subset.now c.self.inside.shape.now c.args.set.run c.args.set.rows c.args.set.stride q
within g c q lt =
    let s = c.self.inside in
    let known = c.self.invariant in
    set_within s.subset.now s.shape.now c.args.set.run c.args.set.rows c.args.set.stride c.args.set.sets q known.1 known.0.0 (rw (← c.self.view_is) at c.requires.rows) lt

pub overflow_mul-each : goal.overflow_mul-each
overflow_mul-each g c = omega (arith, c.requires.rows.set_fits)

pub overflow_mul-done : goal.overflow_mul-done
overflow_mul-done g c =
    omega (arith, (within g (goal.at.overflow_mul-done g c).After-set_starts-starts c.loop-q.q (omega arith)).most, (rw (← c.self.view_is) at c.requires.rows).fits)

pub next_start-requires : goal.next_start-requires
next_start-requires g c = rw c.loop-q.invariant.walk (omega arith)

-- where a set begins
start_is : (g : _) (c : After-next_start g) → c.next_start.result ≡ number_in c.self.inside.subset.now c.self.inside.shape.now (c.loop-q.q * (c.args.set.rows * c.args.set.run))
start_is g c = rw (← c.self.view_is) at (rw c.loop-q.invariant.walk at c.next_start.ensures.value)

-- where a row of a set ends
row_end : (g : _) (c : After-next_start g) (k : ℕ) → c.loop-q.q < c.args.set.sets → k < c.args.set.rows
    → (c.args.moved + c.next_start.result + k * c.args.set.stride + c.args.set.run) * c.args.size ≤ length c.args.output.now
row_end g c k lt small =
    let s = c.self.inside in
    rw (start_is g c) (moved_row_ends s.subset.now s.shape.now c.args.set.run c.args.set.rows c.args.set.stride c.args.set.sets c.loop-q.q k c.args.moved c.args.size (rw (← c.self.view_is) at c.requires.rows) lt small (rw (← c.self.view_is) at c.requires.inside))

pub overflow_add-to : goal.overflow_add-to
overflow_add-to g c =
    let s = c.self.inside in
    let known = c.self.invariant in
    omega (arith, row_ends (c.args.moved + c.next_start.result) c.args.set.stride c.args.set.run c.args.size 0 c.requires.some (row_end g (goal.at.overflow_add-to g c).After-next_start 0 (omega arith) (rw (← c.self.view_is) at c.requires.rows).some_rows))

pub copy_rows_of-requires-clause-inside : goal.copy_rows_of-requires-clause-inside
copy_rows_of-requires-clause-inside g c = λ k lt.
    omega (arith, row_end g (goal.at.copy_rows_of-requires-clause-inside g c).After-next_start k (omega arith) lt, c.loop-q.invariant.whole)

pub copy_rows_of-requires-clause-inside_update : goal.copy_rows_of-requires-clause-inside_update
copy_rows_of-requires-clause-inside_update g c = λ k lt.
    let w = within g (goal.at.copy_rows_of-requires-clause-inside_update g c).After-set_starts-starts c.loop-q.q (omega arith) in
    let s = c.self.inside in
    let done = c.loop-q.q * (c.args.set.rows * c.args.set.run) in
    let whole = rw (← c.self.view_is) at c.requires.whole in
    omega (arith, mul-le (done + k * c.args.set.run + c.args.set.run) c.args.size (count_of s.subset.now.shape) c.args.size (w.part k lt) (omega arith), whole)

pub copy_rows_of-requires-clause-apart : goal.copy_rows_of-requires-clause-apart
copy_rows_of-requires-clause-apart g c = λ i j li lj e.
    let w = within g (goal.at.copy_rows_of-requires-clause-apart g c).After-set_starts-starts c.loop-q.q (omega arith) in
    let apart = rw (← start_is g (goal.at.copy_rows_of-requires-clause-apart g c).After-next_start) at w.apart in
    apart i j li lj (omega (arith, e))

pub loop-q-preserved : goal.loop-q-preserved
loop-q-preserved g c =
    let known = c.loop-q.invariant in
    let s = c.self.inside in
    let q = c.loop-q.q in
    let set = c.args.set in
    let many = set.rows * set.run in
    let subset = s.subset.now in
    let shape = s.shape.now in
    let moved = c.args.moved in
    let lt : q < set.sets = omega arith in
    let w = within g (goal.at.loop-q-preserved g c).After-set_starts-starts q lt in
    let start = start_is g (goal.at.loop-q-preserved g c).After-next_start in
    let more : (q + 1) * many ≡ q * many + many = omega arith in
    let wrote = c.copy_rows_of.ensures in
    let update : ℕ → _ = piece c.args.size c.args.update.now in
    let so_far = rw (← c.self.view_is) at known.so_far in
    record {
      whole = omega (arith, known.whole);
      walk = rw known.walk at c.next_start.ensures.one_more;
      so_far = rw (← c.self.view_is) (rw more (updated_part (q * many) many (count_of subset.shape) (λ k. moved + number_in subset shape k) (row_position (moved + c.next_start.result) set.stride set.run) _ update _ _ so_far
          (record { inside = λ j lj. wrote.inside j lj ∙ ap update (end_to_end (q * many) set.run j); outside = wrote.outside })
          (λ j lj. omega (arith, (rw (← c.self.view_is) at c.requires.rows).each q j lt lj, start)) w.most
          (λ i k li lk e. same_point subset shape i k c.self.invariant.1 c.self.invariant.0.0 li lk (omega (arith, e)))));
    }

pub returns : goal.returns
returns g c =
    let set = c.args.set in
    let end : c.loop-q.q ≡ set.sets = omega arith in
    let all : c.loop-q.q * (set.rows * set.run) ≡ count_of c.self.inside.subset.now.shape = ap (λ q. q * (set.rows * set.run)) end ∙ (rw (← c.self.view_is) at c.requires.rows).all in
    rw (← c.self.view_is) (rw all at (rw (← c.self.view_is) at c.loop-q.invariant.so_far))

pub copy_rows_of-requires-clause-known : goal.copy_rows_of-requires-clause-known
copy_rows_of-requires-clause-known g c = c.requires.known

pub copy_rows_of-requires-clause-least : goal.copy_rows_of-requires-clause-least
copy_rows_of-requires-clause-least g c = c.requires.least

pub copy_rows_of-requires-clause-most : goal.copy_rows_of-requires-clause-most
copy_rows_of-requires-clause-most g c = c.requires.most
