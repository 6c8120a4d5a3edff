use Rattle.std.proofs.Common.{◌≡◌, ◌∙◌, ℕ, ◌+◌, ◌-◌, ◌*◌, ◌<◌, ◌≤◌, ap, sym, arith, length, inl, inr}
use Rattle.std.proofs.lemmas.Bool.{cases_lt}
use Rattle.std.proofs.lemmas.Nat.{mul-le}
use Rattle.parts_row_major.specs.Numbering.{count_of}
use Rattle.parts_row_major.specs.Subsets.{number_in}
use Rattle.parts_row_major.specs.Pieces.{piece}
use Rattle.parts_row_major.specs.Runs.{row_position}
use Rattle.parts_subsets.proofs.RowSetLaws.{SetWithin, set_within, end_to_end}
use Rattle.parts_strided_copy.proofs.RowParts.{moved_row_ends, row_ends}
use Rattle.parts_strided_copy.proofs.strided.StridedSubset.gather_sets.Goals as goal
use Rattle.parts_strided_copy.proofs.strided.StridedSubset.gather_sets.Goals.{After-set_starts-starts, After-next_start}

-- what is known of a set of the subset's rows
within : (g : _) (c : After-set_starts-starts g) (q : ℕ) → q < c.args.set.sets → SetWithin c.self.inside.subset.now c.self.inside.shape.now c.args.set.run c.args.set.rows c.args.set.stride q
within g c q lt =
    let s = c.self.inside in
    let known = c.self.invariant in
    set_within s.subset.now s.shape.now c.args.set.run c.args.set.rows c.args.set.stride c.args.set.sets q known.1 known.0.0 (rw (← c.self.view_is) at c.requires.rows) lt

pub overflow_mul-each : goal.overflow_mul-each
overflow_mul-each g c = omega (arith, c.requires.rows.set_fits)

pub overflow_mul-done : goal.overflow_mul-done
overflow_mul-done g c =
    omega (arith, (within g (goal.at.overflow_mul-done g c).After-set_starts-starts c.loop-q.q (omega arith)).most, (rw (← c.self.view_is) at c.requires.rows).fits)

pub next_start-requires : goal.next_start-requires
next_start-requires g c = rw c.loop-q.invariant.walk (omega arith)

-- where a set begins
start_is : (g : _) (c : After-next_start g) → c.next_start.result ≡ number_in c.self.inside.subset.now c.self.inside.shape.now (c.loop-q.q * (c.args.set.rows * c.args.set.run))
start_is g c = rw (← c.self.view_is) at (rw c.loop-q.invariant.walk at c.next_start.ensures.value)

-- where a row of a set ends
row_end : (g : _) (c : After-next_start g) (k : ℕ) → c.loop-q.q < c.args.set.sets → k < c.args.set.rows
    → (c.args.moved + c.next_start.result + k * c.args.set.stride + c.args.set.run) * c.args.size ≤ length c.args.bytes.now
row_end g c k lt small =
    let s = c.self.inside in
    rw (start_is g c) (moved_row_ends s.subset.now s.shape.now c.args.set.run c.args.set.rows c.args.set.stride c.args.set.sets c.loop-q.q k c.args.moved c.args.size (rw (← c.self.view_is) at c.requires.rows) lt small (rw (← c.self.view_is) at c.requires.inside))

pub overflow_add-from : goal.overflow_add-from
overflow_add-from g c =
    let s = c.self.inside in
    let known = c.self.invariant in
    omega (arith, row_ends (c.args.moved + c.next_start.result) c.args.set.stride c.args.set.run c.args.size 0 c.requires.some (row_end g (goal.at.overflow_add-from g c).After-next_start 0 (omega arith) (rw (← c.self.view_is) at c.requires.rows).some_rows))

pub copy_rows_of-requires-clause-inside : goal.copy_rows_of-requires-clause-inside
copy_rows_of-requires-clause-inside g c = λ k lt.
    let w = within g (goal.at.copy_rows_of-requires-clause-inside g c).After-set_starts-starts c.loop-q.q (omega arith) in
    let s = c.self.inside in
    let done = c.loop-q.q * (c.args.set.rows * c.args.set.run) in
    let whole = rw (← c.self.view_is) at c.requires.whole in
    omega (arith, mul-le (done + k * c.args.set.run + c.args.set.run) c.args.size (count_of s.subset.now.shape) c.args.size (w.part k lt) (omega arith), c.loop-q.invariant.whole, whole)

pub copy_rows_of-requires-clause-inside_update : goal.copy_rows_of-requires-clause-inside_update
copy_rows_of-requires-clause-inside_update g c = λ k lt.
    row_end g (goal.at.copy_rows_of-requires-clause-inside_update g c).After-next_start k (omega arith) lt

pub copy_rows_of-requires-clause-apart : goal.copy_rows_of-requires-clause-apart
copy_rows_of-requires-clause-apart g c = λ i j li lj e.
    let set = c.args.set in
    let done = c.loop-q.q * (set.rows * set.run) in
    omega (arith, end_to_end done set.run i, end_to_end done set.run j, e)

pub loop-q-preserved : goal.loop-q-preserved
loop-q-preserved g c =
    let known = c.loop-q.invariant in
    let s = c.self.inside in
    let q = c.loop-q.q in
    let set = c.args.set in
    let many = set.rows * set.run in
    let done = q * many in
    let subset = s.subset.now in
    let shape = s.shape.now in
    let moved = c.args.moved in
    let lt : q < set.sets = omega arith in
    let start = start_is g (goal.at.loop-q-preserved g c).After-next_start in
    let wrote = c.copy_rows_of.ensures in
    let newer : ℕ → _ = piece c.args.size c.copy_rows_of.new.output in
    let taken : ℕ → _ = piece c.args.size c.args.bytes.now in
    let so_far = rw (← c.self.view_is) at known.so_far in
    record {
      whole = omega (arith, known.whole);
      walk = rw known.walk at c.next_start.ensures.one_more;
      so_far = rw (← c.self.view_is) (λ k small. elim (cases_lt k done) [
        | inl below ↦ wrote.outside k (λ j lj e. let at = end_to_end done set.run j in absurd (omega (arith, at, e))) ∙ so_far k below
        | inr past ↦
            let j = k - done in
            let lj : j < many = omega (arith, small) in
            let at : done + j ≡ k = omega arith in
            let here : row_position done set.run set.run j ≡ k = end_to_end done set.run j ∙ at in
            let each : number_in subset shape k ≡ row_position (number_in subset shape done) set.stride set.run j = ap (number_in subset shape) (sym at) ∙ (rw (← c.self.view_is) at c.requires.rows).each q j lt lj in
            let there : row_position (moved + c.next_start.result) set.stride set.run j ≡ moved + number_in subset shape k = omega (arith, each, start) in
            ap newer (sym here) ∙ (wrote.inside j lj ∙ ap taken there)
      ]);
    }

pub returns : goal.returns
returns g c =
    let set = c.args.set in
    let end : c.loop-q.q ≡ set.sets = omega arith in
    let all : c.loop-q.q * (set.rows * set.run) ≡ count_of c.self.inside.subset.now.shape = ap (λ q. q * (set.rows * set.run)) end ∙ (rw (← c.self.view_is) at c.requires.rows).all in
    rw (← c.self.view_is) (rw all at (rw (← c.self.view_is) at c.loop-q.invariant.so_far))

pub copy_rows_of-requires-clause-known : goal.copy_rows_of-requires-clause-known
copy_rows_of-requires-clause-known g c = c.requires.known

pub copy_rows_of-requires-clause-least : goal.copy_rows_of-requires-clause-least
copy_rows_of-requires-clause-least g c = c.requires.least

pub copy_rows_of-requires-clause-most : goal.copy_rows_of-requires-clause-most
copy_rows_of-requires-clause-most g c = c.requires.most
