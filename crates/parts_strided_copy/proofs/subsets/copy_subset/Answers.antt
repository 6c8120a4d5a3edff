use Rattle.std.proofs.Common.{◌≡◌, ◌∙◌, ℕ, ◌+◌, ◌*◌, ◌<◌, ◌≤◌, ap, sym, arith}
use Rattle.std.proofs.lemmas.Nat.{mul-le}
use Rattle.parts_row_major.specs.Numbering.{count_of}
use Rattle.parts_row_major.specs.Subsets.{number_in}
use Rattle.parts_row_major.specs.Pieces.{piece}
use Rattle.parts_row_major.specs.Runs.{row_position}
use Rattle.parts_row_major.proofs.PieceLaws.{same_point}
use Rattle.parts_subsets.proofs.RowSetLaws.{SetWithin, set_within, updated_part}
use Rattle.parts_strided_copy.proofs.subsets.copy_subset.Goals as goal
use Rattle.parts_strided_copy.proofs.subsets.copy_subset.Goals.{After-both_rows-set, After-next_start-in-loop-q}

-- what is known of a set of rows of the subset that is written
within : (c : After-both_rows-set) (q : ℕ) → q < c.both_rows-set.result.sets → SetWithin c.args.into.now c.args.shape.now c.both_rows-set.result.run c.both_rows-set.result.rows c.both_rows-set.result.into q
within c q lt =
    let set = c.both_rows-set in
    set_within c.args.into.now c.args.shape.now set.result.run set.result.rows set.result.into set.result.sets q set.ensures.well_formed c.requires.served.0 set.ensures.into lt

-- what is known of a set of rows of the subset that is copied
within_other : (c : After-both_rows-set) (q : ℕ) → q < c.both_rows-set.result.sets → SetWithin c.args.from.now c.args.other.now c.both_rows-set.result.run c.both_rows-set.result.rows c.both_rows-set.result.from q
within_other c q lt =
    let set = c.both_rows-set in
    set_within c.args.from.now c.args.other.now set.result.run set.result.rows set.result.from set.result.sets q set.ensures.other_well_formed c.requires.other_served.0 set.ensures.from lt

pub overflow_mul-each : goal.overflow_mul-each
overflow_mul-each c = omega (arith, c.both_rows-set.ensures.into.set_fits)

pub set_starts-others-requires-clause-whole : goal.set_starts-others-requires-clause-whole
set_starts-others-requires-clause-whole c = c.both_rows-set.ensures.from.all

pub next_start-requires : goal.next_start-requires
next_start-requires c = rw c.loop-q.invariant.walk (omega arith)

pub next_start-requires-in-loop-q : goal.next_start-requires-in-loop-q
next_start-requires-in-loop-q c = rw c.loop-q.invariant.other_walk (omega arith)

-- where a set begins in either array
start_is : (c : After-next_start-in-loop-q) → c.next_start.result ≡ number_in c.args.into.now c.args.shape.now (c.loop-q.q * (c.both_rows-set.result.rows * c.both_rows-set.result.run))
start_is c = rw c.loop-q.invariant.walk at c.next_start.ensures.value

other_is : (c : After-next_start-in-loop-q) → c.next_start-in-loop-q.result ≡ number_in c.args.from.now c.args.other.now (c.loop-q.q * (c.both_rows-set.result.rows * c.both_rows-set.result.run))
other_is c = rw c.loop-q.invariant.other_walk at c.next_start-in-loop-q.ensures.value

pub returns : goal.returns
returns c =
    let set = c.both_rows-set.result in
    let end : c.loop-q.q ≡ set.sets = omega arith in
    let all : c.loop-q.q * (set.rows * set.run) ≡ count_of c.args.into.now.shape = ap (λ q. q * (set.rows * set.run)) end ∙ c.both_rows-set.ensures.into.all in
    rw all at c.loop-q.invariant.so_far

pub copy_rows-requires-clause-inside : goal.copy_rows-requires-clause-inside
copy_rows-requires-clause-inside c = λ k lt.
    let w = within (goal.at.copy_rows-requires-clause-inside c).After-both_rows-set c.loop-q.q (omega arith) in
    let set = c.both_rows-set.result in
    let end : c.next_start.result + k * set.into + set.run ≤ count_of c.args.shape.now = omega (arith, w.within k lt, (start_is (goal.at.copy_rows-requires-clause-inside c).After-next_start-in-loop-q)) in
    omega (arith, mul-le (c.next_start.result + k * set.into + set.run) c.args.size (count_of c.args.shape.now) c.args.size end (omega arith), c.loop-q.invariant.whole, c.requires.whole)

pub copy_rows-requires-clause-inside_update : goal.copy_rows-requires-clause-inside_update
copy_rows-requires-clause-inside_update c = λ k lt.
    let w = within_other (goal.at.copy_rows-requires-clause-inside_update c).After-both_rows-set c.loop-q.q (omega arith) in
    let set = c.both_rows-set.result in
    let first = c.next_start-in-loop-q.result in
    let end : first + k * set.from + set.run ≤ count_of c.args.other.now = omega (arith, w.within k lt, other_is (goal.at.copy_rows-requires-clause-inside_update c).After-next_start-in-loop-q) in
    omega (arith, mul-le (first + k * set.from + set.run) c.args.size (count_of c.args.other.now) c.args.size end (omega arith), c.requires.whole_update)

pub copy_rows-requires-clause-apart : goal.copy_rows-requires-clause-apart
copy_rows-requires-clause-apart c =
    let w = within (goal.at.copy_rows-requires-clause-apart c).After-both_rows-set c.loop-q.q (omega arith) in
    rw (start_is (goal.at.copy_rows-requires-clause-apart c).After-next_start-in-loop-q) w.apart

pub loop-q-preserved : goal.loop-q-preserved
loop-q-preserved c =
    let known = c.loop-q.invariant in
    let q = c.loop-q.q in
    let set = c.both_rows-set.result in
    let many = set.rows * set.run in
    let subset = c.args.into.now in
    let shape = c.args.shape.now in
    let lt : q < set.sets = omega arith in
    let w = within (goal.at.loop-q-preserved c).After-both_rows-set q lt in
    let more : (q + 1) * many ≡ q * many + many = omega arith in
    let wrote = c.copy_rows.ensures in
    let update : ℕ → _ = piece c.args.size c.args.update.now in
    let first = other_is (goal.at.loop-q-preserved c).After-next_start-in-loop-q in
    record {
      whole = omega (arith, known.whole);
      walk = rw known.walk at c.next_start.ensures.one_more;
      other_walk = rw known.other_walk at c.next_start-in-loop-q.ensures.one_more;
      so_far = rw more (updated_part (q * many) many (count_of subset.shape) (number_in subset shape) (row_position c.next_start.result set.into set.run) _
          (λ k. update (number_in c.args.from.now c.args.other.now k)) _ _ known.so_far
          (record {
            inside = λ j lj. wrote.inside j lj ∙ ap update (ap (λ n. row_position n set.from set.run j) first ∙ sym (c.both_rows-set.ensures.from.each q j lt lj));
            outside = wrote.outside;
          })
          (λ j lj. c.both_rows-set.ensures.into.each q j lt lj ∙ ap (λ n. row_position n set.into set.run j) (sym (start_is (goal.at.loop-q-preserved c).After-next_start-in-loop-q))) w.most
          (λ i k li lk e. same_point subset shape i k c.both_rows-set.ensures.well_formed c.requires.served.0 li lk e));
    }
