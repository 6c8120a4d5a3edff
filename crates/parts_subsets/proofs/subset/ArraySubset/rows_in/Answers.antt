use Rattle.std.proofs.Common.{◌≡◌, ◌+◌, ◌*◌, ◌/◌, ◌<◌, ◌^◌, sym, ◌∙◌, arith, length, refl}
use Rattle.std.proofs.lemmas.List.Elements.{length_all_zip}
use Rattle.parts_row_major.specs.Numbering.{count_of}
use Rattle.parts_row_major.specs.Subsets.{number_in}
use Rattle.parts_row_major.specs.Runs.{IsRunLength, AreRows}
use Rattle.parts_row_major.proofs.SubsetLaws.{lies_in_length}
use Rattle.parts_row_major.proofs.PieceLaws.{number_in_below}
use Rattle.parts_row_major.proofs.RunLaws.{run_divides}
use Rattle.parts_row_major.proofs.RowLaws.{subset_rows_at, rows_of_subset}
use Rattle.parts_subsets.proofs.subset.ArraySubset.rows_in.Goals as goal
use Rattle.parts_subsets.proofs.subset.ArraySubset.rows_in.Goals.{After-past_ones-run}

pub row_set-requires-clause-same_axes : goal.row_set-requires-clause-same_axes
row_set-requires-clause-same_axes c =
    let subset = c.args.self.now in
    let same = length_all_zip (λ first len. first + len < 2 ^ 64) subset.start subset.shape c.shape-len.ensures.well_formed in
    let long = lies_in_length subset.start subset.shape c.args.shape.now same c.requires.0 in
    rw c.shape-len.ensures.value (sym same ∙ long)

pub row_set-requires-clause-some_around : goal.row_set-requires-clause-some_around
row_set-requires-clause-some_around c =
    let first = number_in_below c.args.self.now c.args.shape.now 0 c.requires.0 (omega (arith, c.points_in-total.ensures.value)) in
    omega (arith, first)

pub past_ones-run-requires-clause-same_axes : goal.past_ones-run-requires-clause-same_axes
past_ones-run-requires-clause-same_axes c =
    let subset = c.args.self.now in
    let same = length_all_zip (λ first len. first + len < 2 ^ 64) subset.start subset.shape c.shape-len.ensures.well_formed in
    let long = lies_in_length subset.start subset.shape c.args.shape.now same c.requires.0 in
    rw c.shape-len.ensures.value (sym same ∙ long)

pub past_ones-run-requires-clause-some_around : goal.past_ones-run-requires-clause-some_around
past_ones-run-requires-clause-some_around c =
    let first = number_in_below c.args.self.now c.args.shape.now 0 c.requires.0 (omega (arith, c.points_in-total.ensures.value)) in
    omega (arith, first)

-- what is known of the rows of a subset that isn't empty
record Known (c : After-past_ones-run) : Type 0 where
  long : IsRunLength c.args.self.now.shape c.args.shape.now c.past_ones-run.result.run
  same : length c.args.self.now.start ≡ length c.args.self.now.shape
  some : 0 < c.past_ones-run.result.run
  all : (c.points_in-total.result / c.past_ones-run.result.run) * c.past_ones-run.result.run ≡ count_of c.args.self.now.shape
  rows : AreRows (λ i. number_in c.args.self.now c.args.shape.now (i * c.past_ones-run.result.run)) c.past_ones-run.result.rows c.past_ones-run.result.stride (c.points_in-total.result / c.past_ones-run.result.run)

known : (c : After-past_ones-run) → Known c
known c =
    let runs = c.past_ones-run.result in
    let subset = c.args.self.now in
    let many = c.points_in-total.result / runs.run in
    let first = rw c.shape-len.ensures.value at c.row_set.ensures in
    let set = rw c.shape-len.ensures.value at c.past_ones-run.ensures.rows in
    let same_run = c.past_ones-run.ensures.run in
    let long : IsRunLength subset.shape c.args.shape.now runs.run = (first.axis, first.run_axis, same_run ∙ first.run_is) in
    let points : 0 < count_of subset.shape = omega (arith, c.points_in-total.ensures.value) in
    let divides = run_divides subset.shape c.args.shape.now runs.run long points in
    let same = length_all_zip (λ first len. first + len < 2 ^ 64) subset.start subset.shape c.shape-len.ensures.well_formed in
    let all : many * runs.run ≡ count_of subset.shape = rw c.points_in-total.ensures.value divides.1 in
    record {
      long = long;
      same = same;
      some = divides.0;
      all = all;
      rows = subset_rows_at subset c.args.shape.now set.0 runs.run runs.rows runs.stride many same c.requires.0 points set.1 (same_run ∙ set.2) set.3 set.4 set.5 all;
    }

pub nonzero_div-result : goal.nonzero_div-result
nonzero_div-result c = (known (goal.at.nonzero_div-result c).After-past_ones-run).some

pub nonzero_div-result-2 : goal.nonzero_div-result-2
nonzero_div-result-2 c = (known (goal.at.nonzero_div-result-2 c).After-past_ones-run).rows.some

pub returns-clause-rows : goal.returns-clause-rows
returns-clause-rows c =
    let runs = c.past_ones-run.result in
    let k = known (goal.at.returns-clause-rows c).After-past_ones-run in
    let many = c.points_in-total.result / runs.run in
    rows_of_subset c.args.self.now c.args.shape.now runs.run runs.rows runs.stride many (many / runs.rows) k.same c.requires.0 (omega (arith, c.points_in-total.ensures.value)) (omega (arith, c.points_in-total.ensures.value)) k.long k.some k.all k.rows refl
