use Rattle.std.proofs.Common.{◌≡◌, ◌+◌, ◌*◌, ◌/◌, ◌<◌, ◌^◌, sym, ◌∙◌, arith, length}
use Rattle.std.proofs.lemmas.List.Elements.{length_all_zip}
use Rattle.parts_row_major.specs.Numbering.{count_of}
use Rattle.parts_row_major.specs.Subsets.{Subset, number_in}
use Rattle.parts_row_major.specs.Runs.{IsRunLength, IsRowSet}
use Rattle.parts_row_major.proofs.SubsetLaws.{lies_in_length}
use Rattle.parts_row_major.proofs.PieceLaws.{number_in_below}
use Rattle.parts_row_major.proofs.RunLaws.{run_divides, runs_are_numbers, runs_are_long, runs_within}
use Rattle.parts_row_major.proofs.RowLaws.{subset_rows, stepping_none}
use Rattle.parts_row_major.proofs.runs.ContiguousRuns.of_subset.Goals as goal
use Rattle.parts_row_major.proofs.runs.ContiguousRuns.of_subset.Goals.{After-row_set-run}

pub row_set-run-requires-clause-same_axes : goal.row_set-run-requires-clause-same_axes
row_set-run-requires-clause-same_axes c =
    let start = c.args.start.now in
    let len = c.args.len.now in
    let same = length_all_zip (λ first len. first + len < 2 ^ 64) start len c.requires.well_formed in
    sym same ∙ lies_in_length start len c.args.shape.now same c.requires.served.0

pub row_set-run-requires-clause-some_around : goal.row_set-run-requires-clause-some_around
row_set-run-requires-clause-some_around c =
    let subset : Subset = record { start = c.args.start.now; shape = c.args.len.now } in
    let first = number_in_below subset c.args.shape.now 0 c.requires.served.0 (omega (arith, c.points_in-total.ensures)) in
    omega (arith, first)

-- the subset whose runs these are
abbrev subset_of : After-row_set-run → Subset
subset_of c = record { start = c.args.start.now; shape = c.args.len.now }

-- what is known of the runs of a subset that isn't empty
record Known (c : After-row_set-run) : Type 0 where
  set : IsRowSet c.args.len.now c.args.shape.now c.row_set-run.result.run c.row_set-run.result.rows c.row_set-run.result.stride
  long : IsRunLength c.args.len.now c.args.shape.now c.row_set-run.result.run
  same : length c.args.start.now ≡ length c.args.len.now
  total : c.points_in-total.result ≡ count_of c.args.len.now
  points : 0 < count_of c.args.len.now
  some : 0 < c.row_set-run.result.run
  all : (c.points_in-total.result / c.row_set-run.result.run) * c.row_set-run.result.run ≡ count_of c.args.len.now

known : (c : After-row_set-run) → Known c
known c =
    let set = c.row_set-run.ensures in
    let long : IsRunLength c.args.len.now c.args.shape.now c.row_set-run.result.run = (set.axis, set.run_axis, set.run_is) in
    let total : c.points_in-total.result ≡ count_of c.args.len.now = c.points_in-total.ensures in
    let points : 0 < count_of c.args.len.now = omega (arith, total) in
    let divides = run_divides c.args.len.now c.args.shape.now c.row_set-run.result.run long points in
    record {
      set = set;
      long = long;
      same = length_all_zip (λ first len. first + len < 2 ^ 64) c.args.start.now c.args.len.now c.requires.well_formed;
      total = total;
      points = points;
      some = divides.0;
      all = rw total divides.1;
    }

pub nonzero_div-result : goal.nonzero_div-result
nonzero_div-result c = (known (goal.at.nonzero_div-result c).After-row_set-run).some

pub invariant_of-result-2 : goal.invariant_of-result-2
invariant_of-result-2 c =
    let at = (goal.at.invariant_of-result-2 c).After-row_set-run in
    let subset = subset_of at in
    let runs = c.row_set-run.result in
    let k = known at in
    let many = c.points_in-total.result / runs.run in (
      record { well_formed = c.requires.well_formed; served = c.requires.served; all = k.all; fits = omega (arith, k.total); some = k.some; done = omega arith },
      stepping_none (λ i. number_in subset c.args.shape.now (i * runs.run)) runs.rows runs.stride many (subset_rows subset c.args.shape.now runs.run runs.rows runs.stride many k.same c.requires.served.0 k.points k.set k.all),
    )

pub returns-clause-runs : goal.returns-clause-runs
returns-clause-runs c =
    let at = (goal.at.returns-clause-runs c).After-row_set-run in
    let k = known at in
    runs_are_numbers (subset_of at) c.args.shape.now c.row_set-run.result.run (c.points_in-total.result / c.row_set-run.result.run) k.same c.requires.served.0 k.long k.all

pub returns-clause-long : goal.returns-clause-long
returns-clause-long c =
    let at = (goal.at.returns-clause-long c).After-row_set-run in
    runs_are_long (subset_of at) c.args.shape.now c.row_set-run.result.run 0 (c.points_in-total.result / c.row_set-run.result.run) (known at).long

pub returns-clause-within : goal.returns-clause-within
returns-clause-within c =
    let at = (goal.at.returns-clause-within c).After-row_set-run in
    let k = known at in
    runs_within (subset_of at) c.args.shape.now c.row_set-run.result.run (c.points_in-total.result / c.row_set-run.result.run) k.same c.requires.served.0 k.long k.some k.all
