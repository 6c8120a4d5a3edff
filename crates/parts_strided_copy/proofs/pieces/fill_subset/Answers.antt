use Rattle.std.proofs.Common.{◌+◌, arith, refl}
use Rattle.parts_row_major.specs.Pieces.{piece}
use Rattle.parts_row_major.proofs.RunLaws.{NextFits, next_fits, partly_none, partly_more, partly_all}
use Rattle.parts_strided_copy.proofs.pieces.fill_subset.Goals as goal
use Rattle.parts_strided_copy.proofs.pieces.fill_subset.Goals.{In-Some}

pub loop-first-init : goal.loop-first-init
loop-first-init c =
    let gives = c.into_iter-first-iterator.ensures.into_iter_gives in
    let runs = c.runs_in-first-items in
    record {
      whole = refl;
      so_far = (0, rw gives (partly_none c.args.subset.now c.args.shape.now runs.result (piece c.args.size c.args.output.now) (λ k. c.args.element.now) runs.ensures.runs runs.ensures.within));
    }

fits : (c : In-Some) → NextFits c.args.subset.now c.args.shape.now c.loop-first.invariant.so_far.0 c.in-Some.first c.in-Some.len c.args.size
fits c =
    next_fits c.args.subset.now c.args.shape.now c.loop-first.invariant.so_far.0 c.in-Some.first c.in-Some.len c.args.size c.loop-first.first-iterator c.next.new.self
    (piece c.args.size c.args.output.now) (λ k. c.args.element.now) (piece c.args.size c.loop-first.output) c.in-Some.ensures.steps c.loop-first.invariant.so_far.1

pub fill_run-requires-clause-inside : goal.fill_run-requires-clause-inside
fill_run-requires-clause-inside c =
    omega (arith, (fits (goal.at.fill_run-requires-clause-inside c).In-Some).bytes, c.loop-first.invariant.whole, c.requires.whole)

pub fill_run-requires-clause-fits : goal.fill_run-requires-clause-fits
fill_run-requires-clause-fits c = omega (arith, (fits (goal.at.fill_run-requires-clause-fits c).In-Some).within, c.requires.served.1)

pub loop-first-preserved : goal.loop-first-preserved
loop-first-preserved c =
    let known = c.loop-first.invariant in
    let wrote = c.fill_run.ensures in
    record {
      whole = omega (arith, known.whole);
      so_far = (
        known.so_far.0 + c.in-Some.len,
        partly_more c.args.subset.now c.args.shape.now c.loop-first.invariant.so_far.0 c.in-Some.first c.in-Some.len c.loop-first.first-iterator c.next.new.self
            (piece c.args.size c.args.output.now) (λ k. c.args.element.now) (piece c.args.size c.loop-first.output) (piece c.args.size c.fill_run.new.output)
            c.runs_in-first-items.ensures.well_formed c.requires.served.0 c.in-Some.ensures.steps known.so_far.1 wrote.written wrote.before wrote.after,
      );
    }

pub returns : goal.returns
returns c =
    partly_all c.args.subset.now c.args.shape.now c.loop-first.invariant.so_far.0 c.loop-first.first-iterator
    (piece c.args.size c.args.output.now) (λ k. c.args.element.now) (piece c.args.size c.loop-first.output) c.in-None.ensures.steps.0 c.loop-first.invariant.so_far.1
