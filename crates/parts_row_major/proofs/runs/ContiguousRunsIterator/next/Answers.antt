use Rattle.std.proofs.Common.{◌+◌, ◌*◌, ◌<◌, ◌∷◌, ◌∙◌, ap, sym, arith, rules}
use Rattle.parts_row_major.specs.Subsets.{Subset}
use Rattle.parts_row_major.specs.Runs.{runs_from}
use Rattle.parts_row_major.proofs.PieceLaws.{number_in_below}
use Rattle.parts_row_major.proofs.RunLaws.{runs_next}
use Rattle.parts_row_major.proofs.RowLaws.{run_below, turn_fits, position_next, stepping_turn, stepping_more}
use Rattle.parts_row_major.proofs.runs.ContiguousRunsIterator.next.Goals as goal

pub overflow_add-self : goal.overflow_add-self
overflow_add-self c =
    let runs = c.self.inside in
    let subset : Subset = record { start = runs.start.now; shape = runs.len.now } in
    let known = c.self.invariant in
    let lt : runs.next < runs.turn = omega arith in
    let at = position_next _ runs.rows runs.stride runs.next runs.turn runs.many runs.last known.1 lt in
    let below = number_in_below subset runs.shape.now (runs.next * runs.run) known.0.served.0 (run_below subset runs.shape.now runs.run runs.next runs.many known.0 (omega (arith, known.1.within))) in
    omega (arith, at, below, known.0.served.1)

pub invariant_of-self : goal.invariant_of-self
invariant_of-self c =
    let runs = c.self.inside in
    let subset : Subset = record { start = runs.start.now; shape = runs.len.now } in
    let known = c.self.invariant in (
      record { well_formed = known.0.well_formed; served = known.0.served; all = known.0.all; fits = known.0.fits; some = known.0.some; done = omega (arith, known.1.within) },
      stepping_more _ runs.rows runs.stride runs.next runs.turn runs.many runs.last known.1 (omega arith),
    )

pub returns-then-self-clause-steps : goal.returns-then-self-clause-steps
returns-then-self-clause-steps c =
    let runs = c.self.inside in
    let subset : Subset = record { start = runs.start.now; shape = runs.len.now } in
    let known = c.self.invariant in
    let more = runs_next subset runs.shape.now runs.run runs.next runs.many (omega (arith, known.1.within)) in
    let at = position_next _ runs.rows runs.stride runs.next runs.turn runs.many runs.last known.1 (omega arith) in
    sym c.self.view_is ∙ (more ∙ ap (λ first. (first, runs.run) ∷ runs_from subset runs.shape.now runs.run (runs.next + 1) runs.many) (sym at))

pub returns-then-self-clause-goes : goal.returns-then-self-clause-goes
returns-then-self-clause-goes c =
    let runs = c.self.inside in
    let subset : Subset = record { start = runs.start.now; shape = runs.len.now } in
    let more = runs_next subset runs.shape.now runs.run runs.next runs.many (omega (arith, c.self.invariant.1.within)) in
    let seen = sym c.self.view_is ∙ more in
    search rules

pub overflow_add-self-2 : goal.overflow_add-self-2
overflow_add-self-2 c =
    let runs = c.self.inside in
    let subset : Subset = record { start = runs.start.now; shape = runs.len.now } in
    let known = c.self.invariant in
    let fits = turn_fits _ runs.rows runs.stride runs.next runs.turn runs.many runs.last known.1 (omega (arith, known.1.before)) (omega (arith, known.0.done)) in
    omega (arith, fits)

pub invariant_of-self-2 : goal.invariant_of-self-2
invariant_of-self-2 c =
    let runs = c.self.inside in
    let subset : Subset = record { start = runs.start.now; shape = runs.len.now } in
    let known = c.self.invariant in (
      record { well_formed = known.0.well_formed; served = known.0.served; all = known.0.all; fits = known.0.fits; some = known.0.some; done = omega (arith, known.0.done) },
      stepping_turn _ runs.rows runs.stride runs.next runs.turn runs.many runs.last _ known.1 (omega (arith, known.1.before)) (omega (arith, known.0.done)) c.number_of_point-self-inside.ensures.value,
    )

pub returns-clause-steps : goal.returns-clause-steps
returns-clause-steps c =
    let runs = c.self.inside in
    let subset : Subset = record { start = runs.start.now; shape = runs.len.now } in
    let more = runs_next subset runs.shape.now runs.run runs.next runs.many (omega (arith, c.self.invariant.0.done)) in
    sym c.self.view_is ∙ (more ∙ ap (λ first. (first, runs.run) ∷ runs_from subset runs.shape.now runs.run (runs.next + 1) runs.many) (sym c.number_of_point-self-inside.ensures.value))

pub returns-clause-goes : goal.returns-clause-goes
returns-clause-goes c =
    let runs = c.self.inside in
    let subset : Subset = record { start = runs.start.now; shape = runs.len.now } in
    let more = runs_next subset runs.shape.now runs.run runs.next runs.many (omega (arith, c.self.invariant.0.done)) in
    let seen = sym c.self.view_is ∙ more in
    search rules
