use Rattle.std.proofs.Common.{◌∙◌, sym, ap, length, arith}
use Rattle.tool_script.proofs.TextLaws.{slice_split-none, slice_split-some}
use Rattle.tool_script.proofs.pieces.PiecesIterator.next.Goals as goal

pub returns-in-Some-clause-steps : goal.returns-in-Some-clause-steps
returns-in-Some-clause-steps c =
    rw (c.in_ok-rest.was) (slice_split-some _ c.in_ok-rest.rest.now c.in-Some.at (sym c.separator_at.ensures ∙ c.in-Some.is))

pub returns-in-Some-clause-goes : goal.returns-in-Some-clause-goes
returns-in-Some-clause-goes c =
    let shorter = ap length (returns-in-Some-clause-steps c) in
    record { on = λ _. (tt, tt, omega (arith, shorter)); keeps = tt; rests = λ _. tt }

pub returns-in-None-clause-steps : goal.returns-in-None-clause-steps
returns-in-None-clause-steps c =
    rw (c.in_ok-rest.was) (slice_split-none _ c.in_ok-rest.rest.now (sym c.separator_at.ensures ∙ c.in-None.is))

pub returns-in-None-clause-goes : goal.returns-in-None-clause-goes
returns-in-None-clause-goes c =
    let shorter = ap length (returns-in-None-clause-steps c) in
    record { on = λ _. (tt, tt, omega (arith, shorter)); keeps = tt; rests = λ _. tt }
