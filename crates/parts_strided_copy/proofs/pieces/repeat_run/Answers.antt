use Rattle.std.proofs.Common.{◌+◌, ◌*◌, ◌≤◌, ◌∙◌, arith, ap, rules, length}
use Rattle.std.proofs.lemmas.Nat.{mul-le}
use Rattle.parts_row_major.specs.Pieces.{piece}
use Rattle.parts_row_major.proofs.PieceLaws.{RunTaken, run_taken, piece_in_front, run_written, run_before, run_after}
use Rattle.parts_strided_copy.proofs.pieces.repeat_run.Goals as goal
use Rattle.parts_strided_copy.proofs.pieces.repeat_run.Goals.{After-copy_from_slice}

pub slice_bounds-copy_from_slice-end-3 : goal.slice_bounds-copy_from_slice-end-3
slice_bounds-copy_from_slice-end-3 c =
    let size = c.args.size in
    let wide = mul-le (c.args.from + c.args.len) size c.args.to size c.requires.later (omega arith) in
    let within : c.args.from * size + c.args.len * size ≤ length c.split_at_mut-front.result.0.now = omega (arith, wide, c.split_at_mut-front.ensures.front_len) in
    search rules

taken : (c : After-copy_from_slice) → RunTaken c.args.size c.args.from c.args.len c.split_at_mut-front.result.0.now c.copy_from_slice.new.self
taken c =
    let wide = mul-le (c.args.from + c.args.len) c.args.size c.args.to c.args.size c.requires.later (omega arith) in
    run_taken c.args.size c.args.from c.args.len c.split_at_mut-front.result.0.now c.copy_from_slice.new.self (omega (arith, wide, c.split_at_mut-front.ensures.front_len)) c.copy_from_slice.ensures.after

pub returns-clause-written : goal.returns-clause-written
returns-clause-written c = λ r lt.
    let t = taken (goal.at.returns-clause-written c).After-copy_from_slice in
    let xs = c.args.output.now in
    rw (c.split_at_mut-front.ensures.front, c.split_at_mut-front.ensures.back)
    (run_written c.args.size c.args.to c.args.len xs c.copy_from_slice.new.self c.requires.inside t.long (c.args.len * c.args.size) r lt
    ∙ (t.each r lt
    ∙ (ap (λ ys. piece c.args.size ys (c.args.from + r)) c.split_at_mut-front.ensures.front ∙ piece_in_front c.args.size c.args.to (c.args.from + r) xs (omega (arith, c.requires.later)))))

pub returns-clause-before : goal.returns-clause-before
returns-clause-before c = λ i lt.
    let t = taken (goal.at.returns-clause-before c).After-copy_from_slice in
    rw (c.split_at_mut-front.ensures.front, c.split_at_mut-front.ensures.back)
    (run_before c.args.size c.args.to c.args.len c.args.output.now c.copy_from_slice.new.self c.requires.inside t.long (c.args.len * c.args.size) i lt)

pub returns-clause-after : goal.returns-clause-after
returns-clause-after c = λ i le.
    let t = taken (goal.at.returns-clause-after c).After-copy_from_slice in
    rw (c.split_at_mut-front.ensures.front, c.split_at_mut-front.ensures.back)
    (run_after c.args.size c.args.to c.args.len c.args.output.now c.copy_from_slice.new.self c.requires.inside t.long (c.args.len * c.args.size) i (omega arith) le)
