use Rattle.std.proofs.Common.{◌≡◌, ◌+◌, ap, arith, length}
use Rattle.parts_errors.proofs.ListLaws.{whole_after}
use Rattle.parts_arrays.proofs.FillLaws.{pieces_alike}
use Rattle.parts_arrays.proofs.array_bytes.fill.repeated.Goals as goal

pub returns-clause-each : goal.returns-clause-each
returns-clause-each c =
    let items = c.in_ok-bytes.bytes.items in
    let output = c.fill_run.new.output in
    let size = length c.args.element.now in
    let long : length output ≡ length items = omega (arith, c.fill_run.auto.output, ap length c.deref_mut.ensures.value) in
    rw (whole_after c.in_ok-bytes.bytes.len output items long (omega (arith, c.in_ok-bytes.bytes.ok.0)))
    (pieces_alike size c.args.count output c.args.element.now (λ k lt.
    let at : 0 + k ≡ k = omega arith in
    rw at at (c.fill_run.ensures.written k lt)))
