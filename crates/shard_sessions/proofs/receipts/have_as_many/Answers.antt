use Rattle.std.proofs.Common.{◌≡◌, ◌+◌, length, take, ap, refl, arith}
use Rattle.shard_sessions.specs.Receipts.{receipts_of}
use Rattle.shard_sessions.proofs.ReceiptLemmas.{length-receipts_of-next, length-receipts_of-take}
use Rattle.shard_sessions.proofs.receipts.have_as_many.Goals as goal

pub returns-then-left-here : goal.returns-then-left-here
returns-then-left-here c =
    let here = ap length c.receipts-here.ensures in
    let more = length-receipts_of-next c.loop-seat.seat-index c.args.seats.now c.seat-item.result c.loop-seat-test.true c.seat-item.is in
    let most = length-receipts_of-take (c.loop-seat.seat-index + 1) c.args.seats.now in
    let i : c.loop-seat.left + length (receipts_of (take c.loop-seat.seat-index c.args.seats.now)) ≡ c.args.count = c.loop-seat.invariant in
    (λ _. omega arith, λ _. refl)

pub loop-seat-preserved : goal.loop-seat-preserved
loop-seat-preserved c =
    let here = ap length c.receipts-here.ensures in
    let more = length-receipts_of-next c.loop-seat.seat-index c.args.seats.now c.seat-item.result c.loop-seat-test.true c.seat-item.is in
    let i : c.loop-seat.left + length (receipts_of (take c.loop-seat.seat-index c.args.seats.now)) ≡ c.args.count = c.loop-seat.invariant in
    omega arith
