use Rattle.std.proofs.Common.{◌≡◌, ◌+◌, length, take}
use Rattle.shard_sessions.specs.Receipts.{receipts_of}
use Rattle.shard_sessions.proofs.receipts.have_as_many.Given as goal

abbrev pub invariant-loop-seat : goal.invariant-loop-seat
invariant-loop-seat l = l.left + length (receipts_of (take l.seat-index l.seats)) ≡ l.count
