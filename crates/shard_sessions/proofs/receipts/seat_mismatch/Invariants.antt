use Rattle.std.proofs.Common.{◌≡◌, ◌≤◌, ◌+◌, ◌↔◌, ◌++◌, ◌∷◌, [], ℕ, length, take}
use Rattle.std.specs.List.{All}
use Rattle.session_runs.specs.declared.event.Receipt.{Receipt}
use Rattle.shard_sessions.specs.Receipts.{Stands, RiseFrom, times}
use Rattle.shard_sessions.specs.steps.Marks.{mark_at, marks}
use Rattle.shard_sessions.proofs.receipts.seat_mismatch.Given as goal

abbrev pub invariant-loop-receipt : goal.invariant-loop-receipt
invariant-loop-receipt l = record {
  as_long : length l.seen ≡ length l.initial.seen;
  stand : All (Stands l.events) (take l.receipt-index l.receipts);
  rise : RiseFrom 0 (take l.receipt-index l.receipts);
  above : (r : Receipt) → RiseFrom 0 (take l.receipt-index l.receipts ++ r ∷ []) ↔ (l.next ≤ r.place);
  once : (place : ℕ) → mark_at l.seen place ≡ mark_at l.initial.seen place + times place (take l.receipt-index l.receipts);
  count : marks l.seen ≡ marks l.initial.seen + l.receipt-index;
}
