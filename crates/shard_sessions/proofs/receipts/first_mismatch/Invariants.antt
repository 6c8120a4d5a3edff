use Rattle.std.proofs.Common.{◌≡◌, ℕ, length, take}
use Rattle.std.specs.List.{All}
use Rattle.shard_sessions.specs.Receipts.{Stands, RiseFrom, times, receipts_of}
use Rattle.shard_sessions.specs.steps.Marks.{mark_at, marks}
use Rattle.shard_sessions.proofs.receipts.first_mismatch.Given as goal

abbrev pub invariant-loop-i : goal.invariant-loop-i
invariant-loop-i l = record {
  as_long : length l.seen ≡ length l.events;
  stand : All (Stands l.events) (receipts_of (take l.i l.seats));
  rise : All (RiseFrom 0) (take l.i l.seats);
  once : (place : ℕ) → mark_at l.seen place ≡ times place (receipts_of (take l.i l.seats));
  count : marks l.seen ≡ length (receipts_of (take l.i l.seats));
}
