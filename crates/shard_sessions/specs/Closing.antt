-- Why the end of a recorded session is refused.
use Rattle.std.specs.Prelude.{◌≡◌, ◌≢◌, ◌≤◌, ◌<◌, ◌⊎◌, true, false, List, length}
use Rattle.parts_arrays.specs.Arrays.{Array}
use Rattle.parts_errors.specs.declared.error.CodecError.TheVariants.{SessionFailed}
use Rattle.shard_sessions.specs.Receipts.{receipts_of, IsMismatch}
use Rattle.shard_sessions.specs.Recorded.{Recorded}
use Rattle.session_runs.specs.declared.event.Receipt.{Receipt}
use Rattle.shard_sessions.specs.declared.closing.Closed.{Closed}
use Rattle.shard_sessions.specs.declared.closing.CloseError.{CloseError}
use Rattle.shard_sessions.specs.declared.closing.CloseError.TheVariants.{SeatsMissing, ReceiptMismatch, Session}

-- in this order: the session failed; there are fewer receipts than events; the opening cells are others; a receipt is the first up to which
-- the seats do not agree with the history
abbrev pub IsRefusedClose : {H : Type 0} → (opening : Array) → List (List Receipt) → CloseError H → Type 0
IsRefusedClose opening seats (Session handle e) = e ≡ SessionFailed
IsRefusedClose opening seats (SeatsMissing closed) = length (receipts_of seats) < length closed.history.items
IsRefusedClose opening seats (ReceiptMismatch closed seat place) =
    (length closed.history.items ≤ length (receipts_of seats))
    × (((closed.opening ≢ opening) × (seat ≡ 0) × (place ≡ 0))
    ⊎ ((closed.opening ≡ opening) × IsMismatch closed.history.items seats seat place))

-- what a recorded session, in which no write failed, leaves: its handle, its opening cells and its history
pub record IsClosedOf {C H : Type 0} (r : Recorded C H) (closed : Closed H) : Type 0 where
  pub usable : r.state.failed ≡ false
  pub handle : closed.handle ≡ r.state.handle
  pub opening : closed.opening ≡ r.opening
  pub history : closed.history.items ≡ r.events

-- what is handed back with a refusal: what such a session leaves, or the handle of one that failed
abbrev pub IsHandedBack : {C H : Type 0} → Recorded C H → CloseError H → Type 0
IsHandedBack r (Session handle e) = (r.state.failed ≡ true) × (handle ≡ r.state.handle)
IsHandedBack r (SeatsMissing closed) = IsClosedOf r closed
IsHandedBack r (ReceiptMismatch closed seat place) = IsClosedOf r closed

-- a refusal has this with it
abbrev pub Carries : {H : Type 0} → Closed H → CloseError H → Type 0
Carries closed (Session handle e) = ⊥
Carries closed (SeatsMissing carried) = carried ≡ closed
Carries closed (ReceiptMismatch carried seat place) = carried ≡ closed
