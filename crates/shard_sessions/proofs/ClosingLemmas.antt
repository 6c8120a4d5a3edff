-- What is handed back at the end of a recorded session is what the session had.
use Rattle.std.proofs.Common.{◌≡◌, Result, Ok, Err, IfOk, IfErr, MatchResult, sym, subst}
use Rattle.shard_sessions.specs.Recorded.{Recorded}
use Rattle.shard_sessions.specs.Closing.{IsClosedOf, IsHandedBack, Carries}
use Rattle.shard_sessions.specs.declared.closing.Closed.{Closed}
use Rattle.shard_sessions.specs.declared.closing.CloseError.{CloseError}
use Rattle.shard_sessions.specs.declared.closing.CloseError.TheVariants.{SeatsMissing, ReceiptMismatch, Session}

pub handed_back : {C H : Type 0} (r : Recorded C H) (closed : Closed H) (result : Result (Closed H) (CloseError H)) → IsClosedOf r closed
    → IfOk result (λ x. x ≡ closed) → IfErr result (Carries closed) → MatchResult result (IsClosedOf r) (IsHandedBack r)
handed_back r closed (Ok x) is same carried = subst (IsClosedOf r) (sym same) is
handed_back r closed (Err (Session handle e)) is same carried = absurd carried
handed_back r closed (Err (SeatsMissing x)) is same carried = subst (IsClosedOf r) (sym carried) is
handed_back r closed (Err (ReceiptMismatch x seat place)) is same carried = subst (IsClosedOf r) (sym carried) is
