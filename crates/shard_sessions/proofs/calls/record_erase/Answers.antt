use Rattle.std.proofs.Common.{◌≡◌, inr, Err}
use Rattle.std.proofs.lemmas.Result.{IfErr-weaker}
use Rattle.shard_sessions.proofs.calls.record_erase.Goals as goal

-- the history hands on the refusal of the call, so it is what the call says of it
pub returns-clause-refused : goal.returns-clause-refused
returns-clause-refused g c =
    IfErr-weaker c.put_accepted.result _ _
    (λ e is. record { failed = rw is at c.erase-call.ensures.failed; refused = inr (rw is at c.erase-call.ensures.refused) })
    c.put_accepted.ensures.refused
