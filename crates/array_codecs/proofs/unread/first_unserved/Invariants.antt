use Rattle.std.proofs.Common.{◌≡◌, drop}
use Rattle.serde_json.specs.View.{items_view}
use Rattle.array_codecs.specs.UnreadCodecs.{unserved_in}
use Rattle.array_codecs.proofs.unread.first_unserved.Given as goal

-- elements are served with the codecs up to here
abbrev pub invariant-loop-value : goal.invariant-loop-value
invariant-loop-value l = unserved_in (items_view l.values) ≡ unserved_in (items_view (drop l.value-index l.values))
