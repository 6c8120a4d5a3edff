use Rattle.std.proofs.Common.{◌≡◌, drop}
use Rattle.serde_json.specs.View.{items_view}
use Rattle.array_codecs.specs.UnreadCodecs.{have_names}
use Rattle.array_codecs.proofs.unread.test_names.Given as goal

-- the codecs up to here have names
abbrev pub invariant-loop-index : goal.invariant-loop-index
invariant-loop-index l = have_names (items_view l.values) ≡ have_names (items_view (drop l.index l.values))
