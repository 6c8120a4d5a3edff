use Rattle.std.proofs.Common.{◌≡◌}
use Rattle.serde_json.specs.View.{members_view}
use Rattle.codec_metadata.specs.Metadata.{first_refused}
use Rattle.codec_metadata.proofs.members.first_failing.Given as goal

-- of the members up to here none was refused
abbrev pub invariant-loop-key : goal.invariant-loop-key
invariant-loop-key g l =
    first_refused g.T.MemberTest.passes (members_view l.members.entries) ≡ first_refused g.T.MemberTest.passes (members_view l.key-iterator)
