use Rattle.std.proofs.Common.{◌≡◌}
use Rattle.serde_json.specs.View.{members_view}
use Rattle.codec_metadata.specs.Metadata.{first_refused}
use Rattle.array_fields.specs.MetadataFields.{is_understood}
use Rattle.array_fields.proofs.members.first_unknown.Given as goal

-- the members up to here are understood
abbrev pub invariant-loop-key : goal.invariant-loop-key
invariant-loop-key l = first_refused is_understood (members_view l.members.entries) ≡ first_refused is_understood (members_view l.key-iterator)
