use Rattle.std.proofs.Common.{◌≡◌, drop}
use Rattle.serde_json.specs.View.{items_view}
use Rattle.sharding_configuration.specs.CodecLists.{first_unnamed}
use Rattle.sharding_configuration.proofs.codec_list.test_names.Given as goal

-- of the members up to here none is refused
abbrev pub invariant-loop-codec : goal.invariant-loop-codec
invariant-loop-codec g l =
    first_unnamed l.key g.C.CodecTraitsV3.named (items_view l.codecs)
    ≡ first_unnamed l.key g.C.CodecTraitsV3.named (items_view (drop l.codec-index l.codecs))
