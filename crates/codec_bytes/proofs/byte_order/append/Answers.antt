use Rattle.std.proofs.Common.{◌++◌, ◌∙◌, ap}
use Rattle.codec_bytes.proofs.BytesCodecSteps.{kept_elements}
use Rattle.codec_bytes.proofs.byte_order.append.Goals as goal

pub returns-else-reversed-clause-appended : goal.returns-else-reversed-clause-appended
returns-else-reversed-clause-appended c =
    rw c.if-reversed.false (c.in_ok-extend_from_slice.ensures.items ∙ ap (λ xs. c.args.encoded.now.items ++ xs) (kept_elements c.args.size c.args.bytes.now c.requires))
