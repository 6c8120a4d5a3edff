use Rattle.codec_bytes.proofs.BytesCodecSteps.{kept_elements}
use Rattle.codec_bytes.proofs.byte_order.in_memory.Goals as goal

pub returns-then-not-reversed : goal.returns-then-not-reversed
returns-then-not-reversed c = rw c.if-not-reversed.true (kept_elements c.args.size c.args.bytes.now c.requires)
