use Rattle.codec_bytes.proofs.BytesCodecSteps.{AreReversed}
use Rattle.codec_bytes.proofs.byte_order.reverse_each.Given as goal

abbrev pub invariant-loop-i : goal.invariant-loop-i
invariant-loop-i l = AreReversed l.size l.i l.fn.bytes l.bytes
