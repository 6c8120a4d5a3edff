use Rattle.codec_bytes.proofs.BytesCodecSteps.{AreReversed}
use Rattle.codec_bytes.proofs.byte_order.reverse_sized.Given as goal

abbrev pub invariant-loop-i : goal.invariant-loop-i
invariant-loop-i g l = AreReversed g.row.N l.i l.fn.bytes l.bytes
