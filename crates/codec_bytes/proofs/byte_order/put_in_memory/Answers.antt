use Rattle.codec_bytes.proofs.BytesCodecSteps.{array_kept}
use Rattle.codec_bytes.proofs.byte_order.put_in_memory.Goals as goal

pub put_requested-requires-clause-valid : goal.put_requested-requires-clause-valid
put_requested-requires-clause-valid g c = rw (array_kept c.args.element.size c.args.bytes.now c.in_ok-array.array c.requires.whole c.in_ok-array.ensures) c.requires.valid

pub returns-clause-written : goal.returns-clause-written
returns-clause-written g c = rw c.if-element.false (rw (← c.in_ok-array.ensures) c.put_requested.ensures.written)
