use Rattle.codec_bytes.proofs.BytesCodecSteps.{whole_swapped}
use Rattle.codec_bytes.proofs.byte_order.array_of_bytes.Goals as goal

pub unreachable-requires : goal.unreachable-requires
unreachable-requires c = c.in-None.ensures (whole_swapped _ _ c.args.bytes.now _ c.requires c.in_ok-elements.ensures)
