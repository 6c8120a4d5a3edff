use Rattle.std.proofs.Common.{ap, length}
use Rattle.tool_script.proofs.ElementLaws.{length-lowest}
use Rattle.tool_script.proofs.elements.array_of.Goals as goal

pub push-requires : goal.push-requires
push-requires c =
    rw (c.loop-number.invariant.kind, c.width-width.ensures)
    (length-lowest c.args.number_type _ (ap length c.to_le_bytes-bytes.ensures))
