use Rattle.std.proofs.Common.{get_or, arith}
use Rattle.std.proofs.lemmas.List.FromFn.{map-range_with_len_more}
use Rattle.array_codecs.specs.ReversedParts.{mirrored}
use Rattle.array_codecs.proofs.byte_parts.reversed_parts.Goals as goal

pub loop-i-preserved : goal.loop-i-preserved
loop-i-preserved c =
    let more = map-range_with_len_more (λ i. get_or c.args.bytes.now (mirrored c.args.size i) 0) 0 c.loop-i.i c.loop-i.i (omega arith) in
    grind (arith, more)
