use Rattle.std.proofs.Common.{◌≡◌, ◌+◌, ap, length, take, arith, length-append}
use Rattle.parts_arrays.proofs.PartLaws.{parts_more}
use Rattle.parts_arrays.proofs.array_bytes.builder.push_part.Goals as goal

pub returns-clause-ok : goal.returns-clause-ok
returns-clause-ok c =
    let bytes = c.in_ok-push_front.ensures.ok in
    let part = take c.args.len c.args.from.now in
    let end : c.len.result ≡ length c.args.bytes.now.items + length part =
    omega (arith, c.len.ensures, ap length bytes, length-append c.args.bytes.now.items part) in
    rw (c.push_reserved.ensures.items, bytes)
    (parts_more c.args.offsets.now.items c.args.bytes.now.items part c.len.result c.requires.offsets end)
