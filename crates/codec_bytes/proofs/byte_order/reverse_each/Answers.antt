use Rattle.std.proofs.Common.{◌≡◌, ◌+◌, ◌*◌, ◌≤◌, ◌/◌, arith, length}
use Rattle.parts_arrays.proofs.ArrayLaws.{piece_within}
use Rattle.codec_bytes.proofs.BytesCodecSteps.{reversed_more, reversed_elements}
use Rattle.codec_bytes.proofs.byte_order.reverse_each.Goals as goal

pub loop-i-preserved : goal.loop-i-preserved
loop-i-preserved c =
    let within = piece_within c.args.size c.args.bytes.now c.loop-i.i c.requires c.loop-i-test.true in
    let fits : c.loop-i.i * c.args.size + c.args.size ≤ length c.loop-i.bytes = omega (arith, within) in
    reversed_more c.args.size c.loop-i.i _ c.args.bytes.now c.loop-i.bytes c.reverse.new.self fits (omega arith) c.loop-i.invariant c.reverse.ensures.after

pub returns : goal.returns
returns c =
    let all : c.loop-i.i ≡ length c.args.bytes.now / c.args.size = omega arith in
    reversed_elements c.args.size c.args.bytes.now c.loop-i.bytes c.requires c.loop-i.auto.bytes (rw all at c.loop-i.invariant)
