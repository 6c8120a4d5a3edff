use Rattle.std.proofs.Common.{◌≡◌, ◌+◌, ◌*◌, ◌≤◌, ◌<◌, ◌/◌, ◌∙◌, ap, arith, length, reverse, take, drop, get_or, sym, ◌-◌}
use Rattle.parts_arrays.proofs.ArrayLaws.{piece_within}
use Rattle.codec_bytes.proofs.BytesCodecSteps.{reversed_more, reversed_elements, chunk_at}
use Rattle.codec_bytes.proofs.byte_order.reverse_sized.Goals as goal

pub loop-i-preserved : goal.loop-i-preserved
loop-i-preserved g c =
    let n = g.row.N in
    let within = piece_within n c.args.bytes.now c.loop-i.i c.requires.whole c.loop-i-test.true in
    let fits : c.loop-i.i * n + n ≤ length c.loop-i.bytes = omega (arith, within) in
    let same : c.loop-i.i * n + n - c.loop-i.i * n ≡ n = omega arith in
    let there : c.loop-i.i < length c.loop-i.bytes / n = rw c.loop-i.auto.bytes c.loop-i-test.true in
    let at = c.index-elements-i.is ∙ (ap (λ xs. get_or xs c.loop-i.i c.index-elements-i.result) c.as_chunks.ensures.front ∙ chunk_at n (length c.loop-i.bytes / n) c.loop-i.i c.loop-i.bytes c.index-elements-i.result there) in
    reversed_more n c.loop-i.i _ c.args.bytes.now c.loop-i.bytes c.copy_from_slice.new.self fits same c.loop-i.invariant
    (c.copy_from_slice.ensures.after ∙ (c.reverse.ensures.after ∙ ap reverse (at ∙ ap (λ m. take m (drop (c.loop-i.i * n) c.loop-i.bytes)) (sym same))))

pub returns : goal.returns
returns g c =
    let n = g.row.N in
    let all : c.loop-i.i ≡ length c.args.bytes.now / n = omega arith in
    reversed_elements n c.args.bytes.now c.loop-i.bytes c.requires.whole c.loop-i.auto.bytes (rw all at c.loop-i.invariant)
