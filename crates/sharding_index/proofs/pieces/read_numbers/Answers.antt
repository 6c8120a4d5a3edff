use Rattle.std.proofs.Common.{◌≡◌, ◌+◌, ◌*◌, ◌/◌, ◌<◌, ◌≤◌, min, arith}
use Rattle.sharding_index.proofs.PieceReads.{numbers_more}
use Rattle.sharding_index.proofs.pieces.read_numbers.Goals as goal

pub loop-piece-preserved : goal.loop-piece-preserved
loop-piece-preserved g c =
    let a = c.args in
    let contents = (g.H.BytesPartialDecoderTraits.state a.handle.now).contents in
    let count = a.interval.size / 8 in
    let first = c.loop-piece.piece * 8192 in
    let many = c.min-many.result in
    let inv = c.loop-piece.invariant in
    let read = c.in_ok-read_piece.ensures.read in
    let old = c.loop-piece.numbers.items in
    let new = c.read_piece.new.numbers.items in
    let begun : first < count = omega arith in
    let before : min first count ≡ first = omega (arith, begun) in
    let next : min ((c.loop-piece.piece + 1) * 8192) count ≡ first + many = omega (arith, begun) in
    let fits : first * 8 + many * 8 ≤ a.interval.size = omega (arith, begun) in
    let whole : many * 8 / 8 ≡ many = omega arith in
    let here = rw (inv.read.contents_same, whole) at c.in_ok-read_piece.ensures.numbers in
    record {
      read = record {
        transparent_same = cc;
        contents_same = cc;
        faults_kept = omega (arith, inv.read.faults_kept, read.faults_kept);
        supports_same = cc;
      };
      counted = omega (arith, inv.counted, c.in_ok-read_piece.ensures.counted, before, next, whole);
      so_far = λ t. rw next (numbers_more a.interval contents first many old new fits (rw before at (inv.so_far t)) (here (rw inv.read.transparent_same t)));
    }
