use Rattle.std.proofs.Common.{◌≡◌, ◌/◌, length, arith, subst}
use Rattle.sharding_layout.proofs.RepackingLemmas.{IsPlaced, none_placed, room_to_place, one_more_placed, all_placed}
use Rattle.sharding_layout.proofs.packing.set_slice_offsets.Goals as goal

pub loop-k-init : goal.loop-k-init
loop-k-init c = none_placed c.args._len c.args.start c.args.numbers.now

pub set_slice_offset-write_offset-requires-clause-room : goal.set_slice_offset-write_offset-requires-clause-room
set_slice_offset-write_offset-requires-clause-room c =
    let old = c.args.numbers.now in
    room_to_place c.args._len c.args.start old c.loop-k.numbers c.loop-k.write_offset c.loop-k.k (length old / 2) (omega arith) (c.requires.good c.loop-k.k (omega arith))
    c.loop-k.invariant c.requires.small

pub loop-k-preserved : goal.loop-k-preserved
loop-k-preserved c =
    let placed = c.set_slice_offset-write_offset in
    one_more_placed c.args._len c.args.start c.args.numbers.now c.loop-k.numbers placed.new.numbers c.loop-k.write_offset placed.result c.loop-k.k
    (c.requires.good c.loop-k.k (omega arith)) c.loop-k.invariant placed.ensures.absent placed.ensures.present placed.ensures.others placed.ensures.counted

pub returns : goal.returns
returns c =
    let n = length c.args.numbers.now / 2 in
    let whole : c.loop-k.k ≡ n = omega arith in
    all_placed c.args._len c.args.start c.args.numbers.now c.loop-k.numbers c.loop-k.write_offset n c.requires.entries c.requires.good
    (subst (λ k. IsPlaced c.args._len c.args.start c.args.numbers.now c.loop-k.numbers c.loop-k.write_offset k) whole c.loop-k.invariant)
