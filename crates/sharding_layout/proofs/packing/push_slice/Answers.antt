use Rattle.std.proofs.Common.{◌+◌, ◌*◌, ◌-◌, drop, get_or, length, rules, arith}
use Rattle.std.proofs.lemmas.List.{take-take}
use Rattle.sharding_layout.proofs.RepackingLemmas.{in_range, ends_in_shard, is_absent}
use Rattle.sharding_layout.proofs.packing.push_slice.Goals as goal

pub returns-then-offset : goal.returns-then-offset
returns-then-offset c = rw (is_absent (length c.args.bytes.now) c.args.numbers.now c.args.subchunk c.requires.good c.if-offset.true) (search rules)

pub slice_bounds-push_front-count : goal.slice_bounds-push_front-count
slice_bounds-push_front-count c = omega (arith, ends_in_shard (length c.args.bytes.now) c.args.numbers.now c.args.subchunk c.requires.good c.if-offset.false)

pub slice_bounds-push_front-start : goal.slice_bounds-push_front-start
slice_bounds-push_front-start c = omega (arith, ends_in_shard (length c.args.bytes.now) c.args.numbers.now c.args.subchunk c.requires.good c.if-offset.false)

pub push_front-requires : goal.push_front-requires
push_front-requires c = omega (arith, ends_in_shard (length c.args.bytes.now) c.args.numbers.now c.args.subchunk c.requires.good c.if-offset.false)

pub returns : goal.returns
returns c =
    let bytes = c.args.bytes.now in
    let numbers = c.args.numbers.now in
    let k = c.args.subchunk in
    let offset = get_or numbers (2 * k) 0 in
    let size = get_or numbers (2 * k + 1) 0 in
    let inside = ends_in_shard (length bytes) numbers k c.requires.good c.if-offset.false in
    let front = take-take size (length bytes - offset) (drop offset bytes) (omega (arith, inside)) in
    rw (in_range (length bytes) numbers k c.requires.good c.if-offset.false) (rw front at c.push_front.ensures.ok)
