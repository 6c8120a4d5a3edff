use Rattle.std.proofs.Common.{◌≡◌, ◌∙◌, ◌*◌, ◌<◌, [], None, ap, arith, length, get_or}
use Rattle.std.proofs.lemmas.List.{get_or_default}
use Rattle.parts_errors.proofs.ListLaws.{whole_after}
use Rattle.parts_row_major.specs.Numbering.{count_of}
use Rattle.parts_row_major.specs.Pieces.{piece, IsUpdated}
use Rattle.parts_subsets.specs.Grid.{grid_of, cell_number}
use Rattle.sharding_format.specs.steps.Decoding.{element_at}
use Rattle.sharding_gather.specs.steps.Gathering.{positions_there}
use Rattle.sharding_gather.proofs.LayingLaws.{filled_none, filled_more, filled_all}
use Rattle.sharding_gather.proofs.laying.bytes_by_subset.Goals as goal

pub loop-k-init : goal.loop-k-init
loop-k-init c =
    let size = length c.args.shard.now.fill.now in
    record {
      whole = c.in_ok-bytes.ensures.whole ∙ ap (λ n. n * size) c.requires.shard.cells;
      so_far = filled_none c.args.shard.now.subchunks.now c.args.shard.now.fill.now c.args.shard.now.shape.now c.args.shard.now.sub.now size c.in_ok-bytes.bytes.items c.requires.shard.divides c.requires.shard.subchunks.counted
          (λ k i lt none li. c.in_ok-bytes.ensures.filled (c.any_absent-filled.ensures k lt none) i (omega (arith, c.requires.shard.cells)));
    }

pub loop-k-preserved : goal.loop-k-preserved
loop-k-preserved c =
    let chunks = c.args.shard.now.subchunks.now in
    let fill = c.args.shard.now.fill.now in
    let shape = c.args.shard.now.shape.now in
    let sub = c.args.shard.now.sub.now in
    let size = length fill in
    let k = c.loop-k.k in
    let old = c.loop-k.bytes.items in
    let new = c.put_subchunk.new.bytes in
    let below : k < count_of (grid_of shape sub) = omega (arith, c.requires.shard.subchunks.counted) in
    let at = c.index-subchunks-k.is ∙ get_or_default chunks k _ None (omega arith) in
    let long : length new ≡ length old = omega (arith, c.put_subchunk.auto.bytes, ap length c.deref_mut.ensures.value) in
    let wrote : IsUpdated (positions_there (count_of sub) (get_or chunks k None)) (cell_number shape sub k) (piece size old) (element_at [] (get_or chunks k None)) (piece size new) =
    rw (at, c.deref_mut.ensures.value) at c.in_ok-put_subchunk.ensures.written in
    rw (whole_after c.loop-k.bytes.len new old long (omega (arith, c.loop-k.bytes.ok.0))) (record {
      whole = long ∙ c.loop-k.invariant.whole;
      so_far = filled_more chunks fill shape sub c.requires.shard.divides size k old new below c.loop-k.invariant.so_far wrote;
    })

pub returns-clause-bytes : goal.returns-clause-bytes
returns-clause-bytes c =
    filled_all c.args.shard.now.subchunks.now c.args.shard.now.fill.now c.args.shard.now.shape.now c.args.shard.now.sub.now c.requires.shard.divides (length c.args.shard.now.fill.now) c.loop-k.k c.loop-k.bytes.items (omega (arith, c.requires.shard.subchunks.counted))
    c.loop-k.invariant.whole c.loop-k.invariant.so_far
