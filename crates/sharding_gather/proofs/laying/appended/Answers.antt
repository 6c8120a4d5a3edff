use Rattle.std.proofs.Common.{◌≡◌, ◌*◌, ◌<◌, ◌∙◌, None, length, get_or, ap, sym, arith}
use Rattle.std.specs.List.{concat}
use Rattle.std.proofs.lemmas.List.{get_or_default}
use Rattle.std.proofs.lemmas.Nat.{mul-le}
use Rattle.parts_subsets.proofs.GridLaws.{count-grid, positive_factor, at_least}
use Rattle.parts_row_major.specs.Numbering.{count_of}
use Rattle.parts_subsets.specs.Grid.{grid_of}
use Rattle.parts_arrays.specs.declared.data_type.DataTypeSize.TheVariants.{Fixed}
use Rattle.sharding_gather.specs.steps.Gathering.{elements_in}
use Rattle.sharding_gather.proofs.LayingLaws.{appended_more}
use Rattle.sharding_gather.proofs.laying.appended.Goals as goal

pub blank-requires : goal.blank-requires
blank-requires c =
    let shape = c.args.shard.now.shape.now in
    let sub = c.args.shard.now.sub.now in
    let many = count_of (grid_of shape sub) in
    let cells = count-grid shape sub c.requires.shard.divides in
    let some = positive_factor (count_of sub) many (count_of shape) c.requires.some (omega (arith, cells)) in
    let less = at_least (count_of sub) many some in
    let size = length c.args.shard.now.fill.now in
    omega (arith, mul-le (count_of sub) size (count_of shape) size (omega (arith, less, cells)) (omega arith), c.requires.fits, ap (λ p. p * size) c.requires.shard.positions)

pub loop-k-preserved : goal.loop-k-preserved
loop-k-preserved c =
    let chunks = c.args.shard.now.subchunks.now in
    let fill = c.args.shard.now.fill.now in
    let shape = c.args.shard.now.shape.now in
    let sub = c.args.shard.now.sub.now in
    let k = c.loop-k.k in
    let below : k < count_of (grid_of shape sub) = omega (arith, c.requires.shard.subchunks.counted) in
    let at = c.index-subchunks-k.is ∙ get_or_default chunks k _ None (omega arith) in
    let part =
    c.bytes_of-part.ensures
    ∙ (ap (λ o. concat (elements_in fill c.args.shard.now.positions o)) at
    ∙ ap (λ n. concat (elements_in fill n (get_or chunks k None))) c.requires.shard.positions) in
    appended_more chunks fill shape sub c.requires.shard.divides (Fixed (length fill)) k c.loop-k.bytes.items c.bytes_of-part.result.now c.extend_from_slice.new.self.items
    c.requires.contiguous c.requires.axes c.requires.some below (c.requires.shard.subchunks.each k below) c.loop-k.invariant part c.in_ok-extend_from_slice.ensures.items

pub returns : goal.returns
returns c =
    let end : c.loop-k.k * count_of c.args.shard.now.sub.now ≡ count_of c.args.shard.now.shape.now =
    ap (λ k. k * count_of c.args.shard.now.sub.now) (omega (arith, c.requires.shard.subchunks.counted)) ∙ sym (count-grid c.args.shard.now.shape.now c.args.shard.now.sub.now c.requires.shard.divides) in
    rw end at c.loop-k.invariant
