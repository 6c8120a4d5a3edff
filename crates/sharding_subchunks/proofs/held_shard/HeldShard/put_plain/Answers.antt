use Rattle.std.proofs.Common.{◌≡◌, ◌∙◌, ◌<◌, ap, length, rules, arith}
use Rattle.std.proofs.lemmas.List.{get_or_read}
use Rattle.parts_subsets.proofs.GridLaws.{subset_of_subchunk-lies_in}
use Rattle.parts_row_major.specs.Numbering.{count_of}
use Rattle.parts_row_major.specs.Subsets.{Subset, LiesIn}
use Rattle.parts_subsets.specs.Grid.{grid_of, grid_subset}
use Rattle.parts_arrays.specs.Targets.{target_subset}
use Rattle.sharding_format.specs.Index.{slot_at}
use Rattle.sharding_gather.specs.steps.Placings.{shifted_subset, no_subset}
use Rattle.sharding_gather.proofs.PlacingLemmas.{placed-lies_in}
use Rattle.sharding_subchunks.specs.steps.Inner.{inner_meaning}
use Rattle.sharding_subchunks.proofs.PutLemmas.{target_put_more, target_put_all}
use Rattle.sharding_subchunks.proofs.held_shard.HeldShard.put_plain.Goals as goal

pub put_slot-requires-clause-served : goal.put_slot-requires-clause-served
put_slot-requires-clause-served g c =
    let a = c.args in
    let shape = a.self.now.shape.now in
    let sub = a.self.now.subchunks.now.shape.now in
    let first = a.target.now in
    let k = c.loop-k.k in
    let subsets = c.in_ok-subsets.subsets.items in
    let lt : k < length subsets = omega (arith, c.in_ok-subsets.ensures.counted) in
    let below : k < count_of (grid_of shape sub) = omega (arith, c.args.self.now.indexed, c.subchunks-count.ensures) in
    let shaped : (target_subset first).shape ≡ shape = search rules in
    let each = rw (c.subset-2.ensures, c.in_ok-grid.ensures.grid) at c.in_ok-subsets.ensures.each in
    let position : c.index.result.now ≡ shifted_subset (target_subset first) (grid_subset (grid_of shape sub) sub k) = get_or_read subsets _ _ lt c.index.ensures no_subset ∙ each k (omega arith) in
    let served = first.is_target.served in
    let inner : LiesIn (grid_subset (grid_of shape sub) sub k) (target_subset first).shape = rw shaped (subset_of_subchunk-lies_in shape sub k c.args.self.now.divides below) in
    rw (position, c.loop-k.invariant.axes) (placed-lies_in (target_subset first) (grid_subset (grid_of shape sub) sub k) first.shape.now inner served.0, served.1)

pub put_slot-requires-clause-counted : goal.put_slot-requires-clause-counted
put_slot-requires-clause-counted g c =
    let a = c.args in
    let shape = a.self.now.shape.now in
    let sub = a.self.now.subchunks.now.shape.now in
    let k = c.loop-k.k in
    let subsets = c.in_ok-subsets.subsets.items in
    let lt : k < length subsets = omega (arith, c.in_ok-subsets.ensures.counted) in
    let each = rw (c.subset-2.ensures, c.in_ok-grid.ensures.grid) at c.in_ok-subsets.ensures.each in
    let position : c.index.result.now ≡ shifted_subset (target_subset a.target.now) (grid_subset (grid_of shape sub) sub k) = get_or_read subsets _ _ lt c.index.ensures no_subset ∙ each k (omega arith) in
    ap (λ (r : Subset). r.shape) position

pub loop-k-preserved : goal.loop-k-preserved
loop-k-preserved g c =
    let a = c.args in
    let s = a.self.now.subchunks.now in
    let inner = inner_meaning g.I.ArrayToBytesCodecTraits.meaning s in
    let shape = a.self.now.shape.now in
    let sub = s.shape.now in
    let index = a.self.now.index.now.numbers.items in
    let first = a.target.now in
    let k = c.loop-k.k in
    let subsets = c.in_ok-subsets.subsets.items in
    let lt : k < length subsets = omega (arith, c.in_ok-subsets.ensures.counted) in
    let below : k < count_of (grid_of shape sub) = omega (arith, c.args.self.now.indexed, c.subchunks-count.ensures) in
    let shaped : (target_subset first).shape ≡ shape = search rules in
    let each = rw (c.subset-2.ensures, c.in_ok-grid.ensures.grid) at c.in_ok-subsets.ensures.each in
    let position : c.index.result.now ≡ shifted_subset (target_subset first) (grid_subset (grid_of shape sub) sub k) = get_or_read subsets _ _ lt c.index.ensures no_subset ∙ each k (omega arith) in
    let slot : c.slot-slot.result ≡ slot_at (length a.self.now.bytes.now) index k = rw c.args.self.now.len at c.slot-slot.ensures.slot in
    target_put_more inner.cells shape sub s.fill_value.now a.self.now.bytes.now index c.args.self.now.divides first c.requires.element shaped k c.loop-k.target c.put_slot.new.target c.index.result.now
    (rw c.subset.ensures at c.shape.ensures.well_formed) first.is_target.served.0 below position c.loop-k.invariant (rw slot at c.put_slot.ensures)

pub returns-clause-put : goal.returns-clause-put
returns-clause-put g c = λ t.
    let a = c.args in
    let s = a.self.now.subchunks.now in
    let inner = inner_meaning g.I.ArrayToBytesCodecTraits.meaning s in
    let shaped : (target_subset a.target.now).shape ≡ a.self.now.shape.now = search rules in
    target_put_all inner.cells a.self.now.shape.now s.shape.now s.fill_value.now a.self.now.bytes.now a.self.now.index.now.numbers.items c.args.self.now.divides a.target.now c.requires.element shaped
    c.loop-k.k c.loop-k.target (omega (arith, c.args.self.now.indexed, c.subchunks-count.ensures)) c.loop-k.invariant
