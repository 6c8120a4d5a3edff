use Rattle.std.proofs.Common.{◌≡◌, ◌∙◌, ◌<◌, ap, length, arith}
use Rattle.parts_errors.proofs.ListLaws.{whole_after}
use Rattle.parts_row_major.specs.Numbering.{count_of}
use Rattle.parts_subsets.specs.Grid.{grid_of}
use Rattle.parts_row_major.specs.Pieces.{piece}
use Rattle.sharding_format.specs.Index.{slot_at}
use Rattle.sharding_subchunks.specs.steps.Inner.{inner_meaning}
use Rattle.sharding_subchunks.proofs.WholeLemmas.{whole_none, whole_more, put_all}
use Rattle.sharding_subchunks.proofs.held_shard.HeldShard.whole_bytes.Goals as goal

pub loop-k-init : goal.loop-k-init
loop-k-init g c =
    let a = c.args in
    let s = a.self.now.subchunks.now in
    let inner = inner_meaning g.I.ArrayToBytesCodecTraits.meaning s in
    let absent = rw c.args.self.now.len at c.any_absent.ensures in
    let filled = rw c.as_ne_bytes-fill.ensures at c.in_ok-whole.ensures.filled in
    record {
      whole = rw c.as_ne_bytes-fill.ensures at c.in_ok-whole.ensures.whole;
      so_far = whole_none inner.cells a.self.now.shape.now s.shape.now s.fill_value.now a.self.now.bytes.now a.self.now.index.now.numbers.items c.args.self.now.divides (piece (length s.fill_value.now) c.in_ok-whole.whole.items)
          (λ k i lt none li. filled (absent k (omega (arith, lt, c.args.self.now.indexed)) none) i (omega (arith, li, c.args.self.now.counted)));
    }

pub loop-k-preserved : goal.loop-k-preserved
loop-k-preserved g c =
    let a = c.args in
    let s = a.self.now.subchunks.now in
    let inner = inner_meaning g.I.ArrayToBytesCodecTraits.meaning s in
    let index = a.self.now.index.now.numbers.items in
    let k = c.loop-k.k in
    let old = c.loop-k.whole.items in
    let new = c.decode_to.new.output in
    let below : k < count_of (grid_of a.self.now.shape.now s.shape.now) = omega (arith, c.args.self.now.indexed) in
    let slot : c.slot-slot.result ≡ slot_at (length a.self.now.bytes.now) index k = rw c.args.self.now.len at c.slot-slot.ensures.slot in
    let long : length new ≡ length old = omega (arith, c.decode_to.auto.output, ap length c.deref_mut.ensures.value) in
    let wrote = rw (slot, c.deref_mut.ensures.value) at c.in_ok-decode_to.ensures.written in
    rw (whole_after c.loop-k.whole.len new old long (omega (arith, c.loop-k.whole.ok.0))) (record {
      whole = long ∙ c.loop-k.invariant.whole;
      so_far = whole_more inner.cells a.self.now.shape.now s.shape.now s.fill_value.now a.self.now.bytes.now index c.args.self.now.divides k (piece (length s.fill_value.now) old) (piece (length s.fill_value.now) new) below c.loop-k.invariant.so_far wrote;
    })

pub returns-clause-cells : goal.returns-clause-cells
returns-clause-cells g c =
    let a = c.args in
    let s = a.self.now.subchunks.now in
    let inner = inner_meaning g.I.ArrayToBytesCodecTraits.meaning s in
    rw c.args.self.now.counted
    (put_all inner.cells a.self.now.shape.now s.shape.now s.fill_value.now a.self.now.bytes.now a.self.now.index.now.numbers.items c.args.self.now.divides c.loop-k.k (piece (length s.fill_value.now) c.loop-k.whole.items) (omega (arith, c.args.self.now.indexed)) c.loop-k.invariant.so_far.so_far)
