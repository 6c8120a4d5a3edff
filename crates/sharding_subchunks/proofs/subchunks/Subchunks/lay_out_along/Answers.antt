use Rattle.std.proofs.Common.{◌≡◌, ◌+◌, ◌-◌, ◌*◌, length, get_or, set, sym, ap, arith, ltb}
use Rattle.std.proofs.lemmas.Bool.{lt-ltb, ltb-true}
use Rattle.sharding_subchunks.specs.steps.Inner.{inner_meaning}
use Rattle.sharding_subchunks.proofs.AppendLemmas.{stay_before}
use Rattle.sharding_subchunks.proofs.PlainRowLemmas.{row_within, row_below, row_along}
use Rattle.sharding_subchunks.proofs.subchunks.Subchunks.lay_out_along.Goals as goal

pub overflow_mul-first : goal.overflow_mul-first
overflow_mul-first g c =
    let a = c.args in
    let s = a.self.now in
    let written = (inner_meaning g.I.ArrayToBytesCodecTraits.meaning s).written in
    let n = length a.sequence.now in
    let below = row_below written s.fill_value.now a._cut.now.shape.now s.shape.now a._cut.now.array.now.elements a.bytes.now a.size n c.requires.rows a.sequence.now c.requires.order c.loop-position.position
    (omega (arith, c.loop-position-test.true, c.len-rows.ensures)) in
    let within = row_within written s.fill_value.now a._cut.now.shape.now s.shape.now a._cut.now.array.now.elements a.bytes.now a.size n c.requires.rows c.number_at-number.result (omega (arith, c.number_at-number.ensures, below)) in
    omega (arith, within)

pub overflow_add-first : goal.overflow_add-first
overflow_add-first g c =
    let a = c.args in
    let s = a.self.now in
    let written = (inner_meaning g.I.ArrayToBytesCodecTraits.meaning s).written in
    let n = length a.sequence.now in
    let below = row_below written s.fill_value.now a._cut.now.shape.now s.shape.now a._cut.now.array.now.elements a.bytes.now a.size n c.requires.rows a.sequence.now c.requires.order c.loop-position.position
    (omega (arith, c.loop-position-test.true, c.len-rows.ensures)) in
    let within = row_within written s.fill_value.now a._cut.now.shape.now s.shape.now a._cut.now.array.now.elements a.bytes.now a.size n c.requires.rows c.number_at-number.result (omega (arith, c.number_at-number.ensures, below)) in
    omega (arith, within)

pub slice_bounds-stored_row-end : goal.slice_bounds-stored_row-end
slice_bounds-stored_row-end g c =
    let a = c.args in
    let s = a.self.now in
    let written = (inner_meaning g.I.ArrayToBytesCodecTraits.meaning s).written in
    let n = length a.sequence.now in
    let below = row_below written s.fill_value.now a._cut.now.shape.now s.shape.now a._cut.now.array.now.elements a.bytes.now a.size n c.requires.rows a.sequence.now c.requires.order c.loop-position.position
    (omega (arith, c.loop-position-test.true, c.len-rows.ensures)) in
    let within = row_within written s.fill_value.now a._cut.now.shape.now s.shape.now a._cut.now.array.now.elements a.bytes.now a.size n c.requires.rows c.number_at-number.result (omega (arith, c.number_at-number.ensures, below)) in
    omega (arith, within)

pub stored_row-run-requires-clause-whole : goal.stored_row-run-requires-clause-whole
stored_row-run-requires-clause-whole g c =
    let a = c.args in
    let s = a.self.now in
    let written = (inner_meaning g.I.ArrayToBytesCodecTraits.meaning s).written in
    let n = length a.sequence.now in
    let below = row_below written s.fill_value.now a._cut.now.shape.now s.shape.now a._cut.now.array.now.elements a.bytes.now a.size n c.requires.rows a.sequence.now c.requires.order c.loop-position.position
    (omega (arith, c.loop-position-test.true, c.len-rows.ensures)) in
    let cut : (c.number_at-number.result * a.size + a.size) - c.number_at-number.result * a.size ≡ a.size = omega arith in
    rw cut (c.requires.rows.whole c.number_at-number.result (omega (arith, c.number_at-number.ensures, below)))

pub loop-position-preserved : goal.loop-position-preserved
loop-position-preserved g c =
    let a = c.args in
    let s = a.self.now in
    let l = c.loop-position in
    let old = a.slices.now.items in
    let newer = c.push_rows.new.slices.items in
    let n = length a.sequence.now in
    let written = (inner_meaning g.I.ArrayToBytesCodecTraits.meaning s).written in
    let number : get_or a.sequence.now l.position 0 ≡ c.number_at-number.result = sym c.number_at-number.ensures in
    let cut : (c.number_at-number.result * a.size + a.size) - c.number_at-number.result * a.size ≡ a.size = omega arith in
    let row = rw cut at c.stored_row-run.ensures in
    let appended = c.in_ok-push_rows.ensures.appended in
    let offset : c.len.result - c.len-start.result ≡ length l.slices.items - length old =
    omega (arith, c.len.ensures, l.slices.ok.0, c.len-start.ensures, a.slices.now.ok.0) in (
      stay_before old l.slices.items c.stored_row-run.result.now newer l.invariant.0 appended,
      row_along written s.fill_value.now a._cut.now.shape.now s.shape.now a._cut.now.array.now.elements a.bytes.now a.size n c.requires.rows a.sequence.now c.requires.order
          old l.slices.items newer c.stored_row-run.result.now l.slots.items (set l.slots.items c.number_at-number.result c.placed.result) l.position c.number_at-number.result (ltb 0 (length c.stored_row-run.result.now))
          (omega (arith, c.loop-position-test.true, c.len-rows.ensures)) number l.invariant.0 l.invariant.1 row appended
          (ltb-true 0 (length c.stored_row-run.result.now), lt-ltb 0 (length c.stored_row-run.result.now))
          (ap (λ x. set l.slots.items c.number_at-number.result x) (rw offset at c.placed.ensures)),
    )
