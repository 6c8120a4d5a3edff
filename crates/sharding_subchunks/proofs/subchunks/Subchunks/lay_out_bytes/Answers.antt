use Rattle.std.proofs.Common.{◌≡◌, ◌+◌, ◌-◌, ◌*◌, length, drop, length-drop, refl, arith}
use Rattle.std.proofs.lemmas.Nat.{row_fits}
use Rattle.sharding_subchunks.specs.steps.Inner.{inner_meaning}
use Rattle.sharding_subchunks.proofs.AppendLemmas.{stay_themselves, nothing_after, old_within, stay_before, more_after}
use Rattle.sharding_subchunks.proofs.PlainRowLemmas.{no_rows, row_stored, row_blank, all_rows}
use Rattle.sharding_subchunks.proofs.subchunks.Subchunks.lay_out_bytes.Goals as goal

pub loop-k-init : goal.loop-k-init
loop-k-init g c =
    let a = c.args in
    let s = a.self.now in (
      stay_themselves a.slices.now.items,
      rw (nothing_after a.slices.now.items, c.in_ok-slots.ensures.items)
          (no_rows (inner_meaning g.I.ArrayToBytesCodecTraits.meaning s).written s.fill_value.now a._cut.now.shape.now s.shape.now a._cut.now.array.now.elements a.bytes.now a.size a.rows c.requires.rows),
    )

pub overflow_sub-len : goal.overflow_sub-len
overflow_sub-len g c =
    let old = c.args.slices.now in
    let now = c.loop-k.slices in
    omega (arith, c.len-start.ensures, old.ok.0, c.len.ensures, now.ok.0, old_within old.items now.items c.loop-k.invariant.0)

pub overflow_mul-first : goal.overflow_mul-first
overflow_mul-first g c =
    let a = c.args in
    omega (arith, row_fits c.loop-k.k a.size a.rows a.size c.loop-k-test.true (omega arith), c.requires.rows.counted)

pub overflow_add-first : goal.overflow_add-first
overflow_add-first g c =
    let a = c.args in
    omega (arith, row_fits c.loop-k.k a.size a.rows a.size c.loop-k-test.true (omega arith), c.requires.rows.counted)

pub slice_bounds-is_blank-end : goal.slice_bounds-is_blank-end
slice_bounds-is_blank-end g c =
    let a = c.args in
    omega (arith, row_fits c.loop-k.k a.size a.rows a.size c.loop-k-test.true (omega arith), c.requires.rows.counted)

pub overflow_sub-first : goal.overflow_sub-first
overflow_sub-first g c = omega (arith, c.loop-k.invariant.1.appended)

pub overflow_add-len : goal.overflow_add-len
overflow_add-len g c =
    let a = c.args in
    let l = c.loop-k in
    let old = a.slices.now.items in
    let long : c.len.result - c.len-start.result ≡ length (drop (length old) l.slices.items) =
    omega (arith, c.len-start.ensures, a.slices.now.ok.0, c.len.ensures, l.slices.ok.0, length-drop (length old) l.slices.items) in
    omega (arith, long, l.invariant.1.short, l.invariant.1.appended, row_fits l.k a.size a.rows a.size c.loop-k-test.true (omega arith), c.requires.rows.counted)

pub loop-k-preserved-then-not-is_blank : goal.loop-k-preserved-then-not-is_blank
loop-k-preserved-then-not-is_blank g c =
    let a = c.args in
    let s = a.self.now in
    let l = c.loop-k in
    let old = a.slices.now.items in
    let cut : (l.k * a.size + a.size) - l.k * a.size ≡ a.size = omega arith in
    let long : c.len.result - c.len-start.result ≡ length (drop (length old) l.slices.items) =
    omega (arith, c.len-start.ensures, a.slices.now.ok.0, c.len.ensures, l.slices.ok.0, length-drop (length old) l.slices.items) in (
      l.invariant.0,
      row_stored (inner_meaning g.I.ArrayToBytesCodecTraits.meaning s).written s.fill_value.now a._cut.now.shape.now s.shape.now a._cut.now.array.now.elements a.bytes.now a.size a.rows c.requires.rows
          (drop (length old) l.slices.items) l.slots.items c.push.new.self.items l.copied l.k c.loop-k-test.true l.invariant.1
          (λ all. let told = (rw cut at c.if-not-is_blank.ensures).1 all in cc)
          (rw long at c.in_ok-push.ensures.items),
    )

pub loop-k-preserved : goal.loop-k-preserved
loop-k-preserved g c =
    let a = c.args in
    let s = a.self.now in
    let l = c.loop-k in
    let old = a.slices.now.items in
    let newer = c.push_rows.new.slices.items in
    let run = c.in_ok-push_rows.ensures.appended in
    let cut : (l.k * a.size + a.size) - l.k * a.size ≡ a.size = omega arith in (
      stay_before old l.slices.items _ newer l.invariant.0 run,
      row_blank (inner_meaning g.I.ArrayToBytesCodecTraits.meaning s).written s.fill_value.now a._cut.now.shape.now s.shape.now a._cut.now.array.now.elements a.bytes.now a.size a.rows c.requires.rows
          (drop (length old) l.slices.items) (drop (length old) newer) l.slots.items c.push-in-loop-k.new.self.items l.copied l.k c.loop-k-test.true l.invariant.1
          ((rw cut at c.if-not-is_blank.ensures).0 refl)
          (more_after old l.slices.items _ newer l.invariant.0 run)
          c.in_ok-push-2.ensures.items,
    )

pub returns : goal.returns
returns g c =
    let a = c.args in
    let s = a.self.now in
    let l = c.loop-k in
    let old = a.slices.now.items in
    let all = c.push_rows-2.new.slices.items in
    let rest = c.in_ok-push_rows-2.ensures.appended in
    let end : l.k ≡ a.rows = omega arith in
    record {
      stay = stay_before old l.slices.items _ all l.invariant.0 rest;
      stored_slices = all_rows (inner_meaning g.I.ArrayToBytesCodecTraits.meaning s).written s.fill_value.now a._cut.now.shape.now s.shape.now a._cut.now.array.now.elements a.bytes.now a.size a.rows c.requires.rows
          (drop (length old) l.slices.items) (drop (length old) all) l.slots.items l.copied (rw end at l.invariant.1) (more_after old l.slices.items _ all l.invariant.0 rest);
    }
