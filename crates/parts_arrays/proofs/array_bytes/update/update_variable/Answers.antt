use Rattle.std.proofs.Common.{arith, refl, ap, ◌∙◌, get_or, ℕ, None}
use Rattle.std.proofs.lemmas.List.{get_or_read}
use Rattle.parts_arrays.specs.Arrays.{chosen}
use Rattle.parts_arrays.proofs.PartLaws.{taken_more}
use Rattle.parts_arrays.proofs.ArrayLaws.{chosen_array}
use Rattle.parts_arrays.proofs.array_bytes.update.update_variable.Goals as goal

pub loop-i-preserved : goal.loop-i-preserved
loop-i-preserved c =
    let known = c.loop-i.invariant in
    let i = c.loop-i.i in
    let made = c.in_ok-made.made.items in
    let choose = λ (k : ℕ). chosen c.args.bytes.now c.args.offsets.now c.args.update.now c.args.update_offsets.now (get_or made k None) k in
    let read = get_or_read made i _ (omega (arith, c.in_ok-made.ensures.all, c.in_ok-made.made.ok.0)) c.index.ensures None in
    let took = c.chosen_part.ensures ∙ ap (λ o. chosen c.args.bytes.now c.args.offsets.now c.args.update.now c.args.update_offsets.now o i) read in
    let more = taken_more choose (λ k. k) i
    c.loop-i.ends.items c.loop-i.taken.items c.extend_from_slice.new.self.items c.chosen_part.result.now c.push-in-loop-i.new.self.items i c.len.result
    known.are_offsets known.so_far refl took c.in_ok-extend_from_slice.ensures.items
    (omega (arith, c.len.ensures, c.extend_from_slice.new.self.ok.0)) c.in_ok-push-2.ensures.items in
    record { are_offsets = more.are_offsets; so_far = more.so_far }

pub returns : goal.returns
returns c =
    chosen_array c.args.offsets.now c.args.bytes.now c.args.update_offsets.now c.args.update.now c.loop-i.ends.items c.loop-i.taken.items c.in_ok-made.made.items c.args.subset.now c.args.shape.now c.loop-i.i
    c.requires.all c.requires.all_update (omega (arith, c.requires.all)) c.requires.served.0 c.in_ok-made.ensures.sources c.loop-i.invariant.so_far
