use Rattle.std.proofs.Common.{◌+◌, ◌∙◌, ap, arith}
use Rattle.sharding_format.specs.Laying.{offset_number}
use Rattle.sharding_format.specs.Packing.{moved_slot}
use Rattle.sharding_plans.specs.PackedShards.{slots_of_sizes}
use Rattle.sharding_plans.proofs.WriteLemmas.{entries_more, total_more, total_upto}
use Rattle.sharding_plans.proofs.write_plan.set_entries.Goals as goal

pub offset_of-offset-requires : goal.offset_of-offset-requires
offset_of-offset-requires c =
    omega (arith, c.requires.room, c.loop-j.invariant.before_is, total_upto c.args.sizes.now c.loop-j.j (omega (arith, c.requires.counted)))

pub overflow_add-before : goal.overflow_add-before
overflow_add-before c =
    omega (
      arith,
      c.requires.room,
      c.requires.counted,
      c.loop-j.invariant.before_is,
      c.bytes_of_size-before.ensures,
      total_more c.args.sizes.now c.loop-j.j,
      total_upto c.args.sizes.now (c.loop-j.j + 1) (omega (arith, c.requires.counted)),
    )

pub loop-j-preserved : goal.loop-j-preserved
loop-j-preserved c =
    let a = c.args in
    let l = c.loop-j in
    let e = c.set_entry.ensures in
    record {
      placed = entries_more a.touched.now a.sizes.now a.numbers.now l.numbers c.set_entry.new.numbers a.write_offset l.j c.requires.rising c.loop-j-test.true l.invariant.placed
          (e.offset ∙ (c.offset_of-offset.ensures.offset ∙ ap (λ m. offset_number a.write_offset (moved_slot (slots_of_sizes a.sizes.now l.j) m)) l.invariant.before_is))
          (e.size ∙ c.offset_of-offset.ensures.size) e.others e.counted;
      before_is = omega (arith, l.invariant.before_is, c.bytes_of_size-before.ensures, total_more a.sizes.now l.j);
    }
