use Rattle.std.proofs.Common.{◌≡◌}
use Rattle.sharding_format.specs.Compacting.{present_size}
use Rattle.sharding_plans.specs.PackedShards.{slots_of_sizes}
use Rattle.sharding_plans.specs.WritePlans.{HasNewEntries}
use Rattle.sharding_plans.proofs.write_plan.set_entries.Given as goal

abbrev pub invariant-loop-j : goal.invariant-loop-j
invariant-loop-j l = record {
  placed : HasNewEntries l.touched l.sizes l.write_offset l.fn.numbers l.numbers l.j;
  before_is : l.before ≡ present_size (slots_of_sizes l.sizes) l.j;
}
