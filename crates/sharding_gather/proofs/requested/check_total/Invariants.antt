use Rattle.std.proofs.Common.{◌≡◌, ◌^◌, ◌<◌}
use Rattle.sharding_gather.specs.steps.Gathering.{bytes_read}
use Rattle.sharding_gather.proofs.requested.check_total.Given as goal

abbrev pub invariant-loop-i : goal.invariant-loop-i
invariant-loop-i l = record {
  total : l.total ≡ bytes_read l.groups l.parts l.fill l.i;
  fits : l.total < 2 ^ 64;
}
