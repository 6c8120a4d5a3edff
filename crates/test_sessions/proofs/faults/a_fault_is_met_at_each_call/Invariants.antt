-- There are six stages.
use Rattle.std.proofs.Common.{◌<◌}
use Rattle.test_sessions.proofs.faults.a_fault_is_met_at_each_call.Given as goal

abbrev pub invariant-loop-fails_at : goal.invariant-loop-fails_at
invariant-loop-fails_at g l = l.stage < 6
