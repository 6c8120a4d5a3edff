use Rattle.std.proofs.Common.{◌≡◌, take}
use Rattle.sharding_c.specs.Rows.{rows_of}
use Rattle.sharding_c.proofs.rows.rows_of_plan.Given as goal

abbrev pub invariant-loop-part : goal.invariant-loop-part
invariant-loop-part l = l.rows.items ≡ rows_of (take l.part-index l.plan.parts.items)
