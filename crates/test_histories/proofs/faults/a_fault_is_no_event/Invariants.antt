use Rattle.std.specs.Prelude.{Some, ◌<◌}
use Rattle.parts_arrays.specs.ArraySpec.{array_spec}
use Rattle.parts_arrays.specs.declared.data_type.DataType.TheVariants.{UInt8}
use Rattle.test_histories.proofs.faults.a_fault_is_no_event.Given as goal

-- the codec and the arrays of its shards
abbrev pub ghosts-run : goal.ghosts-run
ghosts-run g a = record { codec = Some a.shards.now.codec; array_spec = array_spec a.shards.now.shape UInt8 a.shards.now.fill }

-- there are five stages
abbrev pub invariant-loop-fails_at : goal.invariant-loop-fails_at
invariant-loop-fails_at g l = l.stage < 5
