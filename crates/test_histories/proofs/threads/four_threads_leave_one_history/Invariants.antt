use Rattle.std.specs.Prelude.{Some}
use Rattle.parts_arrays.specs.ArraySpec.{array_spec}
use Rattle.parts_arrays.specs.declared.data_type.DataType.TheVariants.{UInt8}
use Rattle.test_histories.proofs.threads.four_threads_leave_one_history.Given as goal

-- the codec and the arrays of its shards
abbrev pub ghosts-shared : goal.ghosts-shared
ghosts-shared g a = record { codec = Some a.shards.now.codec; array_spec = array_spec a.shards.now.shape UInt8 a.shards.now.fill }
