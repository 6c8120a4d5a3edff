use Rattle.std.specs.Prelude.{Some}
use Rattle.parts_arrays.specs.ArraySpec.{array_spec}
use Rattle.parts_arrays.specs.declared.data_type.DataType.TheVariants.{UInt8}
use Rattle.test_out_of_memory.proofs.at_the_start.Given as goal

-- the codec and the arrays of the shard
abbrev pub ghosts-answers : goal.ghosts-answers
ghosts-answers g a = record { codec = Some a.shard.now.codec; array_spec = array_spec a.shard.now.shape UInt8 a.shard.now.fill }
