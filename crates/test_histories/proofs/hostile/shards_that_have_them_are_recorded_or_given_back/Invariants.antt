use Rattle.std.specs.Prelude.{Some}
use Rattle.parts_arrays.specs.ArraySpec.{array_spec}
use Rattle.parts_arrays.specs.declared.data_type.DataType.TheVariants.{UInt8}
use Rattle.test_histories.proofs.hostile.shards_that_have_them_are_recorded_or_given_back.Given as goal

-- the codec and the arrays of its shards
abbrev pub ghosts-recorded_over : goal.ghosts-recorded_over
ghosts-recorded_over g a = record { codec = Some a.shards.now.codec; array_spec = array_spec a.shards.now.shape UInt8 a.shards.now.fill }
