use Rattle.std.specs.Prelude.{Some}
use Rattle.parts_arrays.specs.ArraySpec.{array_spec}
use Rattle.parts_arrays.specs.declared.data_type.DataType.TheVariants.{UInt8}
use Rattle.test_histories.proofs.rows.a_damaged_object_is_refused_and_comes_back.Given as goal

-- the codec and the arrays of its shards
abbrev pub ghosts-played : goal.ghosts-played
ghosts-played g a = record { codec = Some a.shards.now.codec; array_spec = array_spec a.shards.now.shape UInt8 a.shards.now.fill }
