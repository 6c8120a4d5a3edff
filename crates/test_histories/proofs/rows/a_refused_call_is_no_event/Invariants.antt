use Rattle.std.specs.Prelude.{Some}
use Rattle.parts_arrays.specs.ArraySpec.{array_spec}
use Rattle.parts_arrays.specs.declared.data_type.DataType.TheVariants.{UInt8}
use Rattle.test_histories.proofs.rows.a_refused_call_is_no_event.Given as goal

-- the codec and the arrays of its shards
abbrev pub ghosts-played : goal.ghosts-played
ghosts-played g a = record { codec = Some a.shards.now.codec; array_spec = array_spec a.shards.now.shape UInt8 a.shards.now.fill }
