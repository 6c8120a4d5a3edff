use Rattle.std.specs.Prelude.{Some}
use Rattle.parts_arrays.specs.ArraySpec.{array_spec}
use Rattle.parts_arrays.specs.declared.data_type.DataType.TheVariants.{UInt8}
use Rattle.test_histories.proofs.mismatches.a_receipt_of_another_write_is_told.Given as goal

-- the codec and the arrays of its shards
abbrev pub ghosts-crossed : goal.ghosts-crossed
ghosts-crossed g a = record { codec = Some a.shards.now.codec; array_spec = array_spec a.shards.now.shape UInt8 a.shards.now.fill }
