use Rattle.std.specs.Prelude.{Some}
use Rattle.parts_arrays.specs.ArraySpec.{array_spec}
use Rattle.parts_arrays.specs.declared.data_type.DataType.TheVariants.{UInt8}
use Rattle.test_histories.proofs.faults.the_handle_of_a_failed_session_is_opened_anew.Given as goal

-- the codec and the arrays of its shards
abbrev pub ghosts-has_cells_then : goal.ghosts-has_cells_then
ghosts-has_cells_then g a = record { codec = Some a.shards.now.codec; array_spec = array_spec a.shards.now.shape UInt8 a.shards.now.fill }
