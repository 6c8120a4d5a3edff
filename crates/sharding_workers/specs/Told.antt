-- What a session that threads share tells without its lock.
use Rattle.parts_arrays.specs.declared.data_type.DataType.{DataType}
use Rattle.storage_handles.specs.Handles.{Support}

-- its data type, and what its handle can do in part
pub record Told : Type 0 where
  pub data_type : DataType
  pub supports : Support
