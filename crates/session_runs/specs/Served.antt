-- A codec with what it is asked to serve.
use Rattle.parts_arrays.specs.ArraySpec.{ArraySpec, array_spec}
use Rattle.session_runs.specs.declared.served.Served.{Served}

-- the shape, the data type and the fill value that are asked
abbrev pub served_spec : {I X : Type 0} → Served I X → ArraySpec
served_spec served = array_spec served.shape.now served.data_type.now served.fill_value.now
