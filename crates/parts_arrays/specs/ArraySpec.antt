-- What a codec is asked to serve: arrays of one shape and type, with a fill value.
use Rattle.std.specs.Prelude.{◌≡◌, ℕ, List, length}
use Rattle.std.specs.List.{All}
use Rattle.parts_errors.specs.Words.{Bytes, Elements}
use Rattle.parts_arrays.specs.declared.data_type.DataType.{DataType}
use Rattle.parts_row_major.specs.Numbering.{count_of}
use Rattle.parts_arrays.specs.Types.{size_of, FitsKind}

pub record ArraySpec : Type 0 where
  pub shape : List ℕ
  pub data_type : DataType
  pub fill : Bytes

abbrev pub array_spec : List ℕ → DataType → Bytes → ArraySpec
array_spec shape data_type fill = record { shape = shape; data_type = data_type; fill = fill }

-- the elements of an array of this array spec: as many as the shape has cells, each fitting the type
pub record IsArrayOf (g : ArraySpec) (elements : Elements) : Type 0 where
  pub counted : length elements ≡ count_of g.shape
  pub fitting : All (FitsKind (size_of g.data_type)) elements
