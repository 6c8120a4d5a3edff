-- What commands answer.
use Rattle.std.specs.Prelude.{◌≤◌, ⊤, ℕ, List, length}
use Rattle.std.specs.List.{All}
use Rattle.parts_arrays.specs.Arrays.{Array}
use Rattle.parts_arrays.specs.declared.data_type.DataTypeSize.{DataTypeSize}
use Rattle.parts_arrays.specs.declared.data_type.DataTypeSize.TheVariants.{Fixed, Variable}
use Rattle.tool_script.specs.declared.answer.Answer.{Answer}
use Rattle.tool_script.specs.declared.answer.Answer.TheVariants.{Cells}

-- an element of a kind that has one size is a number of at most 8 bytes
abbrev pub IsShort : DataTypeSize → List ℕ → Type 0
IsShort (Fixed size) element = length element ≤ 8
IsShort Variable element = ⊤

-- the elements of an array can be written as numbers, or as bytes
abbrev pub AreShort : Array → Type 0
AreShort array = All (IsShort array.kind) array.elements

-- so can cells that are answered
abbrev pub HasShortCells : Answer → Type 0
HasShortCells (Cells array) = AreShort array
HasShortCells _ = ⊤
