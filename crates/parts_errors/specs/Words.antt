-- Short names of the types that the definitions speak of.
use Rattle.std.specs.Prelude.{ℕ, List, Option}
use Rattle.parts_errors.specs.declared.error.CodecError.{CodecError}

-- some bytes, also those of one element
abbrev pub Bytes : Type 0
Bytes = List ℕ

-- the elements of an array, in row-major order
abbrev pub Elements : Type 0
Elements = List Bytes

-- the cells of an array: each an element, or not there
abbrev pub CellList : Type 0
CellList = List (Option Bytes)

-- what bytes stand for in a codec
abbrev pub CellsOf : Type 0
CellsOf = Bytes → CellList

-- when bytes are an encoding of elements
abbrev pub Written : Type 1
Written = Elements → Bytes → Type 0

-- the refusals that some tests give, in their order
abbrev pub Refusals : Type 1
Refusals = CodecError → Type 0
