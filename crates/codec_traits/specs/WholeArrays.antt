-- Codecs whose bytes are a whole array or none: all cells are there, or no cell is.
use Rattle.std.specs.Prelude.{ℕ, Option, Some, None, IsSome, map, replicate}
use Rattle.parts_errors.specs.Words.{Elements, CellList, Refusals}
use Rattle.parts_errors.specs.Order.{◌or◌then◌, done}
use Rattle.parts_errors.specs.declared.error.CodecError.TheVariants.{Damaged}

-- the cells of an array of so many elements; where there is none, no cell is there
abbrev pub whole_cells : ℕ → Option Elements → CellList
whole_cells count None = replicate count None
whole_cells count (Some elements) = map Some elements

-- the test of bytes that are to be an array
abbrev pub WholeRefusals : Option Elements → Refusals
WholeRefusals array = IsSome array or Damaged then done
