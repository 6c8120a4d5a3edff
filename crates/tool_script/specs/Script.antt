-- How a script ends.
use Rattle.std.specs.Prelude.{ℕ}
use Rattle.tool_script.specs.declared.stop.Stop.{Stop}
use Rattle.tool_script.specs.declared.stop.Stop.TheVariants.{Malformed, Failed}

-- the status that the program ends with
abbrev pub status_of : Stop → ℕ
status_of (Malformed reason) = 2
status_of Failed = 1
