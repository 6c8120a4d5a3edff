use Rattle.std.proofs.Common.{◌≤◌, vec_len}
use Rattle.std.specs.Io.KnownBytes.{Consumes}
use Rattle.tool_script.specs.declared.script.TheConstants.{MAX_INPUT}
use Rattle.tool_script.proofs.script.read_input.Given as goal

abbrev pub invariant-loop : goal.invariant-loop
invariant-loop g l = record {
  bounded : vec_len l.input ≤ MAX_INPUT;
  read : Consumes (g.R.Read.remaining l.initial.reader) (g.R.Read.remaining l.reader) l.input.items;
}
