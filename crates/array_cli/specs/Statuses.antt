-- The status that a command which stops gives the program to end with.
use Rattle.std.specs.Prelude.{ℕ}
use Rattle.array_cli.specs.declared.stop.Stop.{Stop}
use Rattle.array_cli.specs.declared.stop.Stop.TheVariants.{Refused, Absent}

-- 1 where a shard is refused or a subchunk is absent, else 2
abbrev pub status_of : Stop → ℕ
status_of (Refused refusal) = 1
status_of (Absent _ _) = 1
status_of other = 2
