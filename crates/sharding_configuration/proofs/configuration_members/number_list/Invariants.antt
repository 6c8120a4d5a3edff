use Rattle.std.proofs.Common.{◌≡◌, map, take}
use Rattle.serde_json.specs.Data.{unsigned, number}
use Rattle.serde_json.specs.View.{view}
use Rattle.sharding_configuration.proofs.configuration_members.number_list.Given as goal

-- the numbers up to here are written
abbrev pub invariant-loop-number : goal.invariant-loop-number
invariant-loop-number l = map view l.list.items ≡ map (λ n. number (unsigned n)) (take l.number-index l.numbers)
