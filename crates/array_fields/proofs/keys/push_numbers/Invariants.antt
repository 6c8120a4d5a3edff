use Rattle.std.proofs.Common.{◌≡◌, ◌++◌, drop, string_bytes}
use Rattle.array_fields.specs.ChunkKeys.{behind_separators}
use Rattle.array_fields.proofs.keys.push_numbers.Given as goal

abbrev pub invariant-loop-number : goal.invariant-loop-number
invariant-loop-number l =
    string_bytes l.key ++ behind_separators l.separator (drop l.number-index l.numbers) ≡ string_bytes l.fn.key ++ behind_separators l.separator l.numbers
