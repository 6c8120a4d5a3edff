-- Each pair so far is absent, or its slice lies in the data part.
use Rattle.std.proofs.Common.{ℕ, ◌<◌}
use Rattle.sharding_format.specs.Index.{slot_at}
use Rattle.sharding_index.specs.DataPart.{IsInDataPart}
use Rattle.sharding_index.proofs.entries.check_entries.Given as goal

abbrev pub invariant-loop-k : goal.invariant-loop-k
invariant-loop-k l = (j : ℕ) → j < l.k → IsInDataPart l.fn.location l.fn.index_size l.index.len (slot_at l.index.len l.index.numbers.items j)
