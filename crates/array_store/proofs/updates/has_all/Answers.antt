use Rattle.std.proofs.Common.{rules}
use Rattle.array_store.proofs.UpdateLemmas.{all_of}
use Rattle.array_store.proofs.updates.has_all.Goals as goal

pub returns-then-eq : goal.returns-then-eq
returns-then-eq c = λ all. all_of c.args.in_chunk.now c.args.chunk.now c.start.ensures.well_formed (search rules) (rw c.start.ensures.value at (c.are_zero.ensures all))
