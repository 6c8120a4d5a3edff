use Rattle.std.proofs.Common.{inl}
use Rattle.array_creation.proofs.MovedLemmas.{chunk_of_moved}
use Rattle.array_creation.proofs.subset_chunk.chunk_of_array.Goals as goal

pub returns-clause-chunk : goal.returns-clause-chunk
returns-clause-chunk g c = λ t. inl (record {
  part = c.in-Some.part;
  lies = rw (c.in-Some.is, c.deref.ensures.value) at c.in_ok-part.ensures;
  stored = chunk_of_moved _ c.args.origin.now c.in-Some.part c.in-Some-2.subset _ _ _ _ (rw c.in-Some-2.is at c.in_ok-subset.ensures) (c.in_ok-chunk.ensures.chunk t);
})
