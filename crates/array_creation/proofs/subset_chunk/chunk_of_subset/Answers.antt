use Rattle.std.proofs.Common.{inr, refl}
use Rattle.array_store.specs.declared.error.ArrayError.TheVariants.{Whole}
use Rattle.array_store.proofs.ProgressLemmas.{passed_error}
use Rattle.array_creation.proofs.subset_chunk.chunk_of_subset.Goals as goal

pub returns-clause-chunk : goal.returns-clause-chunk
returns-clause-chunk g c = λ t. record {
  cells = c.read_into.new.cells;
  read = c.in_ok-read_into.ensures.elements t;
  stored = rw (c.shape.ensures.value, c.array-elements.ensures) at c.in_ok-chunk.ensures.stored;
}

pub returns-in_err-chunk-clause-refused : goal.returns-in_err-chunk-clause-refused
returns-in_err-chunk-clause-refused g c =
    let e = c.in_err-chunk.field-0.0 in
    passed_error c.from_residual-in_err-chunk.result (Whole e) _ c.from_residual-in_err-chunk.ensures.1 (inr (record {
      cells = c.read_into.new.cells;
      read = c.in_ok-read_into.ensures.elements;
      refusal = e;
      refused = rw (c.shape.ensures.value, c.array-elements.ensures) at c.in_err-chunk.ensures.refused;
      whole = refl;
    }))
