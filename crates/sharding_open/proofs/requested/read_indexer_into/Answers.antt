use Rattle.std.proofs.Common.{ℕ, List, [], Result, Ok, Err, OnErr, slice_index_or, refl}
use Rattle.std.proofs.lemmas.Result.{IfOk-weaker}
use Rattle.parts_arrays.specs.Arrays.{element_of}
use Rattle.parts_arrays.specs.Targets.{IsWritten}
use Rattle.sharding_open.proofs.requested.read_indexer_into.Goals as goal

pub returns-clause-written : goal.returns-clause-written
returns-clause-written g c =
    let old = c.args.target.now in
    let new = c.copy_from.new.self in
    let array = c.in_ok-array.array in
    IfOk-weaker c.copy_from.result (λ _. IsWritten old new (element_of array)) (λ _. (elements : List (List ℕ)) × IsWritten old new (λ k. slice_index_or elements k []))
    (λ _ written. (array.elements, written)) c.copy_from.ensures.written

pub returns-clause-cells : goal.returns-clause-cells
returns-clause-cells g c =
    let array = c.in_ok-array.array in
    IfOk-weaker c.copy_from.result (λ _. IsWritten c.args.target.now c.copy_from.new.self (element_of array)) _
    (λ _ written told. record { elements = array.elements; there = c.in_ok-array.ensures.cells told; written = written })
    c.copy_from.ensures.written

on_refusal : {T E : Type 0} (r : Result T E) (P : Type 0) → P → OnErr r P
on_refusal (Ok x) P p = tt
on_refusal (Err e) P p = p

-- where the read is refused, nothing was written
pub returns-in_err-array-clause-kept : goal.returns-in_err-array-clause-kept
returns-in_err-array-clause-kept g c = on_refusal c.from_residual-in_err-array.result _ refl
