use Rattle.std.proofs.Common.{◌∙◌, ℕ, Some, [], subst, arith}
use Rattle.parts_row_major.specs.Pieces.{piece}
use Rattle.sharding_format.specs.steps.Decoding.{element_at}
use Rattle.sharding_gather.specs.steps.Sorting.{IsWritten}
use Rattle.sharding_gather.proofs.SortingLemmas.{written_none, written_more}
use Rattle.sharding_gather.proofs.sorted.put_cells.Goals as goal

pub loop-i-init : goal.loop-i-init
loop-i-init c = record {
  so_far = written_none c.args.requested.now (piece c.args.size c.args.bytes.now) (element_at [] (Some c.in-Some.array));
}

pub loop-i-preserved : goal.loop-i-preserved
loop-i-preserved c =
    let size = c.args.size in
    record {
      so_far = written_more c.args.requested.now c.loop-i.i (piece size c.args.bytes.now) (piece size c.loop-i.bytes) (element_at [] (Some c.in-Some.array)) (piece size c.write_element.new.bytes)
          c.loop-i.invariant.so_far (c.write_element.ensures.written ∙ c.element.ensures) c.write_element.ensures.others;
    }

pub returns : goal.returns
returns c =
    let size = c.args.size in
    let Written : ℕ → Type 0 = λ n. IsWritten c.args.requested.now n (piece size c.args.bytes.now) (element_at [] (Some c.in-Some.array)) (piece size c.loop-i.bytes) in
    rw c.in-Some.is (subst Written (omega arith) c.loop-i.invariant.so_far)
