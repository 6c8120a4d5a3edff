use Rattle.std.proofs.lemmas.Result.{on_ok_weaker}
use Rattle.parts_arrays.specs.Arrays.{element_of}
use Rattle.codec_traits.proofs.OverwriteLemmas.{untouched, written_or_kept, written_after}
use Rattle.sharding_open.proofs.fresh.read_indexer_into_fresh.Goals as goal

pub returns-in_err-check_target-clause-written : goal.returns-in_err-check_target-clause-written
returns-in_err-check_target-clause-written g c = untouched c.args.target.now

pub returns-in_err-count-clause-written : goal.returns-in_err-count-clause-written
returns-in_err-count-clause-written g c = untouched c.args.target.now

pub returns-clause-written : goal.returns-clause-written
returns-clause-written g c =
    let mid = c.put_plain.new.target in
    let new = c.copy_from.new.self in
    let last = written_or_kept c.copy_from.result mid new (on_ok_weaker c.copy_from.result (λ wrote. (c.in_ok-array.array.elements, wrote)) c.copy_from.ensures.written) c.copy_from.ensures.kept in
    (last.0, written_after c.args.target.now mid new _ c.put_plain.ensures.written last.1)

pub returns-clause-cells : goal.returns-clause-cells
returns-clause-cells g c =
    let before = c.put_plain.ensures.read in
    let array = c.in_ok-array.array in
    on_ok_weaker c.copy_from.result
    (λ wrote t. record {
      elements = array.elements;
      there = rw before.contents_same at (c.in_ok-array.ensures.cells (rw before.transparent_same t));
      written = written_after c.args.target.now c.put_plain.new.target c.copy_from.new.self (element_of array) c.put_plain.ensures.written wrote;
    })
    c.copy_from.ensures.written
