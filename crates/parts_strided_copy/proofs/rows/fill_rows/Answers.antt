use Rattle.std.proofs.Common.{◌≡◌, arith}
use Rattle.parts_subsets.proofs.RowSetLaws.{rows_more}
use Rattle.parts_strided_copy.proofs.RowParts.{row_ends}
use Rattle.parts_strided_copy.proofs.rows.fill_rows.Goals as goal

pub overflow_mul-k : goal.overflow_mul-k
overflow_mul-k c =
    let to = c.args.to in
    omega (arith, row_ends to.first to.stride c.args.run c.args.size c.loop-k.k c.requires.some (c.requires.inside c.loop-k.k (omega arith)))

pub overflow_add-to : goal.overflow_add-to
overflow_add-to c =
    let to = c.args.to in
    omega (arith, row_ends to.first to.stride c.args.run c.args.size c.loop-k.k c.requires.some (c.requires.inside c.loop-k.k (omega arith)))

pub fill_run-requires-clause-inside : goal.fill_run-requires-clause-inside
fill_run-requires-clause-inside c = omega (arith, c.requires.inside c.loop-k.k (omega arith), c.loop-k.invariant.whole)

pub fill_run-requires-clause-fits : goal.fill_run-requires-clause-fits
fill_run-requires-clause-fits c =
    let to = c.args.to in
    omega (arith, row_ends to.first to.stride c.args.run c.args.size c.loop-k.k c.requires.some (c.requires.inside c.loop-k.k (omega arith)))

pub loop-k-preserved : goal.loop-k-preserved
loop-k-preserved c =
    let known = c.loop-k.invariant in
    let to = c.args.to in
    let wrote = c.fill_run.ensures in
    record {
      whole = omega (arith, known.whole);
      so_far = rows_more c.loop-k.k c.args.rows c.args.run to.first to.stride _ _ _ _ known.so_far c.requires.apart (omega arith) wrote.written wrote.before wrote.after;
    }

pub returns : goal.returns
returns c =
    let end : c.loop-k.k ≡ c.args.rows = omega arith in
    rw end at c.loop-k.invariant.so_far
