use Rattle.std.proofs.Common.{◌≡◌, ◌∙◌, ℕ, ◌+◌, ◌*◌, ap, sym, arith}
use Rattle.parts_row_major.specs.Pieces.{piece}
use Rattle.parts_subsets.proofs.GridLaws.{at_least}
use Rattle.parts_subsets.proofs.RowSetLaws.{row_at, rows_more}
use Rattle.parts_strided_copy.proofs.RowParts.{row_ends}
use Rattle.parts_strided_copy.proofs.rows.copy_rows_of.Goals as goal

pub overflow_mul-into : goal.overflow_mul-into
overflow_mul-into g c =
    let to = c.args.to in
    omega (arith, row_ends to.first to.stride c.args.run c.args.size c.loop-k.k c.requires.some (c.requires.inside c.loop-k.k (omega arith)))

pub overflow_add-into : goal.overflow_add-into
overflow_add-into g c =
    let to = c.args.to in
    omega (arith, row_ends to.first to.stride c.args.run c.args.size c.loop-k.k c.requires.some (c.requires.inside c.loop-k.k (omega arith)))

pub overflow_mul-taken : goal.overflow_mul-taken
overflow_mul-taken g c =
    let from = c.args.from in
    omega (arith, row_ends from.first from.stride c.args.run c.args.size c.loop-k.k c.requires.some (c.requires.inside_update c.loop-k.k (omega arith)))

pub copy_run-requires-clause-inside : goal.copy_run-requires-clause-inside
copy_run-requires-clause-inside g c = omega (arith, c.requires.inside c.loop-k.k (omega arith), c.loop-k.invariant.whole)

pub copy_run-requires-clause-inside_update : goal.copy_run-requires-clause-inside_update
copy_run-requires-clause-inside_update g c = c.requires.inside_update c.loop-k.k (omega arith)

pub copy_run-requires-clause-known : goal.copy_run-requires-clause-known
copy_run-requires-clause-known g c = c.requires.known

pub copy_run-requires-clause-least : goal.copy_run-requires-clause-least
copy_run-requires-clause-least g c = c.requires.least

pub copy_run-requires-clause-most : goal.copy_run-requires-clause-most
copy_run-requires-clause-most g c = c.requires.most

pub overflow_add-taken : goal.overflow_add-taken
overflow_add-taken g c =
    let from = c.args.from in
    let all = c.requires.inside_update c.loop-k.k (omega arith) in
    let some = at_least (from.first + c.loop-k.k * from.stride + c.args.run) c.args.size c.requires.some in
    omega (arith, all, some)

pub loop-k-preserved : goal.loop-k-preserved
loop-k-preserved g c =
    let known = c.loop-k.invariant in
    let to = c.args.to in
    let from = c.args.from in
    let run = c.args.run in
    let k = c.loop-k.k in
    let wrote = c.copy_run.ensures in
    let taken : ℕ → _ = piece c.args.size c.args.update.now in
    record {
      whole = omega (arith, known.whole);
      so_far = rows_more k c.args.rows run to.first to.stride _ _ _ _ known.so_far c.requires.apart (omega arith)
          (λ r lt. wrote.written r lt ∙ ap taken (sym (row_at from.first from.stride run k r lt)))
          wrote.before wrote.after;
    }

pub returns : goal.returns
returns g c =
    let end : c.loop-k.k ≡ c.args.rows = omega arith in
    rw end at c.loop-k.invariant.so_far
