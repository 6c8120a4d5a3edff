use Rattle.std.proofs.Common.{◌≡◌, ◌∙◌, ℕ, ◌+◌, ◌*◌, ◌<◌, ◌≤◌, ap, arith, length}
use Rattle.std.proofs.lemmas.Nat.{mul-le}
use Rattle.parts_row_major.specs.Numbering.{count_of}
use Rattle.parts_row_major.specs.Pieces.{piece}
use Rattle.parts_subsets.proofs.RowSetLaws.{SetWithin, set_within, end_to_end}
use Rattle.parts_strided_copy.proofs.RowParts.{OneSet, one_set, moved_row_ends, row_ends}
use Rattle.parts_strided_copy.proofs.strided.StridedSubset.gather.Goals as goal
use Rattle.parts_strided_copy.proofs.strided.StridedSubset.gather.Goals.{Else-set-ne1}

-- what is known of the one set of the subset's rows
within : (c : Else-set-ne1) → c.self.inside.rows.sets ≡ 1 → SetWithin c.self.inside.subset.now c.self.inside.shape.now c.self.inside.rows.run c.self.inside.rows.rows c.self.inside.rows.stride 0
within c one =
    let s = c.self.inside in
    let known = c.self.invariant in
    set_within s.subset.now s.shape.now s.rows.run s.rows.rows s.rows.stride s.rows.sets 0 known.1 known.0.0 known.2 (omega (arith, one))

-- where its elements lie
at_set : (c : Else-set-ne1) → c.self.inside.rows.sets ≡ 1 → OneSet c.self.inside.subset.now c.self.inside.shape.now c.self.inside.rows.run c.self.inside.rows.rows c.self.inside.rows.stride c.self.inside.first c.args.moved
at_set c one =
    let s = c.self.inside in
    let known = c.self.invariant in
    one_set s.subset.now s.shape.now s.rows.run s.rows.rows s.rows.stride s.rows.sets s.first c.args.moved known.2 one known.3

-- where a row ends
row_end : (c : Else-set-ne1) (k : ℕ) → c.self.inside.rows.sets ≡ 1 → k < c.self.inside.rows.rows
    → (c.args.moved + c.self.inside.first + k * c.self.inside.rows.stride + c.self.inside.rows.run) * c.args.size ≤ length c.args.bytes.now
row_end c k one small =
    let s = c.self.inside in
    rw (at_set c one).start (moved_row_ends s.subset.now s.shape.now s.rows.run s.rows.rows s.rows.stride s.rows.sets 0 k c.args.moved c.args.size c.self.invariant.2 (omega (arith, one)) small (rw (← c.self.view_is) at c.requires.inside))

pub overflow_add-from : goal.overflow_add-from
overflow_add-from c =
    let s = c.self.inside in
    omega (arith, row_ends (c.args.moved + s.first) s.rows.stride s.rows.run c.args.size 0 c.requires.some (row_end (goal.at.overflow_add-from c).Else-set-ne1 0 (omega arith) c.self.invariant.2.some_rows))

pub copy_rows-requires-clause-inside : goal.copy_rows-requires-clause-inside
copy_rows-requires-clause-inside c = λ k lt.
    let w = within (goal.at.copy_rows-requires-clause-inside c).Else-set-ne1 (omega arith) in
    let s = c.self.inside in
    let whole = rw (← c.self.view_is) at c.requires.whole in
    omega (arith, mul-le (k * s.rows.run + s.rows.run) c.args.size (count_of s.subset.now.shape) c.args.size (omega (arith, w.part k lt)) (omega arith), whole)

pub copy_rows-requires-clause-inside_update : goal.copy_rows-requires-clause-inside_update
copy_rows-requires-clause-inside_update c = λ k lt. row_end (goal.at.copy_rows-requires-clause-inside_update c).Else-set-ne1 k (omega arith) lt

pub copy_rows-requires-clause-apart : goal.copy_rows-requires-clause-apart
copy_rows-requires-clause-apart c = λ i j li lj e.
    let run = c.self.inside.rows.run in
    omega (arith, end_to_end 0 run i, end_to_end 0 run j, e)

pub returns : goal.returns
returns c =
    let known = at_set (goal.at.returns c).Else-set-ne1 (omega arith) in
    let set = c.self.inside.rows in
    let wrote = c.copy_rows.ensures in
    let newer : ℕ → _ = piece c.args.size c.copy_rows.new.output in
    let taken : ℕ → _ = piece c.args.size c.args.bytes.now in
    rw (← c.self.view_is) (λ k lt.
    let small : k < set.rows * set.run = omega (arith, lt, known.count_is) in
    let to = end_to_end 0 set.run k in
    ap newer (omega (arith, to)) ∙ (wrote.inside k small ∙ ap taken (known.at k small)))
