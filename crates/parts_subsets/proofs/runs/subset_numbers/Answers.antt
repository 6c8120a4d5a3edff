use Rattle.std.proofs.Common.{◌+◌, ◌≤◌, ◌∙◌, ℕ}
use Rattle.std.proofs.lemmas.List.Elements.{All-rest}
use Rattle.parts_row_major.specs.Numbering.{count_of}
use Rattle.parts_row_major.proofs.RunLaws.{run_numbers_more}
use Rattle.parts_subsets.proofs.runs.subset_numbers.Goals as goal

pub loop-first-preserved : goal.loop-first-preserved
loop-first-preserved c =
    let known = c.loop-first.invariant in
    let took = c.in-Some.ensures.steps in
    let first = c.in-Some.first in
    let len = c.in-Some.len in
    let more = c.in_ok-push_run.ensures in
    record {
      within = All-rest (λ (run : ℕ × ℕ). run.0 + run.1 ≤ count_of c.args.shape.now) (first, len) c.next.new.self c.loop-first.first-iterator took known.within;
      so_far = run_numbers_more c.loop-first.numbers.items c.push_run.new.numbers.items c.loop-first.first-iterator c.next.new.self first len took more ∙ known.so_far;
    }
