use Rattle.std.proofs.lemmas.List.{take_rest}
use Rattle.sharding_layout.proofs.RunLemmas.{runs_past}
use Rattle.sharding_layout.proofs.runs.are_runs.Goals as goal

pub returns : goal.returns
returns c = λ holds.
    let shape = c.args.shape.now in
    let sub = c.args.sub.now in
    let ones = c.leading_ones-ones.result in
    let told = rw (take_rest shape ones, take_rest sub ones) at (c.subchunks_follow.ensures holds) in
    runs_past ones shape sub c.leading_ones-ones.ensures.ones c.requires.divides c.requires.some told.1 told.0
