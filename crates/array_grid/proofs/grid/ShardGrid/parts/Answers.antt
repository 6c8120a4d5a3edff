use Rattle.std.proofs.Common.{rules, ◌∙◌, sym}
use Rattle.parts_row_major.specs.Subsets.{LiesIn, numbers_in}
use Rattle.array_grid.proofs.PartLemmas.{met, met_counted}
use Rattle.array_grid.proofs.grid.ShardGrid.parts.Goals as goal

pub returns-clause-counted : goal.returns-clause-counted
returns-clause-counted c =
    let s = c.self.inside in
    let i = c.self.invariant in
    let subset = c.args.subset.now in
    let touched = c.in_ok-touched.touched in
    let lies : LiesIn c.args.subset.now c.args.self.now.shape = search rules in
    let within = rw (← c.self.view_is) at lies in
    let is = rw (← c.self.view_is) at c.in_ok-touched.ensures.touched in
    record {
      shards = numbers_in touched s.grid;
      touched = rw (← c.self.view_is, ← i.rounded) (met s.shape.items s.shard s.whole s.grid s.len i subset touched c.start.ensures.well_formed within is);
      counted = met_counted s.shape.items s.shard s.whole s.grid s.len i subset touched c.start.ensures.well_formed within is ∙ sym c.count_touched-len.ensures;
    }
