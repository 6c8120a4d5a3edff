use Rattle.sharding_gather.specs.steps.Sorting.{requested_cell}
use Rattle.sharding_gather.proofs.SortingLemmas.{values_more, same_cell}
use Rattle.sharding_gather.proofs.sorted.located_cells.Goals as goal

pub loop-rank-preserved : goal.loop-rank-preserved
loop-rank-preserved c =
    let a = c.args in
    let cell = c.located-subchunk in
    values_more (requested_cell a.shape.now a.sub.now a.numbers.now) _ _ _ c.loop-rank.rank c.loop-rank.invariant c.in_ok-push.ensures.items
    (same_cell cell.result.subchunk _ cell.result.position _ c.loop-rank.rank cell.ensures.subchunk cell.ensures.position)
