use Rattle.parts_subsets.proofs.GridLaws.{positions_of}
use Rattle.sharding_format.proofs.PlanLemmas.{some_subchunks}
use Rattle.sharding_gather.proofs.grouping.located_all.Goals as goal

pub nonzero_div-positions : goal.nonzero_div-positions
nonzero_div-positions c =
    let a = c.args in
    rw c.requires.subchunks (some_subchunks a.shape.now a.sub.now c.requires.shape c.requires.divides)

pub locate-cell-requires-clause-positions : goal.locate-cell-requires-clause-positions
locate-cell-requires-clause-positions c =
    let a = c.args in
    positions_of a.cells a.subchunks a.shape.now a.sub.now c.requires.divides c.requires.cells c.requires.subchunks
    (rw c.requires.subchunks (some_subchunks a.shape.now a.sub.now c.requires.shape c.requires.divides))
