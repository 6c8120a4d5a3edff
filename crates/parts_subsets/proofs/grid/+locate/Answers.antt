use Rattle.std.proofs.Common.{ℕ, get_or, arith}
use Rattle.parts_subsets.proofs.LocateLaws.{front, LocatedMore, located_more, empty_subchunk, empty_position}
use Rattle.parts_subsets.proofs.grid.+locate.Goals as goal
use Rattle.parts_subsets.proofs.grid.+locate.Goals.{After-locate-rest}

pub locate-rest-requires : goal.locate-rest-requires
locate-rest-requires t c =
    let q = c.requires in
    let f = front c.args.number c.args.shape.now c.args.sub.now c.in-len1-up.len_at_least c.in-len1-up-sub.len_at_least q.shape q.sub q.divides q.inside in
    (omega (arith, c.decreases, c.in-len1-up.len_at_least), (rw (q.cells, f.cells) f.below, (f.shape_rest, (f.sub_rest, (f.divides, (rw q.cells f.cells, (rw q.subchunks f.subchunks, rw q.positions f.positions)))))))

-- what the first axis adds to the numbers of the axes after it
turn : (t : ℕ) (c : After-locate-rest t) → LocatedMore c.args.number (get_or c.args.shape.now 0 0) (get_or c.args.sub.now 0 0) c.args.cells c.args.subchunks c.args.positions
    c.locate-rest.result.subchunk c.locate-rest.result.position c.args.shape.now c.args.sub.now
turn t c =
    let q = c.requires in
    let f = front c.args.number c.args.shape.now c.args.sub.now c.in-len1-up.len_at_least c.in-len1-up-sub.len_at_least q.shape q.sub q.divides q.inside in
    located_more c.args.number c.args.cells c.args.subchunks c.args.positions _ _ _ _ c.args.shape.now c.args.sub.now _ _ f q.cells q.subchunks q.positions c.locate-rest.ensures.subchunk c.locate-rest.ensures.position

pub overflow_mul-subchunk : goal.overflow_mul-subchunk
overflow_mul-subchunk t c =
    let n = turn t (goal.at.overflow_mul-subchunk t c).After-locate-rest in
    omega (arith, n.subchunk, n.subchunk_below, c.ranges.subchunks)

pub overflow_add-subchunk : goal.overflow_add-subchunk
overflow_add-subchunk t c =
    let n = turn t (goal.at.overflow_add-subchunk t c).After-locate-rest in
    omega (arith, n.subchunk, n.subchunk_below, c.ranges.subchunks)

pub overflow_add-position : goal.overflow_add-position
overflow_add-position t c =
    let n = turn t (goal.at.overflow_add-position t c).After-locate-rest in
    omega (arith, n.position, n.position_below, c.ranges.positions)

pub returns-in-empty-clause-subchunk : goal.returns-in-empty-clause-subchunk
returns-in-empty-clause-subchunk t c = empty_subchunk c.args.number c.args.shape.now c.args.sub.now (omega arith)

pub returns-in-empty-clause-position : goal.returns-in-empty-clause-position
returns-in-empty-clause-position t c = empty_position c.args.number c.args.shape.now c.args.sub.now (omega arith)

pub returns-in-len1-up-sub-clause-subchunk : goal.returns-in-len1-up-sub-clause-subchunk
returns-in-len1-up-sub-clause-subchunk t c = (turn t (goal.at.returns-in-len1-up-sub-clause-subchunk t c).After-locate-rest).subchunk

pub returns-in-len1-up-sub-clause-position : goal.returns-in-len1-up-sub-clause-position
returns-in-len1-up-sub-clause-position t c = (turn t (goal.at.returns-in-len1-up-sub-clause-position t c).After-locate-rest).position

pub returns-in-len1-up-sub-clause-subchunk_below : goal.returns-in-len1-up-sub-clause-subchunk_below
returns-in-len1-up-sub-clause-subchunk_below t c =
    let n = turn t (goal.at.returns-in-len1-up-sub-clause-subchunk_below t c).After-locate-rest in
    omega (arith, n.subchunk, n.subchunk_below, c.requires.subchunks)

pub returns-in-len1-up-sub-clause-position_below : goal.returns-in-len1-up-sub-clause-position_below
returns-in-len1-up-sub-clause-position_below t c =
    let n = turn t (goal.at.returns-in-len1-up-sub-clause-position_below t c).After-locate-rest in
    omega (arith, n.position, n.position_below, c.requires.positions)
