use Rattle.std.proofs.Common.{[], length, ap, ◌∙◌, arith}
use Rattle.std.proofs.lemmas.List.{get_or-map, length-map}
use Rattle.parts_row_major.specs.Numbering.{point_of}
use Rattle.parts_row_major.proofs.NumberingLaws.{length-point_of}
use Rattle.sharding_gather.proofs.grouping.PositionsIndexer.dimensionality.Goals as goal

pub returns-clause-each : goal.returns-clause-each
returns-clause-each c =
    let sub = c.self.inside.sub.now in
    let numbers = c.self.inside.numbers.now in
    rw (← c.self.view_is)
    (λ i lt.
    ap length (get_or-map (λ position. point_of position sub) numbers i 0 [] (omega (arith, length-map numbers (λ position. point_of position sub))))
    ∙ length-point_of _ sub)
