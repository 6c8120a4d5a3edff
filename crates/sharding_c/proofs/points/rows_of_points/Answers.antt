use Rattle.std.proofs.Common.{get_or, ap, sym, ◌++◌, ◌∙◌}
use Rattle.sharding_format.specs.declared.slot.Slot.TheVariants.{Absent}
use Rattle.sharding_c.specs.Points.{point_row}
use Rattle.sharding_c.proofs.PointLemmas.{pieces_more}
use Rattle.sharding_c.proofs.points.rows_of_points.Goals as goal

pub loop-j-preserved : goal.loop-j-preserved
loop-j-preserved c =
    let a = c.args in
    let j = c.loop-j.j in
    let more = pieces_more (λ i. point_row (get_or a.subchunks.now i 0) (get_or a.slots.now i Absent)) j in
    c.in_ok-push_point_row.ensures ∙ (ap (λ rows. rows ++ point_row (get_or a.subchunks.now j 0) (get_or a.slots.now j Absent)) c.loop-j.invariant ∙ sym more)
