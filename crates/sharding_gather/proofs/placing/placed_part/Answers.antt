use Rattle.std.proofs.Common.{◌+◌, ◌<◌, ◌^◌}
use Rattle.std.proofs.lemmas.List.Elements.{length_all_zip}
use Rattle.sharding_gather.proofs.PlacingLemmas.{starts_fit, placed-is_subset}
use Rattle.sharding_gather.proofs.placing.placed_part.Goals as goal

pub moved-requires : goal.moved-requires
moved-requires c =
    let within = c.args.within.now in
    let part = c.args.part.now in
    rw (c.start-2.ensures.value, c.start.ensures.value)
    (starts_fit within.start part.start part.shape within.shape (length_all_zip (λ first len. first + len < 2 ^ 64) part.start part.shape c.start.ensures.well_formed)
    c.requires c.shape-lengths.ensures.well_formed)

pub unreachable-requires : goal.unreachable-requires
unreachable-requires c =
    let within = c.args.within.now in
    let part = c.args.part.now in
    c.in-None.ensures (rw (c.in_ok-start.ensures, c.start-2.ensures.value, c.start.ensures.value, c.in_ok-lengths.ensures, c.shape.ensures.value)
    (placed-is_subset within.start part.start part.shape within.shape (length_all_zip (λ first len. first + len < 2 ^ 64) part.start part.shape c.start.ensures.well_formed)
    c.requires c.shape-lengths.ensures.well_formed))
