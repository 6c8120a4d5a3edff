use Rattle.sharding_gather.proofs.GroupingLemmas.{not_missed}
use Rattle.sharding_gather.proofs.grouping.group_of.Goals as goal

pub unreachable-requires : goal.unreachable-requires
unreachable-requires c =
    not_missed c.args.used.now c.args.subchunk c.in-Err.field-0 c.requires.rising c.in-Err.ensures.position c.requires.member
