use Rattle.parts_subsets.proofs.GridLaws.{count-positive}
use Rattle.codec_traits.specs.RefusalLaws.{passed_on}
use Rattle.sharding_gather.proofs.LayingLaws.{grid_refused}
use Rattle.sharding_gather.proofs.laying.filled_bytes.Goals as goal

pub appended-requires-clause-some : goal.appended-requires-clause-some
appended-requires-clause-some c = count-positive c.args.shard.now.shape.now c.as_slice.ensures.positive

pub returns-in_err-grid-clause-refused : goal.returns-in_err-grid-clause-refused
returns-in_err-grid-clause-refused c =
    let e = c.in_err-grid.field-0.0 in
    passed_on _ e _ c.from_residual-in_err-grid.ensures.1 (grid_refused c.args.shard.now.shape.now c.args.shard.now.sub.now e c.requires.shard.divides c.in_err-grid.ensures.refused)
