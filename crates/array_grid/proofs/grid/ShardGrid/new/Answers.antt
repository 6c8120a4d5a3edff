use Rattle.std.proofs.Common.{inl}
use Rattle.codec_traits.specs.RefusalLaws.{passed_on}
use Rattle.sharding_gather.proofs.LayingLaws.{grid_refused}
use Rattle.array_grid.proofs.RoundingLemmas.{made_divided, shards_fit}
use Rattle.array_grid.proofs.grid.ShardGrid.new.Goals as goal

pub returns-in_err-grid-clause-refused : goal.returns-in_err-grid-clause-refused
returns-in_err-grid-clause-refused c =
    let e = c.in_err-grid.field-0.0 in
    let divides = made_divided c.args.shape.now c.args.shard.now _ c.from_positive-whole.result _ c.as_slice.ensures.value c.in_ok-whole_axes.ensures.whole c.from_positive-whole.ensures
    c.in_ok-whole_axes.ensures.served.0 c.as_slice.ensures.positive in
    passed_on _ e _ c.from_residual-in_err-grid.ensures.1 (inl (grid_refused _ _ e divides c.in_err-grid.ensures.refused))

pub unreachable-requires : goal.unreachable-requires
unreachable-requires c =
    c.in_default-num_elements.ensures.value (shards_fit c.from_positive-whole.result c.args.shard.now c.in_ok-grid.grid c.as_slice.ensures.positive
    c.in_ok-grid.ensures.served.1 c.in_ok-grid.ensures.grid c.in-Some.ensures.value.0)
