use Rattle.std.proofs.Common.{refl, ◌∙◌}
use Rattle.sharding_plans.proofs.AxesLemmas.{passed_on}
use Rattle.sharding_plans.proofs.PackLemmas.{laid_of_sizes, lay_out_refused}
use Rattle.sharding_plans.proofs.grid.PlannedShard.lay_out.Goals as goal

pub returns-clause-laid : goal.returns-clause-laid
returns-clause-laid c =
    let index = c.in_ok-index.index in
    let e = c.in_ok-index.ensures in
    laid_of_sizes c.args.place _ index.len c.args.sizes.now index.numbers.items e.counted (c.if-sizes-subchunks.false ∙ c.subchunks.ensures.value) e.slots _
    c.in_ok-shard.ensures.packed

pub returns-in_err-shard-clause-refused : goal.returns-in_err-shard-clause-refused
returns-in_err-shard-clause-refused c =
    let s = c.args.self.now in
    let index = c.in_ok-index.index in
    let e = c.in_ok-index.ensures in
    passed_on _ c.in_err-shard.field-0.0 _ c.from_residual-in_err-shard.ensures.1
    (lay_out_refused c.args.place _ index.len c.args.sizes.now index.numbers.items e.counted (c.if-sizes-subchunks.false ∙ c.subchunks.ensures.value) e.slots
    s.shape s.subchunk_shape c.in_err-shard.field-0.0 refl c.in_err-shard.ensures.refused)
