use Rattle.std.proofs.Common.{◌≡◌, ◌∙◌, sym, ap}
use Rattle.sharding_c.proofs.exports.zs_compact_plan.Goals as goal

pub returns-in-Ok-clause-planned : goal.returns-in-Ok-clause-planned
returns-in-Ok-clause-planned c = λ ok is.
    let told = c.tell.ensures in
    let kind : c.in-Ok.planned.kind ≡ 2 = sym (ap (λ change. change.kind) told) ∙ is in
    rw told (c.in-Ok.ensures.planned kind)
