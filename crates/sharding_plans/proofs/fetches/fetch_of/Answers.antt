use Rattle.sharding_plans.proofs.FetchLemmas.{rising, some, holds}
use Rattle.sharding_plans.proofs.fetches.fetch_of.Goals as goal

pub not_behind-requires : goal.not_behind-requires
not_behind-requires c = rising c.args._gap c.args.fetches.now c.requires.apart

pub overflow_sub-result : goal.overflow_sub-result
overflow_sub-result c =
    let a = c.args in
    let e = c.not_behind.ensures in
    some a._gap a.fetches.now c.requires.apart a.slice c.requires.fetched _ e.before e.behind e.bound

pub returns : goal.returns
returns c =
    let a = c.args in
    let e = c.not_behind.ensures in
    let h = holds a._gap a.fetches.now c.requires.apart a.slice c.requires.fetched _ e.before e.behind e.bound in
    record { below = h.0; held = h.1 }
