use Rattle.std.proofs.Common.{refl}
use Rattle.sharding_configuration.proofs.ValueLists.{items_view-clones}
use Rattle.sharding_configuration.proofs.configuration_fields.list_under.Goals as goal

pub returns-in_ok-clone-in-Some-clause-read : goal.returns-in_ok-clone-in-Some-clause-read
returns-in_ok-clone-in-Some-clause-read c =
    let same = items_view-clones _ _ (c.in_ok-clone-in-Some.ensures.cases).0 in
    rw (c.in_ok-value.ensures.found, ← c.in-Some.ensures, same) refl
