use Rattle.sharding_c.proofs.fetch.fetch_slices.Goals as goal

pub number_slots-requires-clause-fetched : goal.number_slots-requires-clause-fetched
number_slots-requires-clause-fetched c =
    rw (c.deref-2.ensures.value, c.deref-3.ensures.value) (rw c.deref.ensures.value at c.in_ok-fetches.ensures.fetches.held)
