use Rattle.std.proofs.lemmas.List.Elements.{All-contains}
use Rattle.sharding_format.specs.declared.slot.Slot.TheVariants.{Absent}
use Rattle.sharding_plans.specs.Fetches.{IsFetched, stored_slices}
use Rattle.sharding_c.proofs.FetchLemmas.{stored_slot}
use Rattle.sharding_c.proofs.fetch.number_slots.Goals as goal

pub number_of_slot-requires-clause-fetched : goal.number_of_slot-requires-clause-fetched
number_of_slot-requires-clause-fetched c = λ offset size is.
    All-contains (IsFetched c.args.fetches.now) (stored_slices c.args.slots.now) (record { offset = offset; size = size }) c.requires.fetched
    (stored_slot c.args.slots.now c.loop-i.i Absent offset size c.loop-i-test.true is)
