use Rattle.std.proofs.Common.{[], length, refl}
use Rattle.std.proofs.lemmas.List.{take_at}
use Rattle.parts_subsets.proofs.axes.Axes.from_slice.Goals as goal
use Rattle.parts_subsets.proofs.AxesLemmas.{held_within}

pub returns : goal.returns
returns c = rw (c.new-many.ensures.items, c.copy_from_slice.ensures.after, held_within _ (length c.args.numbers.now) [] refl) (take_at c.args.numbers.now _ (length c.args.numbers.now) refl)
