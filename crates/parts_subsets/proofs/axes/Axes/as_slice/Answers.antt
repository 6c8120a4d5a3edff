use Rattle.std.proofs.Common.{◌≡◌, length, ◌<◌, refl, arith}
use Rattle.std.proofs.lemmas.Bool.Decides.{nat_tests}
use Rattle.parts_subsets.proofs.axes.Axes.as_slice.Goals as goal
use Rattle.parts_subsets.proofs.AxesLemmas.{held_apart, held_within}

pub returns-then-is_empty : goal.returns-then-is_empty
returns-then-is_empty c =
    let none : length c.self.inside.many.items ≡ 0 = grind (arith, nat_tests) in
    rw (← c.self.view_is, held_within c.self.inside.few c.self.inside.len c.self.inside.many.items none) refl

pub returns-else-is_empty : goal.returns-else-is_empty
returns-else-is_empty c =
    let some : 0 < length c.self.inside.many.items = grind (arith, nat_tests) in
    rw (c.deref.ensures.value, ← c.self.view_is, held_apart c.self.inside.few c.self.inside.len c.self.inside.many.items some) refl
