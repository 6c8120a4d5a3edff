use Rattle.std.proofs.Common.{◌+◌, ◌*◌, arith}
use Rattle.parts_row_major.proofs.PieceLaws.{number_in_below}
use Rattle.parts_subsets.proofs.SetLaws.{next_set, next_group, set_below}
use Rattle.parts_subsets.proofs.sets.SetStarts.next_start.Goals as goal

pub overflow_add-self-then-self : goal.overflow_add-self-then-self
overflow_add-self-then-self c =
    let s = c.self.inside in
    let known = c.self.invariant in
    let next = next_set _ s.group s.stride s.passed s.turn s.sets s.start known.1 (rw (← c.self.view_is) at c.requires) (omega arith) in
    let below = number_in_below s.subset.now s.shape.now ((s.passed + 1) * s.each) known.0.served.0 (set_below s.subset.now s.shape.now s.each s.sets (s.passed + 1) known.0 next.further) in
    omega (arith, next.there, below, known.0.served.1)

pub invariant_of-self : goal.invariant_of-self
invariant_of-self c =
    let s = c.self.inside in
    let known = c.self.invariant in
    (known.0, (next_set _ s.group s.stride s.passed s.turn s.sets s.start known.1 (rw (← c.self.view_is) at c.requires) (omega arith)).known)

pub overflow_add-self-then-self-2 : goal.overflow_add-self-then-self-2
overflow_add-self-then-self-2 c =
    let s = c.self.inside in
    let known = c.self.invariant in
    let next = next_group _ s.group s.stride s.passed s.turn s.sets s.start _ known.1 (omega arith) (omega arith) c.number_at-self-inside.ensures.value in
    omega (arith, next.fits)

pub invariant_of-self-then-self-2 : goal.invariant_of-self-then-self-2
invariant_of-self-then-self-2 c =
    let s = c.self.inside in
    let known = c.self.invariant in
    (known.0, (next_group _ s.group s.stride s.passed s.turn s.sets s.start _ known.1 (omega arith) (omega arith) c.number_at-self-inside.ensures.value).known)
