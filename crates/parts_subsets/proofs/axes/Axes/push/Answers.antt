use Rattle.std.proofs.Common.{◌≡◌, length, ◌+◌, ◌<◌, arith, slice_set}
use Rattle.std.proofs.lemmas.Bool.Decides.{nat_tests}
use Rattle.std.proofs.lemmas.List.{take_more_set}
use Rattle.parts_subsets.proofs.axes.Axes.push.Goals as goal
use Rattle.parts_subsets.proofs.AxesLemmas.{held_apart, held_within, moved_apart}

pub returns-then-not-is_empty : goal.returns-then-not-is_empty
returns-then-not-is_empty c = record {
  ok =
      let few = c.self.inside.few in
      let len = c.self.inside.len in
      let some : 0 < length c.self.inside.many.items = grind (arith, nat_tests) in
      rw (held_apart few len c.push.new.self.items (omega (arith, c.in_ok-push.ensures.len)), ← c.self.view_is, held_apart few len c.self.inside.many.items some) c.in_ok-push.ensures.items;
}

pub returns-then-self-lt4 : goal.returns-then-self-lt4
returns-then-self-lt4 c = record {
  ok =
      let few = c.self.inside.few in
      let len = c.self.inside.len in
      let many = c.self.inside.many.items in
      let none : length many ≡ 0 = grind (arith, nat_tests) in
      rw (held_within (slice_set few len c.args.number) (len + 1) many none, ← c.self.view_is, held_within few len many none)
      (take_more_set few len c.args.number (grind arith));
}

pub returns : goal.returns
returns c = record {
  ok =
      let few = c.self.inside.few in
      let len = c.self.inside.len in
      let many = c.self.inside.many.items in
      let none : length many ≡ 0 = grind (arith, nat_tests) in
      rw (held_apart few len c.push-2.new.self.items (omega (arith, c.in_ok-push-2.ensures.len)), ← c.self.view_is, held_within few len many none)
      (rw (moved_apart few many c.extend_from_slice.new.self.items len none (grind arith) c.in_ok-extend_from_slice.ensures.items) c.in_ok-push-2.ensures.items);
}
