use Rattle.std.proofs.Common.{◌≡◌, ◌≤◌, ◌^◌, [], ◌∷◌, get_or, subst, arith}
use Rattle.parts_row_major.proofs.NumberingLaws.{count_positive}
use Rattle.sharding_layout.proofs.ReachLemmas.{first_reached, all_reached}
use Rattle.sharding_layout.proofs.morton.morton_numbers.Goals as goal

pub loop-bit-init : goal.loop-bit-init
loop-bit-init c =
    let is : c.push.new.self.items ≡ 0 ∷ [] = rw c.in_ok-numbers.ensures.items at c.in_ok-push.ensures.items in
    rw is (first_reached c.args.grid.now (count_positive c.args.grid.now (λ i below. c.requires.positive i 0 below)))

pub returns : goal.returns
returns c =
    let last : c.bits_of-bit-end.result ≡ c.loop-bit.bit = omega (arith, c.loop-bit-test.false, c.loop-bit.auto.bit-end) in
    all_reached c.args.grid.now c.loop-bit.bit c.loop-bit.numbers.items
    (λ y below. subst (λ m. get_or c.args.grid.now y 0 ≤ 2 ^ m) last (c.bits_of-bit-end.ensures.enough y below)) c.loop-bit.invariant
