use Rattle.std.proofs.Common.{◌≡◌, ◌<◌, ◌≤◌, ◌+◌, ◌-◌, ◌^◌, ℕ, inl, inr, List, get_or, arith}
use Rattle.std.proofs.Math.Nat.{pow-le-pow_right}
use Rattle.std.proofs.lemmas.Nat.{leading_length}
use Rattle.std.proofs.lemmas.Bool.{cases_lt}
use Rattle.sharding_layout.proofs.morton.bits_of.Goals as goal
use Rattle.sharding_layout.proofs.morton.bits_of.Goals.{then-needed-bits, else-needed-bits}

-- as many bits, or more, are enough for one axis more
covered : (grid : List ℕ) (index needed old new : ℕ) → ((axis : ℕ) → axis < index → get_or grid axis 0 ≤ 2 ^ old) → get_or grid index 0 ≤ 2 ^ needed
    → old ≤ new → needed ≤ new → (axis : ℕ) → axis < index + 1 → get_or grid axis 0 ≤ 2 ^ new
covered grid index needed old new enough here old_upto needed_upto axis below =
    elim (cases_lt axis index) [
      | inl before ↦ let wide : 2 ^ old ≤ 2 ^ new = pow-le-pow_right (omega arith) old_upto in omega (arith, wide, enough axis before)
      | inr last ↦
          let same : axis ≡ index = omega arith in
          let wide : 2 ^ needed ≤ 2 ^ new = pow-le-pow_right (omega arith) needed_upto in
          rw same (omega (arith, wide, here))
    ]

pub loop-length-preserved : goal.loop-length-preserved
loop-length-preserved c =
    let l = c.loop-length in
    let grid = c.args.grid.now in
    let room = leading_length 64 (get_or grid l.length-index 0 - 1) (omega (arith, c.type_inv.grid l.length-index)) in
    let here : get_or grid l.length-index 0 ≤ 2 ^ room.0 = omega (arith, room.2) in
    elim c.if-needed-bits.branch [
      | then-needed-bits w ↦ rw w.bits-is (record {
        few = omega arith;
        enough = covered grid l.length-index room.0 l.bits _ l.invariant.enough here (omega (arith, w.if-needed-bits.true)) (omega (arith, room.1));
      })
      | else-needed-bits w ↦ rw w.bits-is (record {
        few = l.invariant.few;
        enough = covered grid l.length-index room.0 l.bits l.bits l.invariant.enough here (omega arith) (omega (arith, w.if-needed-bits.false, room.1));
      })
    ]
