use Rattle.std.proofs.Common.{◌≡◌, ℕ, ◌+◌, sym, ap, ◌∙◌, get_or, arith}
use Rattle.std.proofs.lemmas.List.FromFn.{length-range_with_len, get_or-range_with_len}
use Rattle.sharding_layout.proofs.sequence.SubchunkSequence.number_at.Goals as goal

plain : (k : ℕ) → k ≡ 0 + k
plain k = omega arith

pub returns-then-self : goal.returns-then-self
returns-then-self c =
    let s = c.self.inside in
    let is = rw c.if-self.true at c.self.view_is in
    let below = rw (← is, length-range_with_len 0 s.count) at c.requires in
    plain c.args.position ∙ sym (get_or-range_with_len 0 s.count c.args.position 0 below) ∙ ap (λ xs. get_or xs c.args.position 0) is
