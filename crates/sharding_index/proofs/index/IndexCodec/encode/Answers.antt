use Rattle.std.proofs.Common.{◌∙◌, ◌*◌, ℕ, ap}
use Rattle.sharding_index.proofs.index.IndexCodec.encode.Goals as goal

pub encode_numbers-requires-clause-counted : goal.encode_numbers-requires-clause-counted
encode_numbers-requires-clause-counted g c =
    rw c.deref.ensures.value (c.in_ok-numbers.ensures.numbers.counted ∙ ap (λ (n : ℕ). 2 * n) c.requires.counted)

pub returns-clause-index : goal.returns-clause-index
returns-clause-index g c =
    record {
      numbers = c.in_ok-numbers.numbers.items;
      are = rw c.start_of_data-start.ensures at c.in_ok-numbers.ensures.numbers;
      below = c.in_ok-numbers.ensures.below;
      written = rw c.deref.ensures.value at c.in_ok-index.ensures.written;
    }
