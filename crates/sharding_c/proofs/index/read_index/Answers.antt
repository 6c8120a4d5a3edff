use Rattle.std.proofs.Common.{◌≡◌, ◌≤◌, ◌<◌, ◌*◌, ◌++◌, ℕ, length, drop, slice_index, ap, subst, rules, arith}
use Rattle.std.proofs.lemmas.List.{length-take-le}
use Rattle.sharding_c.specs.Layouts.{number_at, subchunks_of, AreIndexNumbers}
use Rattle.sharding_c.proofs.FrontLemmas.{are_numbers}
use Rattle.sharding_c.proofs.index.read_index.Goals as goal

pub returns-clause-numbers : goal.returns-clause-numbers
returns-clause-numbers c =
    let many = 2 * c.in_ok-shard.shard.subchunks in
    let room = c.args.room.now in
    let fits : many ≤ length room = search rules in
    let counted : length c.read_numbers.new.numbers ≡ many = omega (arith, c.read_numbers.ensures.length, length-take-le many room fits) in
    let read : (i : ℕ) → i < many → slice_index c.read_numbers.new.numbers i ≡ number_at c.args.layout.now.index c.args.bytes.now i =
    λ i lt. c.read_numbers.ensures.read i (omega (arith, lt, length-take-le many room fits)) in
    let same : many ≡ 2 * subchunks_of c.args.layout.now = ap (λ n. 2 * n) c.in_ok-shard.ensures.subchunks in
    subst (λ m. AreIndexNumbers c.args.layout.now.index m c.args.bytes.now room (c.read_numbers.new.numbers ++ drop many room)) same
    (are_numbers many c.read_numbers.new.numbers room counted fits c.args.layout.now.index c.args.bytes.now read)
