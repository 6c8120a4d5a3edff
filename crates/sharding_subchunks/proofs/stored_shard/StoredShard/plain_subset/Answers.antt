use Rattle.std.proofs.Common.{◌≡◌, ◌*◌, IsTrue, length, ap, rules, arith}
use Rattle.parts_errors.proofs.ListLaws.{whole_after}
use Rattle.sharding_subchunks.proofs.stored_shard.StoredShard.plain_subset.Goals as goal

pub returns-clause-counted : goal.returns-clause-counted
returns-clause-counted g c =
    let same : length c.put_all.new.bytes ≡ length c.in_ok-bytes.bytes.items = omega (arith, c.put_all.auto.bytes, ap length c.deref_mut.ensures.value) in
    rw (whole_after c.in_ok-bytes.bytes.len c.put_all.new.bytes c.in_ok-bytes.bytes.items same (omega (arith, c.in_ok-bytes.bytes.ok.0)))
    (omega (arith, same, c.in_ok-bytes.bytes.ok.0, c.in_ok-bytes.ensures.len, ap (λ bytes. c.args.count * length bytes) c.as_ne_bytes-element.ensures))

pub returns-clause-cells : goal.returns-clause-cells
returns-clause-cells g c = λ t.
    let same : length c.put_all.new.bytes ≡ length c.in_ok-bytes.bytes.items = omega (arith, c.put_all.auto.bytes, ap length c.deref_mut.ensures.value) in
    let put : IsTrue c.in_ok-put_all.field-0 = search rules in
    rw (whole_after c.in_ok-bytes.bytes.len c.put_all.new.bytes c.in_ok-bytes.bytes.items same (omega (arith, c.in_ok-bytes.bytes.ok.0)), c.requires.count) (c.in_ok-put_all.ensures.cells put t)
