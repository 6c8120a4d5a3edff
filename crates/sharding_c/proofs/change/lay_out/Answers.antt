use Rattle.std.proofs.Common.{refl}
use Rattle.sharding_c.proofs.change.lay_out.Goals as goal

pub returns-clause-laid : goal.returns-clause-laid
returns-clause-laid c =
    let s = c.in_ok-shard.ensures in
    record {
      shard = c.in_ok-packed.packed;
      packed = rw (s.shape, s.subchunk_shape, c.place_of-place.ensures) at c.in_ok-packed.ensures.laid;
      written = rw c.deref.ensures.value at c.write_front.ensures;
      long = refl;
    }
