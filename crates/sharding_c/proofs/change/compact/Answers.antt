use Rattle.std.proofs.Common.{arith, refl}
use Rattle.sharding_c.proofs.RowLemmas.{passed_to}
use Rattle.sharding_c.proofs.ChangeLemmas.{after_room}
use Rattle.sharding_c.proofs.change.compact.Goals as goal

pub returns-in_err-packed-clause-refused : goal.returns-in_err-packed-clause-refused
returns-in_err-packed-clause-refused c =
    let s = c.in_ok-shard.ensures in
    let e = c.in_err-packed.field-0.0 in
    passed_to _ e _ c.from_residual-in_err-packed.ensures.1
    (after_room c.args.layout.now _ _ e s.flags s.laid (omega (arith, c.if-many-room.false, s.subchunks))
    (rw (s.shape, s.subchunk_shape, c.place_of-place.ensures) at c.in_err-packed.ensures.refused))

pub returns-clause-planned : goal.returns-clause-planned
returns-clause-planned c = λ is.
    let s = c.in_ok-shard.ensures in
    let known = rw c.in-Some.is at c.in_ok-packed.ensures.planned in (
      record {
        shard = c.in-Some.packed;
        packed = rw (s.shape, s.subchunk_shape, c.place_of-place.ensures) at known.0;
        written = rw c.deref.ensures.value at c.write_front.ensures;
        long = refl;
      },
      known.1,
    )
