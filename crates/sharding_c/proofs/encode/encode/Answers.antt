use Rattle.std.proofs.Common.{◌≡◌, ◌∙◌, length, refl, ap, arith}
use Rattle.sharding_c.specs.Layouts.{index_bytes, subchunks_of}
use Rattle.sharding_c.proofs.ObjectLemmas.{index_long, after_lay_out, after_fit}
use Rattle.sharding_c.proofs.encode.encode.Goals as goal

pub returns-then-packed-room-clause-refused : goal.returns-then-packed-room-clause-refused
returns-then-packed-room-clause-refused c =
    let s = c.in_ok-shard.ensures in
    let a = c.args in
    let packed = rw (s.shape, s.subchunk_shape, c.place_of-place.ensures) at c.in_ok-packed.ensures.laid in
    let counted = rw (s.shape, s.subchunk_shape) at c.in_ok-packed.ensures.passed in
    after_lay_out a.layout.now a.sizes.now c.in_ok-packed.packed (length a.encodings.now) (length a.room.now) s.flags s.laid packed counted c.if-packed-room.true

pub returns-then-encodings-packed-clause-refused : goal.returns-then-encodings-packed-clause-refused
returns-then-encodings-packed-clause-refused c =
    let s = c.in_ok-shard.ensures in
    let a = c.args in
    let packed = rw (s.shape, s.subchunk_shape, c.place_of-place.ensures) at c.in_ok-packed.ensures.laid in
    let counted = rw (s.shape, s.subchunk_shape) at c.in_ok-packed.ensures.passed in
    let size = ap (λ place. place.size) c.place_of-place.ensures in
    after_fit a.layout.now a.sizes.now c.in_ok-packed.packed (length a.encodings.now) (length a.room.now) s.flags s.laid packed counted
    (omega (arith, c.if-packed-room.false)) (λ same. c.if-encodings-packed.true (omega (arith, same, packed.long, size)))

pub write_shard-requires : goal.write_shard-requires
write_shard-requires c =
    let s = c.in_ok-shard.ensures in
    let packed = rw (s.shape, s.subchunk_shape, c.place_of-place.ensures) at c.in_ok-packed.ensures.laid in
    let size = ap (λ place. place.size) c.place_of-place.ensures in
    let flags = c.args.layout.now.index in
    let numbers = c.in_ok-packed.packed.numbers.items in
    let bytes : c.deref-2.result.now ≡ index_bytes flags numbers = c.deref-2.ensures.value ∙ (c.in_ok-index.ensures.bytes ∙ ap (index_bytes flags) c.deref.ensures.value) in
    let long = ap length bytes ∙ index_long flags (subchunks_of c.args.layout.now) numbers packed.counted in
    omega (arith, long, packed.long, size, c.if-encodings-packed.false, c.if-packed-room.false)

pub returns-clause-encoded : goal.returns-clause-encoded
returns-clause-encoded c =
    let s = c.in_ok-shard.ensures in
    let flags = c.args.layout.now.index in
    let numbers = c.in_ok-packed.packed.numbers.items in
    let bytes : c.deref-2.result.now ≡ index_bytes flags numbers = c.deref-2.ensures.value ∙ (c.in_ok-index.ensures.bytes ∙ ap (index_bytes flags) c.deref.ensures.value) in
    record {
      shard = c.in_ok-packed.packed;
      packed = rw (s.shape, s.subchunk_shape, c.place_of-place.ensures) at c.in_ok-packed.ensures.laid;
      written = rw (bytes, c.place_of-place.ensures) at c.write_shard.ensures;
      long = refl;
    }

pub returns-clause-passed : goal.returns-clause-passed
returns-clause-passed c =
    let s = c.in_ok-shard.ensures in
    let packed = rw (s.shape, s.subchunk_shape, c.place_of-place.ensures) at c.in_ok-packed.ensures.laid in
    let counted = rw (s.shape, s.subchunk_shape) at c.in_ok-packed.ensures.passed in
    let size = ap (λ place. place.size) c.place_of-place.ensures in
    record {
      flags = s.flags;
      laid = s.laid;
      sized = (counted, omega (arith, packed.long, packed.small));
      fits = omega (arith, packed.long, c.if-packed-room.false);
      all_given = omega (arith, packed.long, size, c.if-encodings-packed.false);
    }
