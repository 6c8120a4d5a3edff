use Rattle.std.proofs.Common.{◌≡◌, ◌<◌, ◌+◌, ◌^◌, Option, Some, None, Result, Ok, Err, IfOk, IfSome, IfNone, length, refl, arith}
use Rattle.parts_subsets.specs.Grid.{grid_of}
use Rattle.codec_traits.proofs.CodecLaws.{refused_so}
use Rattle.sharding_format.specs.Index.{index_spec}
use Rattle.sharding_format.specs.Serves.{subchunk_spec}
use Rattle.sharding_format.specs.Compacting.{IsCompact}
use Rattle.sharding_format.proofs.RefusalLemmas.{index_short}
use Rattle.sharding_format.proofs.CompactAgain.{again_compact, never_compacted, refused_for_memory}
use Rattle.sharding_codec.specs.Meanings.{layout_in}
use Rattle.sharding_index.specs.steps.Plans.{spec_of}
use Rattle.zarrs_sharding.proofs.laws.compact_again.Goals as goal

-- an answer that can't be bytes is none
nothing : {V E : Type 0} (P : V → Type 0) (r : Result (Option V) E) → IfOk r (λ o. IfSome o P) → ((v : V) → ¬ (P v)) → IfOk r (λ o. o ≡ None)
nothing P (Ok (Some v)) h never = absurd (never v h)
nothing P (Ok None) h never = refl
nothing P (Err e) h never = tt

pub returns-clause-compact : goal.returns-clause-compact
returns-clause-compact g c =
    let s = c.args.codec.now in
    let spec = spec_of c.args.spec.now in
    let index_g = index_spec (grid_of c.args.spec.now.shape.now s.subchunk_shape) in
    let index = g.X.ArrayToBytesCodecTraits.meaning s.index_codec index_g in
    again_compact (g.I.ArrayToBytesCodecTraits.meaning s.inner (subchunk_spec s.subchunk_shape spec)) index s.subchunk_shape s.location s.order spec
    c.args._shard.now c.args.compacted.now
    (λ y z array written. (g.met.X.ArrayToBytesCodecTraits.lawful s.index_codec index_g).written_cells y z c.requires.serves.index_served.served array written)
    c.requires.compacted

pub returns-clause-nothing : goal.returns-clause-nothing
returns-clause-nothing g c =
    let s = c.args.codec.now in
    let spec = spec_of c.args.spec.now in
    let index_g = index_spec (grid_of c.args.spec.now.shape.now s.subchunk_shape) in
    let inner = g.I.ArrayToBytesCodecTraits.meaning s.inner (subchunk_spec s.subchunk_shape spec) in
    let index = g.X.ArrayToBytesCodecTraits.meaning s.index_codec index_g in
    nothing _ c.compact.result c.compact.ensures.compacted
    (λ new again. never_compacted inner index s.subchunk_shape s.location s.order spec c.args.compacted.now
    (again_compact inner index s.subchunk_shape s.location s.order spec c.args._shard.now c.args.compacted.now
    (λ y z array written. (g.met.X.ArrayToBytesCodecTraits.lawful s.index_codec index_g).written_cells y z c.requires.serves.index_served.served array written)
    c.requires.compacted) new.items again)

pub returns-clause-refused : goal.returns-clause-refused
returns-clause-refused g c =
    let s = c.args.codec.now in
    let spec = spec_of c.args.spec.now in
    let index_g = index_spec (grid_of c.args.spec.now.shape.now s.subchunk_shape) in
    let inner = g.I.ArrayToBytesCodecTraits.meaning s.inner (subchunk_spec s.subchunk_shape spec) in
    let index = g.X.ArrayToBytesCodecTraits.meaning s.index_codec index_g in
    let law = g.met.X.ArrayToBytesCodecTraits.lawful s.index_codec index_g in
    let compact = again_compact inner index s.subchunk_shape s.location s.order spec c.args._shard.now c.args.compacted.now
    (λ y z array written. law.written_cells y z c.requires.serves.index_served.served array written) c.requires.compacted in
    let short = index_short index.cells (grid_of spec.shape s.subchunk_shape) (λ y. law.cells_counted y c.requires.serves.index_served.served)
    (λ y i below. law.cells_fitting y i c.requires.serves.index_served.served below) c.requires.serves.index_fits in
    let small : length c.args.compacted.now + 1 < 2 ^ 64 = omega (arith, c.type_inv.compacted) in
    refused_so _ _ c.compact.result c.compact.ensures.refused
    (λ e refusals. refused_for_memory inner index s.subchunk_shape s.location s.order spec c.args.compacted.now compact e c.requires.serves short small refusals)
