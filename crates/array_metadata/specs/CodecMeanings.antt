-- What the codecs mean that the metadata of an array names.
use Rattle.std.specs.Prelude.{ℕ, List}
use Rattle.parts_errors.specs.declared.error.CodecError.{CodecError}
use Rattle.parts_row_major.specs.Numbering.{count_of}
use Rattle.parts_subsets.specs.Grid.{grid_of}
use Rattle.parts_arrays.specs.ArraySpec.{ArraySpec}
use Rattle.codec_traits.specs.Meanings.{Meaning, Concurrency}
use Rattle.codec_traits.specs.Laws.{IsLawful}
use Rattle.codec_traits.specs.Refusals.{IsNoFault}
use Rattle.codec_chains.specs.EitherCodec.{either_meaning, either_concurrency, either_lawful, either_faultless}
use Rattle.sharding_format.specs.Index.{index_spec}
use Rattle.sharding_format.specs.Serves.{subchunk_spec}
use Rattle.sharding_format.specs.Grids.{IsCut, ConcurrencyRefusals}
use Rattle.sharding_format.specs.Faultless.{concurrency_refusals_faultless}
use Rattle.sharding_codec.specs.Meanings.{shard_meaning}
use Rattle.sharding_codec.specs.ShardLaws.{shard_lawful}
use Rattle.sharding_codec.specs.declared.codec.ShardingCodec.{ShardingCodec}
use Rattle.array_codecs.specs.ElementCodec.{element_meaning, element_lawful}
use Rattle.array_codecs.specs.OpaqueCodec.{opaque_meaning}
use Rattle.array_codecs.specs.OpaqueLaws.{opaque_lawful}
use Rattle.array_codecs.specs.TransposeCodec.{transpose_meaning, transposed_spec, one_worker}
use Rattle.array_codecs.specs.TransposeLaws.{transpose_lawful}
use Rattle.array_codecs.specs.declared.element_codec.ElementCodec.{ElementCodec}
use Rattle.array_codecs.specs.declared.transpose_codec.TransposeCodec.{TransposeCodec}
use Rattle.array_codecs.specs.ElementCodecsMetadata.{Arranged}
use Rattle.array_metadata.specs.declared.inner_codec.InnerCodec.{InnerCodec}
use Rattle.array_metadata.specs.declared.inner_codec.InnerCodec.TheVariants.{Elements, Shards, Opaque}
use Rattle.array_metadata.specs.declared.array_codec.ArrayCodec.{ArrayCodec}
use Rattle.array_metadata.specs.declared.array_codec.ArrayCodec.TheVariants.{Sharded, Transposed, Unsharded}

-- a codec with `transpose` before it
abbrev pub transposed_meaning : {C : Type 0} → (C → ArraySpec → Meaning) → TransposeCodec C → ArraySpec → Meaning
transposed_meaning meaning t g = transpose_meaning t.order (meaning t.codec (transposed_spec t.order g)) g

transposed_lawful : {C : Type 0} (meaning : C → ArraySpec → Meaning) → ((x : C) (g : ArraySpec) → IsLawful g (meaning x g))
    → (t : TransposeCodec C) (g : ArraySpec) → IsLawful g (transposed_meaning meaning t g)
transposed_lawful meaning lawful t g =
    transpose_lawful t.order (meaning t.codec (transposed_spec t.order g)) g (lawful t.codec (transposed_spec t.order g))

-- shards, by what the codecs of their subchunks and of their index mean
abbrev pub sharded_meaning : {I : Type 0} → (I → ArraySpec → Meaning) → ShardingCodec I ElementCodec → ArraySpec → Meaning
sharded_meaning inner s g =
    shard_meaning s (inner s.inner (subchunk_spec s.subchunk_shape g))
    (element_meaning s.index_codec (index_spec (grid_of g.shape s.subchunk_shape))) g

abbrev pub sharded_concurrency : {I : Type 0} → ShardingCodec I ElementCodec → List ℕ → Concurrency
sharded_concurrency s shape = record {
  served = IsCut shape s.subchunk_shape;
  workers = count_of (grid_of shape s.subchunk_shape);
  refusals = ConcurrencyRefusals shape s.subchunk_shape;
}

sharded_lawful : {I : Type 0} (inner : I → ArraySpec → Meaning) → ((x : I) (g : ArraySpec) → IsLawful g (inner x g))
    → (s : ShardingCodec I ElementCodec) (g : ArraySpec) → IsLawful g (sharded_meaning inner s g)
sharded_lawful inner lawful s g =
    let index_g = index_spec (grid_of g.shape s.subchunk_shape) in
    shard_lawful s (inner s.inner (subchunk_spec s.subchunk_shape g)) (element_meaning s.index_codec index_g) g
    (lawful s.inner (subchunk_spec s.subchunk_shape g)) (element_lawful s.index_codec index_g)

-- elements, with `transpose` before them or not
abbrev pub arranged_meaning : Arranged → ArraySpec → Meaning
arranged_meaning = either_meaning element_meaning (transposed_meaning element_meaning)

abbrev pub arranged_concurrency : Arranged → List ℕ → Concurrency
arranged_concurrency = either_concurrency (λ _ _. one_worker) (λ _ _. one_worker)

arranged_lawful : (codec : Arranged) (g : ArraySpec) → IsLawful g (arranged_meaning codec g)
arranged_lawful =
    either_lawful element_meaning (transposed_meaning element_meaning) element_lawful (transposed_lawful element_meaning element_lawful)

arranged_faultless : (codec : Arranged) (shape : List ℕ) (e : CodecError) → (arranged_concurrency codec shape).refusals e → IsNoFault e
arranged_faultless = either_faultless (λ _ _. one_worker) (λ _ _. one_worker) (λ _ _ e h. absurd h) (λ _ _ e h. absurd h)

-- subchunks
abbrev pub inner_meaning : InnerCodec → ArraySpec → Meaning
inner_meaning (Elements codec) g = arranged_meaning codec g
inner_meaning (Shards codec) g = sharded_meaning arranged_meaning codec g
inner_meaning (Opaque codec) g = opaque_meaning g

abbrev pub inner_concurrency : InnerCodec → List ℕ → Concurrency
inner_concurrency (Elements codec) shape = arranged_concurrency codec shape
inner_concurrency (Shards codec) shape = sharded_concurrency codec shape
inner_concurrency (Opaque codec) shape = one_worker

pub inner_lawful : (codec : InnerCodec) (g : ArraySpec) → IsLawful g (inner_meaning codec g)
inner_lawful (Elements codec) g = arranged_lawful codec g
inner_lawful (Shards codec) g = sharded_lawful arranged_meaning arranged_lawful codec g
inner_lawful (Opaque codec) g = opaque_lawful g

pub inner_faultless : (codec : InnerCodec) (shape : List ℕ) (e : CodecError) → (inner_concurrency codec shape).refusals e → IsNoFault e
inner_faultless (Elements codec) shape e = arranged_faultless codec shape e
inner_faultless (Shards codec) shape e = concurrency_refusals_faultless shape codec.subchunk_shape e
inner_faultless (Opaque codec) shape e = λ h. absurd h

-- chunks
abbrev pub chunk_meaning : ArrayCodec → ArraySpec → Meaning
chunk_meaning (Sharded codec) g = sharded_meaning inner_meaning codec g
chunk_meaning (Transposed codec) g = transposed_meaning (sharded_meaning inner_meaning) codec g
chunk_meaning (Unsharded codec) g = arranged_meaning codec g

abbrev pub chunk_concurrency : ArrayCodec → List ℕ → Concurrency
chunk_concurrency (Sharded codec) shape = sharded_concurrency codec shape
chunk_concurrency (Transposed codec) shape = one_worker
chunk_concurrency (Unsharded codec) shape = arranged_concurrency codec shape

pub chunk_lawful : (codec : ArrayCodec) (g : ArraySpec) → IsLawful g (chunk_meaning codec g)
chunk_lawful (Sharded codec) g = sharded_lawful inner_meaning inner_lawful codec g
chunk_lawful (Transposed codec) g = transposed_lawful (sharded_meaning inner_meaning) (sharded_lawful inner_meaning inner_lawful) codec g
chunk_lawful (Unsharded codec) g = arranged_lawful codec g

pub chunk_faultless : (codec : ArrayCodec) (shape : List ℕ) (e : CodecError) → (chunk_concurrency codec shape).refusals e → IsNoFault e
chunk_faultless (Sharded codec) shape e = concurrency_refusals_faultless shape codec.subchunk_shape e
chunk_faultless (Transposed codec) shape e = λ h. absurd h
chunk_faultless (Unsharded codec) shape e = arranged_faultless codec shape e
