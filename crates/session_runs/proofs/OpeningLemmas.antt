-- What a session says of its object, and how the opening of a sound object is refused.
use Rattle.std.proofs.Common.{◌≡◌, ℕ, inl, inr, false, IsTrue, List, Option, Some, None, sym, ◌∙◌, subst}
use Rattle.parts_errors.specs.Words.{Bytes}
use Rattle.parts_arrays.specs.ArraySpec.{ArraySpec}
use Rattle.parts_errors.specs.Order.{◌or_as◌then◌, RefusedBy}
use Rattle.parts_subsets.specs.Grid.{grid_of}
use Rattle.parts_errors.specs.declared.error.CodecError.{CodecError}
use Rattle.storage_handles.specs.Handles.{HandleState}
use Rattle.storage_handles.specs.Objects.{ObjectRefusals}
use Rattle.codec_traits.specs.Meanings.{Meaning}
use Rattle.codec_traits.specs.Laws.{IsLawful}
use Rattle.codec_traits.specs.Refusals.{AreTooLong, RefusesUnserved}
use Rattle.sharding_format.specs.Index.{index_spec, index_part, numbers_in_index}
use Rattle.sharding_format.specs.Serves.{subchunk_spec, fixed_size, ShardServes}
use Rattle.sharding_format.proofs.RefusalLemmas.{passed_refusal, long_enough, damaged_index, index_short}
use Rattle.sharding_codec.specs.Meanings.{shard_meaning}
use Rattle.sharding_codec.specs.Sessions.{Session, IsInStep, SessionRefusals}
use Rattle.sharding_codec.specs.declared.codec.ShardingCodec.{ShardingCodec}
use Rattle.session_runs.specs.Objects.{shards_of}
use Rattle.session_runs.specs.Ended.{StopsBy}
use Rattle.session_runs.specs.steps.Serving.{IsUsable}
use Rattle.session_runs.proofs.ShownLemmas.{usable_cached}

-- the cells of an index are never too long
pub index_never_long : (inner index : Meaning) (sub : List ℕ) (g : ArraySpec) → IsLawful (index_spec (grid_of g.shape sub)) index → ShardServes inner index sub g → (x : Bytes) → ¬ (AreTooLong (index.cells x))
index_never_long inner index sub g law serves =
    index_short index.cells (grid_of g.shape sub) (λ y. law.cells_counted y serves.index_served.served)
    (λ y i below. law.cells_fitting y i serves.index_served.served below) serves.index_fits

module _ {I X : Type 0} (inner_meaning : I → ArraySpec → Meaning) (index_meaning : X → ArraySpec → Meaning) where
  -- what the codec means
  abbrev pub meant : ShardingCodec I X → ArraySpec → Meaning
  meant codec g =
      shard_meaning codec (inner_meaning codec.inner (subchunk_spec codec.subchunk_shape g)) (index_meaning codec.index_codec (index_spec (grid_of g.shape codec.subchunk_shape))) g

  -- a session that is in step has a sound object
  pub usable_in_step : {H : Type 0} (state : H → HandleState) (session : Session (ShardingCodec I X) H) → IsInStep meant index_meaning state session → session.failed ≡ false
      → IsTrue (state session.handle).transparent → IsUsable (shards_of inner_meaning index_meaning session.codec session.array_spec) (state session.handle).contents
  usable_in_step state session h usable told =
      usable_cached (shards_of inner_meaning index_meaning session.codec session.array_spec) (state session.handle).contents session.len session.index (h.cached usable told) h.index

  -- so has the handle that it gives back
  pub usable_closed : {H : Type 0} (state : H → HandleState) (session : Session (ShardingCodec I X) H) (codec : ShardingCodec I X) (g : ArraySpec) (handle : H)
      → IsInStep meant index_meaning state session → session.codec ≡ codec → session.array_spec ≡ g → session.failed ≡ false → handle ≡ session.handle
      → IsTrue (state handle).transparent → IsUsable (shards_of inner_meaning index_meaning codec g) (state handle).contents
  usable_closed state session codec g handle h codec_is spec_is usable handle_is told =
      let Usable : ShardingCodec I X → ArraySpec → Type 0 = λ c x. IsUsable (shards_of inner_meaning index_meaning c x) (state session.handle).contents in
      let here = usable_in_step state session h usable (subst (λ x. IsTrue (state x).transparent) handle_is told) in
      subst (λ x. IsUsable (shards_of inner_meaning index_meaning codec g) (state x).contents) (sym handle_is)
      (subst (λ x. Usable codec x) spec_is (subst (λ c. Usable c session.array_spec) codec_is here))

  module _ (codec : ShardingCodec I X) (g : ArraySpec) (short : (x : Bytes) → ¬ (AreTooLong ((index_meaning codec.index_codec (index_spec (grid_of g.shape codec.subchunk_shape))).cells x))) where
    never_refused : (object : Option Bytes) (e : CodecError) → IsUsable (shards_of inner_meaning index_meaning codec g) object → SessionRefusals index_meaning codec g object e → ⊥
    never_refused None e usable h = h
    never_refused (Some b) e usable h =
        let index : Meaning = index_meaning codec.index_codec (index_spec (grid_of g.shape codec.subchunk_shape)) in
        let size : ℕ = fixed_size index.representation in
        let part : Bytes = index_part codec.location size b in
        let sound = usable.sound in
        let told : numbers_in_index index.cells codec.location size b ≡ Some sound.numbers = sound.told in
        let never_damaged : (numbers_in_index index.cells codec.location size b ≡ None) → ⊥ = λ none. let both : Some sound.numbers ≡ None = sym told ∙ none in cc in
        elim h [
          | inl long ↦ long.0 usable.short
          | inr a ↦ elim a.1 [
            | inl too_short ↦ too_short.0 (long_enough index.cells codec.location size b sound.numbers told)
            | inr b2 ↦ elim b2.1 [
              | inl found ↦ elim (passed_refusal (index.cells part) found.inner e found.lawful found.no_memory found.passed_on) [
                | inl large ↦ elim large.1 [ inl long ↦ short part long | inr d ↦ never_damaged (damaged_index index.cells codec.location size b d) ]
                | inr d ↦ never_damaged (damaged_index index.cells codec.location size b d.1)
              ]
              | inr c ↦ elim c.1 [
                | inl bad ↦ bad.1.2 (rw told (sound.placed bad.0 bad.1.0))
                | inr none ↦ none.1
              ]
            ]
          ]
        ]

    -- the opening of a sound object is refused only for memory, or by a fault
    pub opening_refused : (m : Meaning) (old new : HandleState) (e : CodecError) → m.serves → IsTrue old.transparent → IsUsable (shards_of inner_meaning index_meaning codec g) old.contents
        → RefusedBy (m.serves or_as RefusesUnserved m then ObjectRefusals old new (SessionRefusals index_meaning codec g old.contents)) e → StopsBy old new e
    opening_refused m old new e serves told usable h =
        elim h [
          | inl memory ↦ inl memory
          | inr refusals ↦ elim refusals [
            | inl unserved ↦ absurd (unserved.0 serves)
            | inr later ↦ elim (later.1 told) [ inl fault ↦ inr fault | inr refused ↦ absurd (never_refused old.contents e usable refused) ]
          ]
        ]
