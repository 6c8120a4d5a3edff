-- What the opening of a recorded session reads, said of the handle that was handed in.
use Rattle.std.proofs.Common.{◌≡◌, inl, inr, false, IsTrue, Option, length, sym, subst, arith}
use Rattle.parts_errors.specs.Words.{Bytes, Elements, Refusals}
use Rattle.parts_errors.specs.declared.error.CodecError.{CodecError}
use Rattle.parts_errors.specs.declared.error.CodecError.TheVariants.{TooLarge}
use Rattle.parts_arrays.specs.ArraySpec.{ArraySpec}
use Rattle.parts_errors.specs.Order.{◌or◌then◌, RefusedBy}
use Rattle.parts_row_major.specs.Subsets.{points_of}
use Rattle.parts_subsets.specs.Selections.{subset_selection}
use Rattle.storage_handles.specs.Handles.{HandleState, IsRead}
use Rattle.storage_handles.specs.Objects.{ObjectRefusals}
use Rattle.codec_traits.specs.Meanings.{Meaning}
use Rattle.sharding_codec.specs.Decoders.{ObjectCellsRefusals}
use Rattle.sharding_codec.specs.Sessions.{Session, IsInStep, IsLeft}
use Rattle.sharding_codec.specs.declared.codec.ShardingCodec.{ShardingCodec}
use Rattle.session_runs.specs.Objects.{shards_of, IsSound}
use Rattle.session_runs.proofs.CauseLemmas.{selection_first}
use Rattle.session_runs.proofs.OpeningLemmas.{usable_in_step}
use Rattle.session_runs.specs.Histories.{IsCellsOf}
use Rattle.shard_sessions.specs.Recorded.{full_subset, meaning_in, WholeReadRefusals, RecordedRefusals}

-- tests that look at an object, also from before a reading call
object_from : (old mid new : HandleState) (refusals : Option Bytes → Refusals) (e : CodecError) → IsRead old mid → ObjectRefusals mid new (refusals mid.contents) e → ObjectRefusals old new (refusals old.contents) e
object_from old mid new refusals e read h = λ told.
    elim (h (subst IsTrue (sym read.transparent_same) told)) [
      | inl fault ↦ inl (fault.0, (let kept = read.faults_kept in let more = fault.1 in omega arith))
      | inr later ↦ inr (subst (λ object. refusals object e) read.contents_same later)
    ]

module _ {I X : Type 0} (inner_meaning : I → ArraySpec → Meaning) (index_meaning : X → ArraySpec → Meaning) where
  read_from : (codec : ShardingCodec I X) (g : ArraySpec) (old mid new : HandleState) (e : CodecError) → IsRead old mid
      → WholeReadRefusals inner_meaning index_meaning codec g mid new e → WholeReadRefusals inner_meaning index_meaning codec g old new e
  read_from codec g old mid new e read h =
      let CanAnswer : Type 0 = (meaning_in inner_meaning index_meaning codec g).answerable (length (points_of (full_subset g.shape))) in
      let refusals : Option Bytes → Refusals = λ object. ObjectCellsRefusals inner_meaning index_meaning codec g object (points_of (full_subset g.shape)) in
      selection_first g.shape (subset_selection (full_subset g.shape))
      (CanAnswer or TooLarge then ObjectRefusals mid new (refusals mid.contents)) (CanAnswer or TooLarge then ObjectRefusals old new (refusals old.contents)) e
      (λ inside few t. elim t [ inl many ↦ inl many | inr later ↦ inr (later.0, object_from old mid new refusals e read later.1) ]) h

  module _ {H : Type 0} (state : H → HandleState) where
    -- what is known of the cells stays known after a call that leaves the object
    pub cells_left : (old new : Session (ShardingCodec I X) H) (elements : Elements) → IsLeft state old new
        → (IsTrue (state old.handle).transparent → IsCellsOf (shards_of inner_meaning index_meaning old.codec old.array_spec) (state old.handle).contents elements)
        → IsTrue (state new.handle).transparent → IsCellsOf (shards_of inner_meaning index_meaning new.codec new.array_spec) (state new.handle).contents elements
    cells_left old new elements left is told =
        let P : ShardingCodec I X → ArraySpec → Option Bytes → Type 0 = λ c g o. IsCellsOf (shards_of inner_meaning index_meaning c g) o elements in
        let object = (state old.handle).contents in
        let here : P old.codec old.array_spec object = is (subst IsTrue left.handle.transparent_same told) in
        subst (λ o. P new.codec new.array_spec o) (sym left.handle.contents_same) (subst (λ g. P new.codec g object) (sym left.array_spec) (subst (λ c. P c old.array_spec object) (sym left.codec) here))

    -- a session that was opened just now
    module _ (session : Session (ShardingCodec I X) H) (codec : ShardingCodec I X) (g : ArraySpec) (handle : H) (codec_is : session.codec ≡ codec) (spec_is : session.array_spec ≡ g)
        (read : IsRead (state handle) (state session.handle)) where
      pub cells_opened : (elements : Elements)
          → (IsTrue (state session.handle).transparent → IsCellsOf (shards_of inner_meaning index_meaning session.codec session.array_spec) (state session.handle).contents elements)
          → IsTrue (state handle).transparent → IsCellsOf (shards_of inner_meaning index_meaning codec g) (state handle).contents elements
      cells_opened elements is told =
          let P : ShardingCodec I X → ArraySpec → Option Bytes → Type 0 = λ c x o. IsCellsOf (shards_of inner_meaning index_meaning c x) o elements in
          let object = (state session.handle).contents in
          let here : P session.codec session.array_spec object = is (subst IsTrue (sym read.transparent_same) told) in
          subst (λ o. P codec g o) read.contents_same (subst (λ x. P codec x object) spec_is (subst (λ c. P c session.array_spec object) codec_is here))

      pub refused_opened : (after : H) (e : CodecError) → IsInStep (meaning_in inner_meaning index_meaning) index_meaning state session → session.failed ≡ false
          → RefusedBy (WholeReadRefusals inner_meaning index_meaning session.codec session.array_spec (state session.handle) (state after)) e
          → RecordedRefusals inner_meaning index_meaning codec g (state handle) (state after) e
      refused_opened after e in_step usable h =
          let object = (state session.handle).contents in
          let S : ShardingCodec I X → ArraySpec → Option Bytes → Type 0 = λ c x o. IsSound (shards_of inner_meaning index_meaning c x) o in
          let T : ShardingCodec I X → ArraySpec → Type 0 = λ c x. RefusedBy (WholeReadRefusals inner_meaning index_meaning c x (state session.handle) (state after)) e in
          let refusals : T codec g = subst (λ x. T codec x) spec_is (subst (λ c. T c session.array_spec) codec_is h) in
          inr (
            subst (λ x. (meaning_in inner_meaning index_meaning codec x).serves) spec_is
                (subst (λ c. (meaning_in inner_meaning index_meaning c session.array_spec).serves) codec_is in_step.serves),
            (λ told.
                let sound : S session.codec session.array_spec object
                = (usable_in_step inner_meaning index_meaning state session in_step usable (subst IsTrue (sym read.transparent_same) told)).sound in
                subst (λ o. S codec g o) read.contents_same (subst (λ x. S codec x object) spec_is (subst (λ c. S c session.array_spec object) codec_is sound))),
            elim refusals [ inl memory ↦ inl memory | inr t ↦ inr (read_from codec g (state handle) (state session.handle) (state after) e read t) ],
          )
