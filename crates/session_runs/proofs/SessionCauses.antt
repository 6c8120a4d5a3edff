-- Why a call of a session in step is refused, as a cause of a run.
use Rattle.std.proofs.Common.{◌≡◌, ◌≢◌, ℕ, ◌*◌, ◌^◌, ◌<◌, inl, inr, false, IsTrue, List, Option, Some, None, Result, Ok, Err, IfOk, MatchResult, length, subst, arith}
use Rattle.parts_errors.specs.Words.{Bytes, Refusals}
use Rattle.parts_arrays.specs.ArraySpec.{ArraySpec}
use Rattle.parts_errors.specs.Order.{◌or◌then◌, RefusedBy}
use Rattle.parts_row_major.specs.Subsets.{Subset}
use Rattle.parts_arrays.specs.Arrays.{Array}
use Rattle.parts_arrays.specs.Types.{size_of, byte_size}
use Rattle.parts_subsets.specs.Selections.{Selection, SelectionRefusals, MatchesSubset, LiesWithin, subset_selection}
use Rattle.parts_subsets.proofs.SelectionLemmas.{inside_within}
use Rattle.parts_errors.specs.declared.error.CodecError.{CodecError}
use Rattle.parts_errors.specs.declared.error.CodecError.TheVariants.{TooLarge, Fault, SessionFailed}
use Rattle.storage_handles.specs.Handles.{HandleState}
use Rattle.storage_handles.specs.Objects.{ObjectRefusals}
use Rattle.codec_traits.specs.Meanings.{Meaning}
use Rattle.codec_traits.specs.Laws.{IsLawful}
use Rattle.codec_traits.specs.Reads.{RequestRefusals}
use Rattle.sharding_format.specs.Serves.{subchunk_spec}
use Rattle.sharding_gather.specs.Updates.{UpdateRefusals}
use Rattle.sharding_write.specs.Writing.{HoldsNumbers, IsCachedIndex}
use Rattle.sharding_codec.specs.Decoders.{ObjectCellsRefusals}
use Rattle.sharding_codec.specs.Sessions.{Session, IsInStep, IsLeftOrFailed, index_size_of, subchunks_of}
use Rattle.sharding_codec.specs.SessionWrites.{WrittenRefusals}
use Rattle.sharding_codec.specs.declared.codec.ShardingCodec.{ShardingCodec}
use Rattle.session_runs.specs.Maps.{CellMap}
use Rattle.session_runs.specs.Objects.{Shards, shards_of, index_numbers, Shows}
use Rattle.session_runs.specs.Causes.{ReadSizes, ReadCauses, WriteSizes, WriteCauses}
use Rattle.session_runs.specs.steps.Serving.{ReadObjectRefusals}
use Rattle.session_runs.specs.declared.command.Reply.{Reply}
use Rattle.session_runs.specs.declared.command.Reply.TheVariants.{Refused}
use Rattle.session_runs.proofs.CauseLemmas.{write_cause, read_cause, update_first, selection_first, session_first, object_first}
use Rattle.session_runs.proofs.OpeningLemmas.{meant}

-- a refusal that is no fault is a reply
pub of_refused : (error : CodecError) (r : Result Reply CodecError) (P : Reply → Type 0)
    → MatchResult r (λ reply. (reply ≡ Refused error) × (error ≢ Fault)) (λ e. (e ≡ Fault) × (error ≡ Fault)) → (error ≢ Fault → P (Refused error)) → IfOk r P
of_refused error (Ok reply) P h step = rw h.0 (step h.1)
of_refused error (Err e) P h step = tt

-- a writing call that is refused, but not by a fault, leaves the object
pub left_object : {C H : Type 0} (state : H → HandleState) (old new : Session C H) (e : CodecError) → IsLeftOrFailed state old new e → e ≢ Fault → (state new.handle).contents ≡ (state old.handle).contents
left_object state old new e (inl left) no_fault = left.handle.contents_same
left_object state old new e (inr failed) no_fault = absurd (no_fault failed.0)

module _ {I X : Type 0} (inner_meaning : I → ArraySpec → Meaning) (index_meaning : X → ArraySpec → Meaning) where
  -- the numbers that a session holds, of a codec and an array spec that it has
  pub cached_in_step : {H : Type 0} (state : H → HandleState) (session : Session (ShardingCodec I X) H) (codec : ShardingCodec I X) (g : ArraySpec)
      → IsInStep (meant inner_meaning index_meaning) index_meaning state session → session.codec ≡ codec → session.array_spec ≡ g → session.failed ≡ false → IsTrue (state session.handle).transparent
      → HoldsNumbers (index_numbers (shards_of inner_meaning index_meaning codec g)) (state session.handle).contents session.len session.index
  cached_in_step state session codec g h codec_is spec_is usable told =
      let Cached : ShardingCodec I X → ArraySpec → Type 0 = λ c x. HoldsNumbers (index_numbers (shards_of inner_meaning index_meaning c x)) (state session.handle).contents session.len session.index in
      subst (λ x. Cached codec x) spec_is (subst (λ c. Cached c session.array_spec) codec_is (h.cached usable told))

  -- their pairs are absent or in the data part
  pub numbers_in_step : {H : Type 0} (state : H → HandleState) (session : Session (ShardingCodec I X) H) (codec : ShardingCodec I X) (g : ArraySpec)
      → IsInStep (meant inner_meaning index_meaning) index_meaning state session → session.codec ≡ codec → session.array_spec ≡ g
      → IsCachedIndex codec.location (index_size_of index_meaning codec g) (subchunks_of codec g) session.len session.index
  numbers_in_step state session codec g h codec_is spec_is =
      let Cached : ShardingCodec I X → ArraySpec → Type 0 = λ c x. IsCachedIndex c.location (index_size_of index_meaning c x) (subchunks_of c x) session.len session.index in
      subst (λ x. Cached codec x) spec_is (subst (λ c. Cached c session.array_spec) codec_is h.index)

  module _ {H : Type 0} (state : H → HandleState) (session : Session (ShardingCodec I X) H) (after : HandleState) (m : CellMap) (e : CodecError)
      (in_step : IsInStep (meant inner_meaning index_meaning) index_meaning state session) (usable : session.failed ≡ false) (told : IsTrue (state session.handle).transparent) (no_fault : e ≢ Fault)
      (law : IsLawful (subchunk_spec session.codec.subchunk_shape session.array_spec) (inner_meaning session.codec.inner (subchunk_spec session.codec.subchunk_shape session.array_spec)))
      (shows : Shows (shards_of inner_meaning index_meaning session.codec session.array_spec) (state session.handle).contents m) where
    abbrev s : Shards
    s = shards_of inner_meaning index_meaning session.codec session.array_spec

    abbrev object : Option Bytes
    object = (state session.handle).contents

    pub write_refused : (subset : Subset) (update : Array)
        → RefusedBy (session.failed ≡ false or SessionFailed then
        UpdateRefusals session.array_spec.shape session.array_spec.data_type (subset_selection subset) update
        (ObjectRefusals (state session.handle) after (WrittenRefusals inner_meaning index_meaning session.codec session.array_spec subset update.elements object session.index))) e
        → RefusedBy (WriteCauses s m object subset update) e
    write_refused subset update h =
        let written : Refusals = WrittenRefusals inner_meaning index_meaning session.codec session.array_spec subset update.elements object session.index in
        let found : Refusals = ObjectRefusals (state session.handle) after written in
        elim (session_first session.failed (UpdateRefusals session.array_spec.shape session.array_spec.data_type (subset_selection subset) update found) e usable h) [
          | inl memory ↦ inl memory
          | inr refusals ↦
              inr (update_first session.array_spec.shape session.array_spec.data_type (subset_selection subset) update found (WriteSizes s m object subset update.elements) e
              (object_first (state session.handle) after written (WriteSizes s m object subset update.elements) e told no_fault
              (write_cause s.inner s.index session.codec.subchunk_shape session.codec.location session.codec.order session.array_spec object session.len session.index m in_step.serves.divides
              (in_step.cached usable told) in_step.index shows (λ x. law.cells_counted x in_step.serves.inner_served) subset update.elements e))
              refusals)
        ]

    read_refusals : (o : Option Bytes) (points : List (List ℕ)) → ObjectCellsRefusals inner_meaning index_meaning session.codec session.array_spec o points e → ReadObjectRefusals s o points e
    read_refusals None points h = h
    read_refusals (Some b) points h = h

    requested_sizes : (selection : Selection) → MatchesSubset selection → LiesWithin selection.subset selection.points session.array_spec.shape → length selection.points < 2 ^ 64
        → ((length selection.points * byte_size (size_of session.array_spec.data_type) < 2 ^ 64) or TooLarge then
        ObjectRefusals (state session.handle) after (ObjectCellsRefusals inner_meaning index_meaning session.codec session.array_spec object selection.points)) e
        → ReadSizes s m selection.points e
    requested_sizes selection by_subset within few h =
        let read : Refusals = ObjectCellsRefusals inner_meaning index_meaning session.codec session.array_spec object selection.points in
        elim h [
          | inl many ↦ (many.1, inl (omega (arith, many.0)))
          | inr later ↦
              object_first (state session.handle) after read (ReadSizes s m selection.points) e told no_fault
              (λ refused. read_cause s.inner s.index session.codec.subchunk_shape session.codec.location session.codec.order session.array_spec object session.len session.index m in_step.serves.divides
              (in_step.cached usable told) in_step.index shows (λ x. law.cells_counted x in_step.serves.inner_served) selection.points e (inside_within session.array_spec.shape selection by_subset within) few
              (read_refusals object selection.points refused))
              later.1
        ]

    pub read_refused : (selection : Selection) → MatchesSubset selection
        → RefusedBy (session.failed ≡ false or SessionFailed then
        RequestRefusals session.array_spec selection (λ n. n * byte_size (size_of session.array_spec.data_type) < 2 ^ 64)
        (ObjectRefusals (state session.handle) after (ObjectCellsRefusals inner_meaning index_meaning session.codec session.array_spec object selection.points))) e
        → RefusedBy (ReadCauses s m selection) e
    read_refused selection by_subset h =
        let found : Refusals = ObjectRefusals (state session.handle) after (ObjectCellsRefusals inner_meaning index_meaning session.codec session.array_spec object selection.points) in
        let answered : Refusals = (length selection.points * byte_size (size_of session.array_spec.data_type) < 2 ^ 64) or TooLarge then found in
        elim (session_first session.failed (SelectionRefusals session.array_spec.shape selection answered) e usable h) [
          | inl memory ↦ inl memory
          | inr refusals ↦ inr (selection_first session.array_spec.shape selection answered (ReadSizes s m selection.points) e (requested_sizes selection by_subset) refusals)
        ]
