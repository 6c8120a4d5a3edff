-- A compaction of an object, from what was read and what was put in its place.
use Rattle.std.proofs.Common.{◌≡◌, ◌≢◌, ℕ, ◌+◌, ◌^◌, ◌≤◌, ◌⊎◌, inl, inr, true, false, IsTrue, List, Option, Some, None, Result, Ok, Err, IfOk, OnOk, map, refl, sym, subst}
use Rattle.parts_errors.specs.Words.{Bytes, Elements}
use Rattle.parts_arrays.specs.ArraySpec.{ArraySpec, IsArrayOf}
use Rattle.parts_subsets.specs.Grid.{grid_of}
use Rattle.parts_errors.specs.Order.{RefusedBy}
use Rattle.parts_errors.specs.declared.error.CodecError.{CodecError}
use Rattle.parts_errors.specs.declared.error.CodecError.TheVariants.{OutOfMemory, TooLarge, Fault}
use Rattle.storage_handles.specs.Handles.{HandleState, IsPart, IsRead}
use Rattle.storage_handles.specs.Objects.{ObjectRefusals}
use Rattle.storage_handles.specs.Writes.{RefusesWrite}
use Rattle.storage_handles.specs.declared.bytes.ByteRange.TheVariants.{FromStart}
use Rattle.codec_traits.specs.Meanings.{Meaning}
use Rattle.codec_traits.specs.Refusals.{AreTooLong}
use Rattle.sharding_format.specs.Index.{index_spec}
use Rattle.sharding_format.specs.Serves.{ShardServes}
use Rattle.sharding_format.specs.Compacting.{CompactRefusals}
use Rattle.sharding_format.specs.declared.location.ShardingIndexLocation.{ShardingIndexLocation}
use Rattle.sharding_format.specs.declared.order.SubchunkWriteOrder.{SubchunkWriteOrder}
use Rattle.session_runs.specs.Objects.{Shards, IsRewritten}
use Rattle.session_runs.specs.Runs.{CompactStep}
use Rattle.session_runs.specs.steps.Serving.{Leads, IsUsable, ObjectCompactRefusals}
use Rattle.session_runs.specs.steps.Replacing.{IsReplaced}
use Rattle.session_runs.specs.declared.command.Reply.{Reply}
use Rattle.session_runs.specs.declared.command.Reply.TheVariants.{Done, Cells, Compacted, Refused}
use Rattle.session_runs.proofs.ShownLemmas.{shards}
use Rattle.session_runs.proofs.CauseLemmas.{compact_cause, object_first}
use Rattle.session_runs.proofs.StepLemmas.{refused_leads, rewritten_leads, rewritten_sound, rewritten_long}

-- the tests of bytes that were read whole are those of the object
pub whole_refusals : (s : Shards) (contents : Option Bytes) (bytes : Bytes) (e : CodecError) → IsPart (FromStart 0 None) contents (Some bytes) → CompactRefusals s.index s.layout bytes e → ObjectCompactRefusals s contents e
whole_refusals s None bytes e h refusals = cc
whole_refusals s (Some b) bytes e h refusals =
    let both : Some bytes ≡ Some b = h.1 in
    let same : bytes ≡ b = cc in
    subst (λ x. CompactRefusals s.index s.layout x e) same refusals

-- a writing call that is refused, but not by a fault, has no memory or is too large
pub replace_refused : (n : ℕ) (old new : HandleState) (e : CodecError) → IsTrue old.transparent → e ≢ Fault → RefusesWrite n old new e → (e ≡ OutOfMemory) ⊎ ((e ≡ TooLarge) × 2 ^ 64 ≤ n + 1)
replace_refused n old new OutOfMemory told no_fault h = inl refl
replace_refused n old new TooLarge told no_fault h = inr (refl, h told)
replace_refused n old new Fault told no_fault h = absurd (no_fault refl)
replace_refused n old new _ told no_fault h = absurd h

module _ (inner index : Meaning) (sub : List ℕ) (location : ShardingIndexLocation) (order : SubchunkWriteOrder) (g : ArraySpec)
    (serves : ShardServes inner index sub g) (index_law : (e : Elements) (bytes : Bytes) → IsArrayOf (index_spec (grid_of g.shape sub)) e → index.written e bytes → index.cells bytes ≡ map Some e) where
  abbrev s : Shards
  s = shards inner index sub location order g

  -- bytes that were made of the object took its place, or did not
  pub replaced_leads : (bytes : Bytes) (old new : Option Bytes) (reply : Reply) → IsRewritten s old (Some bytes) → IsReplaced bytes old new reply
      → Leads s (λ m m'. CompactStep s m old reply m' new) old new
  replaced_leads bytes old new (Compacted true) made h =
      rewritten_leads inner index sub location order g index_law old new serves.divides (subst (λ o. IsRewritten s old o) (sym h.0) made)
  replaced_leads bytes old new (Refused e) made h =
      refused_leads inner index sub location order g (λ m m'. CompactStep s m old (Refused e) m' new) old new h.0 (λ m shows.
      ((refl, h.0), elim h.1 [ inl memory ↦ inl memory | inr long ↦ inr (inl (long.0, rewritten_long inner index sub location order g index_law old bytes made long.1)) ]))
  replaced_leads bytes old new (Compacted false) made h = absurd h
  replaced_leads bytes old new Done made h = absurd h
  replaced_leads bytes old new (Cells cells) made h = absurd h

  pub replaced_usable : (bytes : Bytes) (old new : Option Bytes) (reply : Reply) → IsUsable s old → IsRewritten s old (Some bytes) → IsReplaced bytes old new reply → IsUsable s new
  replaced_usable bytes old new (Compacted true) usable made h =
      rw h.0 (record { sound = rewritten_sound inner index sub location order g index_law old bytes made; short = h.1 })
  replaced_usable bytes old new (Refused e) usable made h = rw h.0 usable
  replaced_usable bytes old new (Compacted false) usable made h = absurd h
  replaced_usable bytes old new Done usable made h = absurd h
  replaced_usable bytes old new (Cells cells) usable made h = absurd h

  -- a refusal of the compaction itself leaves the object
  pub unmade_leads : (old : HandleState) (after : HandleState) (e : CodecError) → ((x : Bytes) → ¬ (AreTooLong (index.cells x))) → IsTrue old.transparent → IsUsable s old.contents → e ≢ Fault
      → IsRead old after → RefusedBy (ObjectRefusals old after (ObjectCompactRefusals s old.contents)) e
      → Leads s (λ m m'. CompactStep s m old.contents (Refused e) m' after.contents) old.contents after.contents
  unmade_leads old after e short told usable no_fault read h =
      let refusals : RefusedBy (ObjectCompactRefusals s old.contents) e
      = elim h [ inl memory ↦ inl memory | inr found ↦ inr (object_first old after (ObjectCompactRefusals s old.contents) (ObjectCompactRefusals s old.contents) e told no_fault (λ t. t) found) ] in
      refused_leads inner index sub location order g (λ m m'. CompactStep s m old.contents (Refused e) m' after.contents) old.contents after.contents read.contents_same (λ m shows.
      ((refl, read.contents_same), compact_cause inner index sub location order g old.contents e serves short usable.sound usable.short refusals))

-- of each value that an answer may be
pub each_ok : {T E : Type 0} (r : Result T E) (P Q : T → Type 0) → IfOk r P → ((x : T) → P x → Q x) → IfOk r Q
each_ok (Ok x) P Q h step = step x h
each_ok (Err e) P Q h step = tt

pub on_ok_told : {T E : Type 0} (r : Result T E) (Told : Type 0) (P : T → Type 0) (Q : Type 0) → (Told → IfOk r P) → ((x : T) → Told → P x → Q) → OnOk r (Told → Q)
on_ok_told (Ok x) Told P Q h step = λ told. step x told (h told)
on_ok_told (Err e) Told P Q h step = tt
