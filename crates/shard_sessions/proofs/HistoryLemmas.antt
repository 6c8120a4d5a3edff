-- A history that goes on by one event, or that a refused call leaves.
use Rattle.std.proofs.Common.{◌≡◌, ℕ, inl, inr, Bool, false, IsTrue, Result, Ok, Err, IfOk, IfErr, OnOk, OnErr, replicate, List, [], ◌∷◌, ◌++◌, Option, Some, None, map, length, get_or, refl, sym, ap, ◌∙◌, subst, arith}
use Rattle.std.proofs.lemmas.Bool.{true≢false}
use Rattle.std.proofs.lemmas.List.{ext_get_or, length-map, length_push, replicate-append-replicate}
use Rattle.parts_errors.specs.Words.{Bytes, Elements}
use Rattle.parts_errors.specs.declared.error.CodecError.{CodecError}
use Rattle.parts_arrays.specs.ArraySpec.{ArraySpec}
use Rattle.parts_row_major.specs.Numbering.{count_of}
use Rattle.parts_row_major.specs.Subsets.{Subset}
use Rattle.parts_subsets.specs.Grid.{grid_of}
use Rattle.parts_arrays.specs.Arrays.{Array}
use Rattle.parts_subsets.specs.Selections.{subset_selection}
use Rattle.storage_handles.specs.Handles.{HandleState}
use Rattle.codec_traits.specs.Meanings.{Meaning}
use Rattle.codec_traits.specs.Reads.{cells_at, IsAnswer}
use Rattle.sharding_format.specs.Index.{index_spec}
use Rattle.sharding_format.specs.Serves.{subchunk_spec}
use Rattle.sharding_gather.specs.Updates.{IsUpdateOf}
use Rattle.sharding_write.specs.Writing.{AreOverlaid}
use Rattle.sharding_open.specs.Cached.{object_cells}
use Rattle.sharding_codec.specs.Sessions.{Session, IsInStep, IsLeft, IsDone, IsLeftOrFailed}
use Rattle.sharding_codec.specs.SessionWrites.{IsWritten}
use Rattle.sharding_codec.specs.LockedSessions.{HasWritten, HasRefusedWrite, HasRead, HasRefusedRead, HasErased}
use Rattle.sharding_codec.specs.declared.codec.ShardingCodec.{ShardingCodec}
use Rattle.sharding_open.proofs.PreparedLemmas.{length-object_cells}
use Rattle.session_runs.specs.Maps.{CellMap, elements_of}
use Rattle.session_runs.specs.Objects.{Shards, shards_of, Shows}
use Rattle.session_runs.proofs.ShownLemmas.{length-elements_of, get_or-elements_of}
use Rattle.session_runs.proofs.StepLemmas.{write_leads, read_leads, erase_leads}
use Rattle.session_runs.proofs.SessionCauses.{cached_in_step, numbers_in_step}
use Rattle.session_runs.specs.Histories.{Happens, IsLegal, IsCellsOf, Replays}
use Rattle.shard_sessions.specs.Recorded.{recorded_of, HoldsNamed, meaning_in, IsRecorded}
use Rattle.shard_sessions.specs.RefusedErasures.{HasRefusedToErase}
use Rattle.session_runs.specs.declared.event.Event.{Event}
use Rattle.session_runs.specs.declared.event.Event.TheVariants.{Write, Read, Erase}

legal-push : (g : ArraySpec) (events : List Event) (event : Event) (m between end : CellMap) → IsLegal g events m between → Happens g event between end → IsLegal g (events ++ event ∷ []) m end
legal-push g [] event m between end l h = (end, subst (λ x. Happens g event x end) l h, refl)
legal-push g (first ∷ events) event m between end l h = (l.0, l.1, legal-push g events event l.0 between end l.2 h)

-- an event leads from each map that the old object shows to one that the new object shows
abbrev pub Goes : Shards → Event → (old new : Option Bytes) → Type 0
Goes s event old new = (m : CellMap) → Shows s old m → (m' : CellMap) × Happens s.array_spec event m m' × Shows s new m'

replays_more : (s : Shards) (opening : Elements) (events : List Event) (event : Event) (old new : Option Bytes) → Goes s event old new → Replays s opening events old → Replays s opening (events ++ event ∷ []) new
replays_more s opening events event old new goes r =
    let next = goes r.last r.ends in
    record {
      first = r.first;
      last = next.0;
      opens = r.opens;
      legal = legal-push s.array_spec events event r.first r.last next.0 r.legal next.1;
      ends = next.2;
    }

-- of the cells of an object nothing was done yet
replays_none : (s : Shards) (opening : Elements) (object : Option Bytes) → length opening ≡ count_of s.array_spec.shape → IsCellsOf s object opening → Replays s opening [] object
replays_none s opening object counted is =
    let m : CellMap = λ i. get_or opening i [] in
    let same : elements_of s.array_spec m ≡ opening
    = ext_get_or [] (elements_of s.array_spec m) opening (length-elements_of s.array_spec m ∙ sym counted)
    (λ i below. get_or-elements_of s.array_spec m i [] (let k = length-elements_of s.array_spec m in omega arith)) in
    record { first = m; last = m; opens = same; legal = refl; ends = is ∙ ap (λ (es : Elements). map Some es) (sym same) }

unset_more : (events after : List Event) (event : Event) (seen now : List Bool) → seen ≡ replicate (length events) false → now ≡ seen ++ false ∷ []
    → after ≡ events ++ event ∷ [] → now ≡ replicate (length after) false
unset_more events after event seen now was is more =
    is ∙ (ap (λ (marks : List Bool). marks ++ false ∷ []) was ∙ (replicate-append-replicate (length events) 1 false
    ∙ ap (λ k. replicate k false) (sym (ap length more ∙ length_push events event))))

-- no mark is set, also after a call that adds its event or none
pub unset_after : {T E : Type 0} (Q : Type 0) (r : Result T E) (event : T → Event) (events after : List Event) (seen now : List Bool) → seen ≡ replicate (length events) false
    → IfOk r (λ x. after ≡ events ++ event x ∷ []) → OnOk r (now ≡ seen ++ false ∷ []) → OnErr r ((after ≡ events) × Q) → OnErr r (now ≡ seen)
    → now ≡ replicate (length after) false
unset_after Q (Ok x) event events after seen now was more is kept unmarked = unset_more events after (event x) seen now was is more
unset_after Q (Err e) event events after seen now was more is kept unmarked = unmarked ∙ (was ∙ ap (λ (es : List Event). replicate (length es) false) (sym kept.0))

module _ {I X H : Type 0} (inner_meaning : I → ArraySpec → Meaning) (index_meaning : X → ArraySpec → Meaning) (state : H → HandleState) where
  abbrev pub In : ShardingCodec I X → ArraySpec → Shards
  In codec g = shards_of inner_meaning index_meaning codec g

  -- what is said by a name is said of the codec that has it
  by_name : (codec : ShardingCodec I X) (named : Option (ShardingCodec I X)) (g there : ArraySpec) (P : Shards → Type 0) → Some codec ≡ named → g ≡ there
      → HoldsNamed inner_meaning index_meaning named there P → P (In codec g)
  by_name codec named g there P p q h =
      subst (λ x. HoldsNamed inner_meaning index_meaning (Some codec) x P) (sym q) (subst (λ c. HoldsNamed inner_meaning index_meaning c there P) (sym p) h)

  to_name : (codec : ShardingCodec I X) (named : Option (ShardingCodec I X)) (g there : ArraySpec) (P : Shards → Type 0) → Some codec ≡ named → g ≡ there
      → P (In codec g) → HoldsNamed inner_meaning index_meaning named there P
  to_name codec named g there P p q h =
      subst (λ c. HoldsNamed inner_meaning index_meaning c there P) p (subst (λ x. HoldsNamed inner_meaning index_meaning (Some codec) x P) q h)

  module _ (named : Option (ShardingCodec I X)) (there : ArraySpec) where
    abbrev Is : Session (ShardingCodec I X) H → Array → List Event → Type 0
    Is session opening events = IsRecorded inner_meaning index_meaning state named there (recorded_of session opening events)

    -- a session in which nothing was done yet
    pub recorded_none : (session : Session (ShardingCodec I X) H) (opening : Array) → Some session.codec ≡ named → session.array_spec ≡ there
        → IsInStep (meaning_in inner_meaning index_meaning) index_meaning state session
        → (IsTrue (state session.handle).transparent → IsCellsOf (In session.codec session.array_spec) (state session.handle).contents opening.elements)
        → Is session opening []
    recorded_none session opening codec_named spec_named in_step is = record {
      codec_named = codec_named;
      spec_named = spec_named;
      in_step = in_step;
      replays = λ usable told.
          let s : Shards = In session.codec session.array_spec in
          let object = (state session.handle).contents in
          let counted : length opening.elements ≡ count_of session.array_spec.shape
          = sym (length-map opening.elements Some) ∙ (sym (ap length (is told)) ∙ length-object_cells s.inner.cells s.index.cells s.layout s.array_spec object refl) in
          to_name session.codec named session.array_spec there (λ x. Replays x opening.elements [] object) codec_named spec_named (replays_none s opening.elements object counted (is told));
    }

    -- a call that was accepted adds its event
    recorded_more : (old new : Session (ShardingCodec I X) H) (opening : Array) (events after : List Event) (event : Event) → after ≡ events ++ event ∷ [] → new.codec ≡ old.codec → new.array_spec ≡ old.array_spec
        → old.failed ≡ false → (state new.handle).transparent ≡ (state old.handle).transparent → IsInStep (meaning_in inner_meaning index_meaning) index_meaning state new
        → (IsTrue (state old.handle).transparent → Goes (In old.codec old.array_spec) event (state old.handle).contents (state new.handle).contents)
        → Is old opening events → Is new opening after
    recorded_more old new opening events after event more codec_same spec_same usable transparent_same in_step goes was = subst (Is new opening) (sym more) (record {
      codec_named = ap Some codec_same ∙ was.codec_named;
      spec_named = spec_same ∙ was.spec_named;
      in_step = in_step;
      replays = λ ok told.
          let before : IsTrue (state old.handle).transparent = subst IsTrue transparent_same told in
          let s : Shards = In old.codec old.array_spec in
          let old_object = (state old.handle).contents in
          let new_object = (state new.handle).contents in
          let so_far = by_name old.codec named old.array_spec there (λ x. Replays x opening.elements events old_object) was.codec_named was.spec_named (was.replays usable before) in
          to_name old.codec named old.array_spec there (λ x. Replays x opening.elements (events ++ event ∷ []) new_object) was.codec_named was.spec_named
          (replays_more s opening.elements events event old_object new_object (goes before) so_far);
    })

    -- a call that was refused, or that leaves the object, adds none
    recorded_left : (old new : Session (ShardingCodec I X) H) (opening : Array) (events : List Event) → IsLeft state old new
        → IsInStep (meaning_in inner_meaning index_meaning) index_meaning state new → Is old opening events → Is new opening events
    recorded_left old new opening events left in_step was = record {
      codec_named = ap Some left.codec ∙ was.codec_named;
      spec_named = left.array_spec ∙ was.spec_named;
      in_step = in_step;
      replays = λ usable told.
          let so_far = was.replays (sym left.failed ∙ usable) (subst IsTrue left.handle.transparent_same told) in
          subst (λ o. HoldsNamed inner_meaning index_meaning named there (λ s. Replays s opening.elements events o)) (sym left.handle.contents_same) so_far;
    }

    recorded_refused : (old new : Session (ShardingCodec I X) H) (opening : Array) (events : List Event) (e : CodecError) → IsLeftOrFailed state old new e
        → IsInStep (meaning_in inner_meaning index_meaning) index_meaning state new → Is old opening events → Is new opening events
    recorded_refused old new opening events e (inl left) in_step was = recorded_left old new opening events left in_step was
    recorded_refused old new opening events e (inr failed) in_step was = record {
      codec_named = ap Some failed.1.codec ∙ was.codec_named;
      spec_named = failed.1.array_spec ∙ was.spec_named;
      in_step = in_step;
      replays = λ usable told. absurd (true≢false (sym failed.1.after ∙ usable));
    }

  -- what a call of the session does, as an event
  module _ (old new : Session (ShardingCodec I X) H) where
    abbrev inner : Meaning
    inner = inner_meaning old.codec.inner (subchunk_spec old.codec.subchunk_shape old.array_spec)

    abbrev index : Meaning
    index = index_meaning old.codec.index_codec (index_spec (grid_of old.array_spec.shape old.codec.subchunk_shape))

    abbrev cells : Option Bytes → List (Option Bytes)
    cells o = object_cells (meaning_in inner_meaning index_meaning old.codec old.array_spec).cells old.array_spec o

    write_goes : (subset : Subset) (update : Array) → IsInStep (meaning_in inner_meaning index_meaning) index_meaning state old
        → IsInStep (meaning_in inner_meaning index_meaning) index_meaning state new → IsDone state old new
        → IsUpdateOf old.array_spec.shape old.array_spec.data_type (subset_selection subset) update
        → (IsTrue (state old.handle).transparent
        → IsWritten inner_meaning index_meaning old.codec old.array_spec subset update.elements (state old.handle).contents old.index (state new.handle).contents new.index)
        → (IsTrue (state old.handle).transparent → AreOverlaid old.array_spec.shape subset update.elements (cells (state old.handle).contents) (cells (state new.handle).contents))
        → IsTrue (state old.handle).transparent → Goes (In old.codec old.array_spec) (Write subset update) (state old.handle).contents (state new.handle).contents
    write_goes subset update before after done fits written over told =
        let still : IsTrue (state new.handle).transparent = rw done.handle.transparent_same told in
        let led = write_leads inner index old.codec.subchunk_shape old.codec.location old.codec.order old.array_spec subset update (state old.handle).contents (state new.handle).contents fits
        (record {
          len = old.len;
          numbers = old.index;
          before = before.cached done.before told;
          before_cached = before.index;
          new_len = new.len;
          new_numbers = new.index;
          after = cached_in_step inner_meaning index_meaning state new old.codec old.array_spec after done.codec done.array_spec done.after still;
          after_cached = numbers_in_step inner_meaning index_meaning state new old.codec old.array_spec after done.codec done.array_spec;
          written = written told;
        })
        (over told) in
        λ m shows. let step = led m shows in (step.0, (step.1.0, step.1.1), step.2)

    read_goes : (subset : Subset) (array : Array) → IsAnswer old.array_spec (subset_selection subset) array → IsLeft state old new
        → (IsTrue (state old.handle).transparent → cells_at (cells (state old.handle).contents) old.array_spec.shape (subset_selection subset).points ≡ map Some array.elements)
        → IsTrue (state old.handle).transparent → Goes (In old.codec old.array_spec) (Read subset array) (state old.handle).contents (state new.handle).contents
    read_goes subset array answer left read told =
        let led = read_leads inner index old.codec.subchunk_shape old.codec.location old.codec.order old.array_spec (subset_selection subset) array
        (state old.handle).contents (state new.handle).contents refl answer left.handle.contents_same (read told) in
        λ m shows. let step = led m shows in (step.0, (step.1.1, step.1.2, step.1.0.0), step.2)

    erase_goes : (IsTrue (state old.handle).transparent → (state new.handle).contents ≡ None) → IsTrue (state old.handle).transparent
        → Goes (In old.codec old.array_spec) Erase (state old.handle).contents (state new.handle).contents
    erase_goes gone told =
        let led = erase_leads inner index old.codec.subchunk_shape old.codec.location old.codec.order old.array_spec (state old.handle).contents (state new.handle).contents (gone told) in
        λ m shows. let step = led m shows in (step.0, step.1.0, step.2)

  -- what a recorded call does, whether it is accepted or refused
  module _ (named : Option (ShardingCodec I X)) (there : ArraySpec) (old new : Session (ShardingCodec I X) H) (opening : Array) (events after : List Event)
      (in_step : IsInStep (meaning_in inner_meaning index_meaning) index_meaning state new)
      (was : IsRecorded inner_meaning index_meaning state named there (recorded_of old opening events)) where
    abbrev Now : Type 0
    Now = IsRecorded inner_meaning index_meaning state named there (recorded_of new opening after)

    left_or_failed : (e : CodecError) → IsLeftOrFailed state old new e → after ≡ events → Now
    left_or_failed e refused kept =
        subst (λ (es : List Event). IsRecorded inner_meaning index_meaning state named there (recorded_of new opening es)) (sym kept)
        (recorded_refused named there old new opening events e refused in_step was)

    pub recorded_write : (Q : Type 0) (r : Result ℕ CodecError) (subset : Subset) (update : Array)
        → OnOk r (HasWritten (meaning_in inner_meaning index_meaning) inner_meaning index_meaning state (subset_selection subset) update old new) → OnOk r (after ≡ events ++ Write subset update ∷ [])
        → OnErr r ((after ≡ events) × Q) → IfErr r (λ e. HasRefusedWrite inner_meaning index_meaning state (subset_selection subset) update e old new) → Now
    recorded_write Q (Ok place) subset update done more kept refused =
        recorded_more named there old new opening events after (Write subset update) more done.done.codec done.done.array_spec done.done.before done.done.handle.transparent_same in_step
        (write_goes old new subset update was.in_step in_step done.done done.update done.written done.cells) was
    recorded_write Q (Err e) subset update done more kept refused = left_or_failed e refused.failed kept.0

    pub recorded_read : (Q : Type 0) (r : Result (ℕ × Array) CodecError) (subset : Subset)
        → IfOk r (λ answer. HasRead (meaning_in inner_meaning index_meaning) state (subset_selection subset) answer.1 old new) → IfOk r (λ answer. after ≡ events ++ Read subset answer.1 ∷ [])
        → OnErr r ((after ≡ events) × Q) → IfErr r (λ e. HasRefusedRead (meaning_in inner_meaning index_meaning) inner_meaning index_meaning state (subset_selection subset) e old new) → Now
    recorded_read Q (Ok answer) subset done more kept refused =
        recorded_more named there old new opening events after (Read subset answer.1) more done.left.codec done.left.array_spec done.usable done.left.handle.transparent_same in_step
        (read_goes old new subset answer.1 done.answer done.left done.cells) was
    recorded_read Q (Err e) subset done more kept refused = left_or_failed e (inl refused.left) kept.0

    pub recorded_erase : (Q : Type 0) (r : Result ℕ CodecError)
        → OnOk r (HasErased state old new) → OnOk r (after ≡ events ++ Erase ∷ []) → OnErr r ((after ≡ events) × Q) → IfErr r (λ e. HasRefusedToErase state e old new) → Now
    recorded_erase Q (Ok place) done more kept refused =
        recorded_more named there old new opening events after Erase more done.done.codec done.done.array_spec done.done.before done.done.handle.transparent_same in_step
        (erase_goes old new done.erased) was
    recorded_erase Q (Err e) done more kept refused = left_or_failed e refused.failed kept.0
