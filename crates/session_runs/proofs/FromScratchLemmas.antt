-- What a run leaves byte for byte.
use Rattle.std.proofs.Common.{◌≡◌, ℕ, ◌<◌, true, false, List, [], ◌∷◌, ◌++◌, Option, Some, None, take, length, get_or, map, refl, sym, ap, ◌∙◌, subst, arith}
use Rattle.std.proofs.lemmas.List.{get_or-replicate}
use Rattle.std.proofs.lemmas.List.Elements.{All-get_or}
use Rattle.parts_errors.specs.Words.{Bytes, Elements}
use Rattle.parts_arrays.specs.ArraySpec.{ArraySpec, IsArrayOf}
use Rattle.parts_row_major.specs.Numbering.{count_of}
use Rattle.parts_subsets.specs.Grid.{Divides, grid_of}
use Rattle.parts_arrays.specs.Types.{size_of, FitsKind}
use Rattle.storage_handles.specs.Handles.{HandleState}
use Rattle.codec_traits.specs.Meanings.{Meaning}
use Rattle.codec_traits.specs.Laws.{IsLawful}
use Rattle.codec_traits.proofs.CodecLaws.{same_elements}
use Rattle.sharding_format.specs.Index.{index_spec, slot_at}
use Rattle.sharding_format.specs.Serves.{fixed_size, subchunk_spec, ShardServes}
use Rattle.sharding_format.specs.Compacting.{IsGood, compact_size}
use Rattle.sharding_format.specs.Encoding.{StandsAt}
use Rattle.sharding_format.specs.Holding.{Holds}
use Rattle.sharding_format.specs.Scratch.{scratch}
use Rattle.sharding_format.specs.Laws.{cells_of_encoding, numbers_of_index}
use Rattle.sharding_format.specs.declared.location.ShardingIndexLocation.{ShardingIndexLocation}
use Rattle.sharding_format.specs.declared.order.SubchunkWriteOrder.{SubchunkWriteOrder}
use Rattle.sharding_format.specs.declared.slot.Slot.{Slot}
use Rattle.sharding_format.specs.declared.slot.Slot.TheVariants.{Absent, InRange, Bad}
use Rattle.sharding_format.proofs.CompactionLemmas.{holds_encoded, scratch_of_compacted}
use Rattle.sharding_index.specs.DataPart.{IsInDataPart}
use Rattle.sharding_codec.specs.declared.codec.ShardingCodec.{ShardingCodec}
use Rattle.session_runs.specs.Maps.{CellMap, elements_of}
use Rattle.session_runs.specs.Objects.{Shards, shards_of, Shows, IsSound, IsMinimal, IsRewritten}
use Rattle.session_runs.specs.Runs.{AreLeft, Step, Run}
use Rattle.session_runs.specs.Ended.{Ended}
use Rattle.session_runs.specs.FromScratch.{AreFunctional, IsEncoded, GainsNothing, AcceptsNothing, LeavesScratch, LeavesUnwritten, LeavesUntouched}
use Rattle.session_runs.specs.declared.command.Command.{Command}
use Rattle.session_runs.specs.declared.command.Command.TheVariants.{Write, Read, ReadCells, Erase, Compact, Reopen}
use Rattle.session_runs.specs.declared.command.Reply.{Reply}
use Rattle.session_runs.specs.declared.command.Reply.TheVariants.{Done, Cells, Compacted, Refused}
use Rattle.session_runs.proofs.ShownLemmas.{shards, get_or-shown, get_or-elements_of}
use Rattle.session_runs.proofs.StandingLemmas.{Mirrors, mirrors_left, mirrors_erased, mirrors_rewritten, mirrors_written, array_of}

same_bytes : (x y : Bytes) → Some x ≡ Some y → x ≡ y
same_bytes x y h = cc

module _ (inner index : Meaning) (sub : List ℕ) (location : ShardingIndexLocation) (order : SubchunkWriteOrder) (g : ArraySpec) (divides : Divides sub g.shape)
    (fill_fits : FitsKind (size_of g.data_type) g.fill)
    (inner_law : (e : Elements) (bytes : Bytes) → IsArrayOf (subchunk_spec sub g) e → inner.written e bytes → inner.cells bytes ≡ map Some e)
    (index_law : (e : Elements) (bytes : Bytes) → IsArrayOf (index_spec (grid_of g.shape sub)) e → index.written e bytes → index.cells bytes ≡ map Some e) where
  abbrev s : Shards
  s = shards inner index sub location order g

  abbrev Mirror : Option Bytes → CellMap → Type 0
  Mirror o m = Mirrors inner index sub location order g o m

  left : (m m' : CellMap) (o o' : Option Bytes) → AreLeft m o m' o' → Mirror o m → Mirror o' m'
  left m m' o o' same h = mirrors_left inner index sub location order g m m' o o' same h

  -- ---- steps
  step_mirrors : (c : Command) (m : CellMap) (o : Option Bytes) (r : Reply) (m' : CellMap) (o' : Option Bytes) → Step s c m o r m' o' → Mirror o m → Mirror o' m'
  step_mirrors (Write subset update) m o Done m' o' step h = mirrors_written inner index sub location order g divides inner_law subset update.elements o o' m m' step.2 step.1 h
  step_mirrors (Write subset update) m o (Refused e) m' o' step h = left m m' o o' step.0 h
  step_mirrors (Write subset update) m o (Cells a) m' o' step h = absurd step
  step_mirrors (Write subset update) m o (Compacted b) m' o' step h = absurd step
  step_mirrors (Read subset) m o (Cells a) m' o' step h = left m m' o o' step.0 h
  step_mirrors (Read subset) m o (Refused e) m' o' step h = left m m' o o' step.0 h
  step_mirrors (Read subset) m o Done m' o' step h = absurd step
  step_mirrors (Read subset) m o (Compacted b) m' o' step h = absurd step
  step_mirrors (ReadCells points) m o (Cells a) m' o' step h = left m m' o o' step.0 h
  step_mirrors (ReadCells points) m o (Refused e) m' o' step h = left m m' o o' step.0 h
  step_mirrors (ReadCells points) m o Done m' o' step h = absurd step
  step_mirrors (ReadCells points) m o (Compacted b) m' o' step h = absurd step
  step_mirrors Erase m o Done m' o' step h =
      subst (λ (x : CellMap). Mirror o' x) (sym step.0) (subst (λ (x : Option Bytes). Mirror x (λ i. g.fill)) (sym step.1) (mirrors_erased inner index sub location order g fill_fits))
  step_mirrors Erase m o (Cells a) m' o' step h = absurd step
  step_mirrors Erase m o (Compacted b) m' o' step h = absurd step
  step_mirrors Erase m o (Refused e) m' o' step h = absurd step
  step_mirrors Compact m o (Compacted true) m' o' step h =
      subst (λ (x : CellMap). Mirror o' x) (sym step.0) (mirrors_rewritten inner index sub location order g divides index_law m o o' step.1 h)
  step_mirrors Compact m o (Compacted false) m' o' step h = left m m' o o' step.0 h
  step_mirrors Compact m o (Refused e) m' o' step h = left m m' o o' step.0 h
  step_mirrors Compact m o Done m' o' step h = absurd step
  step_mirrors Compact m o (Cells a) m' o' step h = absurd step
  step_mirrors Reopen m o Done m' o' step h = left m m' o o' step h
  step_mirrors Reopen m o (Cells a) m' o' step h = absurd step
  step_mirrors Reopen m o (Compacted b) m' o' step h = absurd step
  step_mirrors Reopen m o (Refused e) m' o' step h = absurd step

  -- a reply that a compaction rewrote the object comes from one that did
  rewritten_by : (c : Command) (m : CellMap) (o : Option Bytes) (m' : CellMap) (o' : Option Bytes) → Step s c m o (Compacted true) m' o' → (m' ≡ m) × IsRewritten s o o'
  rewritten_by (Write subset update) m o m' o' step = absurd step
  rewritten_by (Read subset) m o m' o' step = absurd step
  rewritten_by (ReadCells points) m o m' o' step = absurd step
  rewritten_by Erase m o m' o' step = absurd step
  rewritten_by Compact m o m' o' step = step
  rewritten_by Reopen m o m' o' step = absurd step

  module _ (inner_encoding index_encoding : Elements → Bytes) (functional : AreFunctional s inner_encoding index_encoding) where
    abbrev IsScratch : Option Bytes → CellMap → Type 0
    IsScratch o m = o ≡ Some (scratch inner_encoding index_encoding s.layout (elements_of g m))

    scratch_rewritten : (m : CellMap) (o o' : Option Bytes) → IsRewritten s o o' → Mirror o m → IsScratch o' m
    scratch_rewritten m None o' made h = absurd made
    scratch_rewritten m (Some b) None made h = absurd made
    scratch_rewritten m (Some b) (Some c) made h =
        ap Some (scratch_of_compacted index inner.written inner_encoding index_encoding sub location order (fixed_size index.representation) g (elements_of g m) b c
        divides (array_of inner index sub location order g m h.1) functional.0 functional.1 h.0 made)

    -- ---- runs
    run_scratch : (cs : List Command) (m : CellMap) (o : Option Bytes) (before : List Reply) (m' : CellMap) (o' : Option Bytes)
        → Run s cs m o (before ++ Compacted true ∷ []) m' o' → Mirror o m → IsScratch o' m'
    run_scratch [] m o [] m' o' run h = absurd run
    run_scratch [] m o (r ∷ rs) m' o' run h = absurd run
    run_scratch (c ∷ []) m o [] m' o' run h =
        let by = rewritten_by c m o run.0 run.1 run.2 in
        let made : IsScratch run.1 m = scratch_rewritten m o run.1 by.1 h in
        subst (λ (x : Option Bytes). IsScratch x m') (sym run.3.1) (subst (λ (x : CellMap). IsScratch run.1 x) (sym (run.3.0 ∙ by.0)) made)
    run_scratch (c ∷ d ∷ cs) m o [] m' o' run h = absurd run.3
    run_scratch (c ∷ cs) m o (r ∷ rs) m' o' run h =
        run_scratch cs run.0 run.1 rs m' o' run.3 (step_mirrors c m o r run.0 run.1 run.2 h)

  -- ---- starts
  mirrors_encoded : (o : Option Bytes) (m : CellMap) → Shows s o m → IsEncoded s o → Mirror o m
  mirrors_encoded None m shows encoded =
      let filled : (i : ℕ) → i < count_of g.shape → m i ≡ g.fill = λ i below.
      same_bytes (m i) g.fill (sym (get_or-shown g m i below) ∙ ap (λ t. get_or t i None) (sym shows) ∙ get_or-replicate (count_of g.shape) i (Some g.fill) None below) in
      (filled, λ i below. subst (FitsKind (size_of g.data_type)) (sym (filled i below)) fill_fits)
  mirrors_encoded (Some b) m shows encoded =
      let size : ℕ = fixed_size index.representation in
      let a : Elements = encoded.0 in
      let cells = cells_of_encoding inner.cells index.cells inner.written index.written sub location order size g a b divides encoded.1 inner_law index_law encoded.2 in
      let same : a ≡ elements_of g m = same_elements a (elements_of g m) (sym cells ∙ shows) in
      let array : IsArrayOf g (elements_of g m) = subst (IsArrayOf g) same encoded.1 in
      let held = holds_encoded index.cells inner.written index.written sub location order size g a b index_law encoded.2 in (
        subst (λ e. Holds inner.written index.cells s.layout e b) same held,
        λ i below. subst (FitsKind (size_of g.data_type)) (get_or-elements_of g m i [] below)
            (All-get_or (FitsKind (size_of g.data_type)) (elements_of g m) i [] (omega (arith, below, array.counted)) array.fitting),
      )

  placed_standing : (bytes : Bytes) (e : Elements) (t : Slot) → StandsAt inner.written s.layout bytes e t → IsInDataPart location (fixed_size index.representation) (length bytes) t
  placed_standing bytes e Absent h = tt
  placed_standing bytes e (InRange offset n) h = h.2
  placed_standing bytes e Bad h = absurd h

  sound_mirrored : (o : Option Bytes) (m : CellMap) → Mirror o m → IsSound s o
  sound_mirrored None m h = tt
  sound_mirrored (Some b) m h = record {
    numbers = h.0.numbers;
    told = h.0.told;
    placed = λ k below. placed_standing b _ (slot_at (length b) h.0.numbers k) (h.0.stand k below);
  }

  good_standing : (bytes : Bytes) (e : Elements) (t : Slot) → StandsAt inner.written s.layout bytes e t → IsGood t
  good_standing bytes e Absent h = tt
  good_standing bytes e (InRange offset n) h = tt
  good_standing bytes e Bad h = absurd h

  -- an encoding has nothing to gain by a compaction
  minimal_encoded : (o : Option Bytes) → IsEncoded s o → IsMinimal s o
  minimal_encoded None encoded = tt
  minimal_encoded (Some b) encoded =
      let by = encoded.2.holds in
      let told = numbers_of_index index.cells index.written sub g location (fixed_size index.representation) b encoded.2.numbers index_law by.long_enough by.counted by.below by.index in
      record {
        numbers = encoded.2.numbers;
        read = record { told = told; good = λ k below. good_standing b _ (slot_at (length b) encoded.2.numbers k) (by.stand k below) };
        same_size = by.filled;
      }

  never_both : (o o' : Option Bytes) → IsMinimal s o → IsRewritten s o o' → ⊥
  never_both None o' minimal made = absurd made
  never_both (Some b) None minimal made = absurd made
  never_both (Some b) (Some c) minimal made =
      let same : minimal.numbers ≡ made.old_numbers = same_bytes minimal.numbers made.old_numbers (sym minimal.read.told ∙ made.read.told) in
      made.other_size (subst (λ ns. compact_size s.layout (slot_at (length b) ns) ≡ length b) same minimal.same_size)

  run_gains : (cs : List Command) (m : CellMap) (o : Option Bytes) (rs : List Reply) (m' : CellMap) (o' : Option Bytes) → Run s cs m o rs m' o' → IsMinimal s o → GainsNothing cs rs
  run_gains [] m o [] m' o' run minimal = tt
  run_gains [] m o (r ∷ rs) m' o' run minimal = absurd run
  run_gains (c ∷ cs) m o [] m' o' run minimal = absurd run
  run_gains (Write subset update ∷ cs) m o (Done ∷ rs) m' o' run minimal = tt
  run_gains (Write subset update ∷ cs) m o (Cells a ∷ rs) m' o' run minimal = absurd run.2
  run_gains (Write subset update ∷ cs) m o (Compacted b ∷ rs) m' o' run minimal = absurd run.2
  run_gains (Write subset update ∷ cs) m o (Refused e ∷ rs) m' o' run minimal = run_gains cs run.0 run.1 rs m' o' run.3 (subst (IsMinimal s) (sym run.2.0.1) minimal)
  run_gains (Read subset ∷ cs) m o (Done ∷ rs) m' o' run minimal = absurd run.2
  run_gains (Read subset ∷ cs) m o (Cells a ∷ rs) m' o' run minimal = run_gains cs run.0 run.1 rs m' o' run.3 (subst (IsMinimal s) (sym run.2.0.1) minimal)
  run_gains (Read subset ∷ cs) m o (Compacted b ∷ rs) m' o' run minimal = absurd run.2
  run_gains (Read subset ∷ cs) m o (Refused e ∷ rs) m' o' run minimal = run_gains cs run.0 run.1 rs m' o' run.3 (subst (IsMinimal s) (sym run.2.0.1) minimal)
  run_gains (ReadCells points ∷ cs) m o (Done ∷ rs) m' o' run minimal = absurd run.2
  run_gains (ReadCells points ∷ cs) m o (Cells a ∷ rs) m' o' run minimal = run_gains cs run.0 run.1 rs m' o' run.3 (subst (IsMinimal s) (sym run.2.0.1) minimal)
  run_gains (ReadCells points ∷ cs) m o (Compacted b ∷ rs) m' o' run minimal = absurd run.2
  run_gains (ReadCells points ∷ cs) m o (Refused e ∷ rs) m' o' run minimal = run_gains cs run.0 run.1 rs m' o' run.3 (subst (IsMinimal s) (sym run.2.0.1) minimal)
  run_gains (Erase ∷ cs) m o (Done ∷ rs) m' o' run minimal = run_gains cs run.0 run.1 rs m' o' run.3 (subst (IsMinimal s) (sym run.2.1) tt)
  run_gains (Erase ∷ cs) m o (Cells a ∷ rs) m' o' run minimal = absurd run.2
  run_gains (Erase ∷ cs) m o (Compacted b ∷ rs) m' o' run minimal = absurd run.2
  run_gains (Erase ∷ cs) m o (Refused e ∷ rs) m' o' run minimal = absurd run.2
  run_gains (Compact ∷ cs) m o (Done ∷ rs) m' o' run minimal = absurd run.2
  run_gains (Compact ∷ cs) m o (Cells a ∷ rs) m' o' run minimal = absurd run.2
  run_gains (Compact ∷ cs) m o (Compacted true ∷ rs) m' o' run minimal = absurd (never_both o run.1 minimal run.2.1)
  run_gains (Compact ∷ cs) m o (Compacted false ∷ rs) m' o' run minimal = (refl, run_gains cs run.0 run.1 rs m' o' run.3 (subst (IsMinimal s) (sym run.2.0.1) minimal))
  run_gains (Compact ∷ cs) m o (Refused e ∷ rs) m' o' run minimal = run_gains cs run.0 run.1 rs m' o' run.3 (subst (IsMinimal s) (sym run.2.0.1) minimal)
  run_gains (Reopen ∷ cs) m o (Done ∷ rs) m' o' run minimal = run_gains cs run.0 run.1 rs m' o' run.3 (subst (IsMinimal s) (sym run.2.1) minimal)
  run_gains (Reopen ∷ cs) m o (Cells a ∷ rs) m' o' run minimal = absurd run.2
  run_gains (Reopen ∷ cs) m o (Compacted b ∷ rs) m' o' run minimal = absurd run.2
  run_gains (Reopen ∷ cs) m o (Refused e ∷ rs) m' o' run minimal = absurd run.2

  run_kept : (cs : List Command) (m : CellMap) (o : Option Bytes) (rs : List Reply) (m' : CellMap) (o' : Option Bytes) → Run s cs m o rs m' o' → IsMinimal s o → AcceptsNothing cs rs → o' ≡ o
  run_kept [] m o [] m' o' run minimal none = run.1
  run_kept [] m o (r ∷ rs) m' o' run minimal none = absurd run
  run_kept (c ∷ cs) m o [] m' o' run minimal none = absurd run
  run_kept (Write subset update ∷ cs) m o (Done ∷ rs) m' o' run minimal none = absurd none
  run_kept (Write subset update ∷ cs) m o (Cells a ∷ rs) m' o' run minimal none = absurd run.2
  run_kept (Write subset update ∷ cs) m o (Compacted b ∷ rs) m' o' run minimal none = absurd run.2
  run_kept (Write subset update ∷ cs) m o (Refused e ∷ rs) m' o' run minimal none = run_kept cs run.0 run.1 rs m' o' run.3 (subst (IsMinimal s) (sym run.2.0.1) minimal) none ∙ run.2.0.1
  run_kept (Read subset ∷ cs) m o (Done ∷ rs) m' o' run minimal none = absurd run.2
  run_kept (Read subset ∷ cs) m o (Cells a ∷ rs) m' o' run minimal none = run_kept cs run.0 run.1 rs m' o' run.3 (subst (IsMinimal s) (sym run.2.0.1) minimal) none ∙ run.2.0.1
  run_kept (Read subset ∷ cs) m o (Compacted b ∷ rs) m' o' run minimal none = absurd run.2
  run_kept (Read subset ∷ cs) m o (Refused e ∷ rs) m' o' run minimal none = run_kept cs run.0 run.1 rs m' o' run.3 (subst (IsMinimal s) (sym run.2.0.1) minimal) none ∙ run.2.0.1
  run_kept (ReadCells points ∷ cs) m o (Done ∷ rs) m' o' run minimal none = absurd run.2
  run_kept (ReadCells points ∷ cs) m o (Cells a ∷ rs) m' o' run minimal none = run_kept cs run.0 run.1 rs m' o' run.3 (subst (IsMinimal s) (sym run.2.0.1) minimal) none ∙ run.2.0.1
  run_kept (ReadCells points ∷ cs) m o (Compacted b ∷ rs) m' o' run minimal none = absurd run.2
  run_kept (ReadCells points ∷ cs) m o (Refused e ∷ rs) m' o' run minimal none = run_kept cs run.0 run.1 rs m' o' run.3 (subst (IsMinimal s) (sym run.2.0.1) minimal) none ∙ run.2.0.1
  run_kept (Erase ∷ cs) m o (Done ∷ rs) m' o' run minimal none = absurd none
  run_kept (Erase ∷ cs) m o (Cells a ∷ rs) m' o' run minimal none = absurd run.2
  run_kept (Erase ∷ cs) m o (Compacted b ∷ rs) m' o' run minimal none = absurd run.2
  run_kept (Erase ∷ cs) m o (Refused e ∷ rs) m' o' run minimal none = absurd run.2
  run_kept (Compact ∷ cs) m o (Done ∷ rs) m' o' run minimal none = absurd run.2
  run_kept (Compact ∷ cs) m o (Cells a ∷ rs) m' o' run minimal none = absurd run.2
  run_kept (Compact ∷ cs) m o (Compacted true ∷ rs) m' o' run minimal none = absurd (never_both o run.1 minimal run.2.1)
  run_kept (Compact ∷ cs) m o (Compacted false ∷ rs) m' o' run minimal none = run_kept cs run.0 run.1 rs m' o' run.3 (subst (IsMinimal s) (sym run.2.0.1) minimal) none ∙ run.2.0.1
  run_kept (Compact ∷ cs) m o (Refused e ∷ rs) m' o' run minimal none = run_kept cs run.0 run.1 rs m' o' run.3 (subst (IsMinimal s) (sym run.2.0.1) minimal) none ∙ run.2.0.1
  run_kept (Reopen ∷ cs) m o (Done ∷ rs) m' o' run minimal none = run_kept cs run.0 run.1 rs m' o' run.3 (subst (IsMinimal s) (sym run.2.1) minimal) none ∙ run.2.1
  run_kept (Reopen ∷ cs) m o (Cells a ∷ rs) m' o' run minimal none = absurd run.2
  run_kept (Reopen ∷ cs) m o (Compacted b ∷ rs) m' o' run minimal none = absurd run.2
  run_kept (Reopen ∷ cs) m o (Refused e ∷ rs) m' o' run minimal none = absurd run.2

  -- ---- ends
  module _ (start end : HandleState) (commands : List Command) (replies : List Reply) (ended : Ended s start end commands replies) where
    abbrev ran : List Command
    ran = take (length replies) commands

    pub leaves_scratch : LeavesScratch s start end commands replies
    leaves_scratch inner_encoding index_encoding functional m starts faultless last =
        let h : Mirror start.contents m = mirrors_encoded start.contents m starts.shows starts.encoded in
        let e = ended m starts.shows (sound_mirrored start.contents m h) starts.short in
        let same : end.contents ≡ e.1 = e.6 faultless in (
          e.0,
          subst (λ (x : Option Bytes). Run s ran m start.contents replies e.0 x) (sym same) e.2,
          same ∙ run_scratch inner_encoding index_encoding functional ran m start.contents last.0 e.0 e.1 (subst (λ (rs : List Reply). Run s ran m start.contents rs e.0 e.1) last.1 e.2) h,
        )

    pub leaves_unwritten : LeavesUnwritten s start commands replies
    leaves_unwritten m starts =
        let h : Mirror start.contents m = mirrors_encoded start.contents m starts.shows starts.encoded in
        let e = ended m starts.shows (sound_mirrored start.contents m h) starts.short in
        run_gains ran m start.contents replies e.0 e.1 e.2 (minimal_encoded start.contents starts.encoded)

    pub leaves_untouched : LeavesUntouched s start end commands replies
    leaves_untouched m starts faultless none =
        let h : Mirror start.contents m = mirrors_encoded start.contents m starts.shows starts.encoded in
        let e = ended m starts.shows (sound_mirrored start.contents m h) starts.short in
        e.6 faultless ∙ run_kept ran m start.contents replies e.0 e.1 e.2 (minimal_encoded start.contents starts.encoded) none

-- the same of a codec that serves
module _ {I X : Type 0} (inner_meaning : I → ArraySpec → Meaning) (index_meaning : X → ArraySpec → Meaning) (codec : ShardingCodec I X) (g : ArraySpec) where
  abbrev inner_g : ArraySpec
  inner_g = subchunk_spec codec.subchunk_shape g

  abbrev index_g : ArraySpec
  index_g = index_spec (grid_of g.shape codec.subchunk_shape)

  abbrev of_codec : Shards
  of_codec = shards_of inner_meaning index_meaning codec g

  pub leaves_bytes : IsLawful inner_g (inner_meaning codec.inner inner_g) → IsLawful index_g (index_meaning codec.index_codec index_g)
      → ShardServes (inner_meaning codec.inner inner_g) (index_meaning codec.index_codec index_g) codec.subchunk_shape g
      → (start end : HandleState) (commands : List Command) (replies : List Reply) → Ended of_codec start end commands replies
      → LeavesScratch of_codec start end commands replies × LeavesUnwritten of_codec start commands replies × LeavesUntouched of_codec start end commands replies
  leaves_bytes inner_lawful index_lawful serves start end commands replies ended =
      let inner : Meaning = inner_meaning codec.inner inner_g in
      let index : Meaning = index_meaning codec.index_codec index_g in
      let inner_law : (e : Elements) (bytes : Bytes) → IsArrayOf inner_g e → inner.written e bytes → inner.cells bytes ≡ map Some e
      = λ e bytes array written. inner_lawful.written_cells e bytes serves.inner_served array written in
      let index_law : (e : Elements) (bytes : Bytes) → IsArrayOf index_g e → index.written e bytes → index.cells bytes ≡ map Some e
      = λ e bytes array written. index_lawful.written_cells e bytes serves.index_served.served array written in
      let sub = codec.subchunk_shape in (
        leaves_scratch inner index sub codec.location codec.order g serves.divides serves.fill_fits inner_law index_law start end commands replies ended,
        leaves_unwritten inner index sub codec.location codec.order g serves.divides serves.fill_fits inner_law index_law start end commands replies ended,
        leaves_untouched inner index sub codec.location codec.order g serves.divides serves.fill_fits inner_law index_law start end commands replies ended,
      )
