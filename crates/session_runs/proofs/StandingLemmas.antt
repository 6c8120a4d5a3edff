-- What a run keeps of an object in which each subchunk of a map stands as its encoding.
use Rattle.std.proofs.Common.{◌≡◌, ◌≢◌, ℕ, ◌*◌, ◌<◌, ◌⊎◌, inl, inr, List, [], Option, Some, None, length, get_or, map, take, drop, refl, sym, ap, ◌∙◌, subst, arith}
use Rattle.std.specs.List.{All}
use Rattle.std.proofs.lemmas.List.{get_or-map, ext_get_or}
use Rattle.std.proofs.lemmas.List.Elements.{All-get_or, All-from_get_or}
use Rattle.std.proofs.lemmas.List.FromFn.{get_or-map-range_with_len, length-map-range_with_len}
use Rattle.parts_errors.specs.Words.{Bytes, Elements}
use Rattle.parts_arrays.specs.ArraySpec.{ArraySpec, IsArrayOf}
use Rattle.parts_row_major.specs.Numbering.{count_of}
use Rattle.parts_row_major.specs.Subsets.{Subset, number_in, numbers_in}
use Rattle.parts_subsets.specs.Grid.{Divides, grid_of, subchunk_number, position_number, cell_number}
use Rattle.parts_subsets.specs.Touched.{Touches}
use Rattle.parts_arrays.specs.Types.{size_of, FitsKind}
use Rattle.parts_subsets.proofs.GridLaws.{subchunk_number-below, position_number-below, cell_number-below, cell_number-located, subchunk_number-cell_number, length-subchunk, get_or-subchunk}
use Rattle.storage_handles.specs.Writes.{bytes_of}
use Rattle.codec_traits.specs.Meanings.{Meaning}
use Rattle.sharding_format.specs.Index.{index_spec, slot_at}
use Rattle.sharding_format.specs.Cells.{cell_in}
use Rattle.sharding_format.specs.Encoding.{StandsAt}
use Rattle.sharding_format.specs.Holding.{Holds}
use Rattle.sharding_format.specs.Laws.{IsArrayOf-subchunk}
use Rattle.sharding_format.specs.Packing.{slice_of}
use Rattle.sharding_format.specs.Serves.{fixed_size, subchunk_spec, layout_of}
use Rattle.sharding_format.specs.declared.location.ShardingIndexLocation.{ShardingIndexLocation}
use Rattle.sharding_format.specs.declared.order.SubchunkWriteOrder.{SubchunkWriteOrder}
use Rattle.sharding_format.specs.declared.order.SubchunkWriteOrder.TheVariants.{C, Unordered}
use Rattle.sharding_format.specs.declared.slot.Slot.{Slot}
use Rattle.sharding_format.specs.declared.slot.Slot.TheVariants.{Absent, InRange, Bad}
use Rattle.sharding_format.proofs.CompactionLemmas.{holds_encoded, encoding_of_compacted}
use Rattle.sharding_index.specs.DataPart.{IsInDataPart}
use Rattle.sharding_write.specs.Writing.{HoldsNumbers, AreAbsent, IsNew, cells_in}
use Rattle.sharding_write.proofs.AnewLemmas.{in_list, entry_absent}
use Rattle.sharding_write.proofs.CachedLemmas.{told_len}
use Rattle.sharding_write.proofs.WrittenLemmas.{absent_slot}
use Rattle.session_runs.specs.Maps.{CellMap, filled, IsOverridden, elements_of}
use Rattle.session_runs.specs.Objects.{Shards, index_numbers, IsObjectWritten, IsRewritten, written_layout}
use Rattle.session_runs.specs.Causes.{subchunk_elements}
use Rattle.session_runs.specs.Runs.{AreLeft}
use Rattle.session_runs.proofs.ShownLemmas.{shards, length-elements_of, get_or-elements_of}

same_numbers : (x y : List ℕ) → Some x ≡ Some y → x ≡ y
same_numbers x y h = cc

module _ (inner index : Meaning) (sub : List ℕ) (location : ShardingIndexLocation) (order : SubchunkWriteOrder) (g : ArraySpec) where
  abbrev s : Shards
  s = shards inner index sub location order g

  abbrev size : ℕ
  size = fixed_size index.representation

  abbrev many : ℕ
  many = count_of (grid_of g.shape sub)

  abbrev elements_at_k : CellMap → ℕ → Elements
  elements_at_k m k = subchunk_elements s m k

  abbrev Fit : CellMap → Type 0
  Fit m = (i : ℕ) → i < count_of g.shape → FitsKind (size_of g.data_type) (m i)

  abbrev StandsFor : Option Bytes → CellMap → Type 0
  StandsFor None m = (i : ℕ) → i < count_of g.shape → m i ≡ g.fill
  StandsFor (Some bytes) m = Holds inner.written index.cells s.layout (elements_of g m) bytes

  -- the elements of a map fit the type, and each subchunk of them stands in an object; without one each is the fill value
  abbrev pub Mirrors : Option Bytes → CellMap → Type 0
  Mirrors object m = StandsFor object m × Fit m

  -- where a subchunk stands is no matter of the order
  rewritten : (before after : SubchunkWriteOrder) (bytes : Bytes) (e : Elements) (t : Slot)
      → StandsAt inner.written (layout_of sub location before size g) bytes e t → StandsAt inner.written (layout_of sub location after size g) bytes e t
  rewritten before after bytes e Absent h = h
  rewritten before after bytes e (InRange offset n) h = h
  rewritten before after bytes e Bad h = absurd h

  -- a subchunk whose slice is kept stands as before
  kept_standing : (old new : Bytes) (e : Elements) (t : Slot) → slice_of new t ≡ slice_of old t → IsInDataPart location size (length new) t
      → StandsAt inner.written s.layout old e t → StandsAt inner.written s.layout new e t
  kept_standing old new e Absent same placed h = h
  kept_standing old new e (InRange offset n) same placed h = (h.0, subst (inner.written e) (sym same) h.1, placed)
  kept_standing old new e Bad same placed h = absurd h

  pub mirrors_left : (m m' : CellMap) (o o' : Option Bytes) → AreLeft m o m' o' → Mirrors o m → Mirrors o' m'
  mirrors_left m m' o o' left h = subst (λ (x : CellMap). Mirrors o' x) (sym left.0) (subst (λ (x : Option Bytes). Mirrors x m) (sym left.1) h)

  pub array_of : (m : CellMap) → Fit m → IsArrayOf g (elements_of g m)
  array_of m fit = record {
    counted = length-elements_of g m;
    fitting = All-from_get_or (FitsKind (size_of g.data_type)) (elements_of g m) [] (λ i lt.
        let below : i < count_of g.shape = omega (arith, length-elements_of g m) in
        subst (FitsKind (size_of g.data_type)) (sym (get_or-elements_of g m i [] below)) (fit i below));
  }

  pub mirrors_erased : FitsKind (size_of g.data_type) g.fill → Mirrors None (filled g)
  mirrors_erased fits = ((λ i below. refl), (λ i below. fits))

  module _ (divides : Divides sub g.shape) where
    subchunk_at : (m : CellMap) (k p : ℕ) → k < many → p < count_of sub → get_or (elements_at_k m k) p [] ≡ m (cell_number g.shape sub k p)
    subchunk_at m k p hk hp =
        get_or-subchunk g.shape sub (elements_of g m) k p [] hp
        ∙ get_or-elements_of g m (cell_number g.shape sub k p) [] (cell_number-below g.shape sub divides k p hk hp)

    absent_at : (len : ℕ) (numbers : List ℕ) (k : ℕ) → length numbers ≡ 2 * many → AreAbsent numbers → k < many → slot_at len numbers k ≡ Absent
    absent_at len numbers k counted absent hk =
        let entry = entry_absent numbers many k counted absent hk in
        absent_slot len numbers k entry.0 entry.1

    abbrev Stand : Option Bytes → List ℕ → CellMap → Type 0
    Stand object numbers m = (k : ℕ) → k < many → StandsAt inner.written s.layout (bytes_of object) (elements_at_k m k) (slot_at (length (bytes_of object)) numbers k)

    -- with the numbers that the index of an object has
    stand_by : (object : Option Bytes) (len : ℕ) (numbers : List ℕ) (m : CellMap) → HoldsNumbers (index_numbers s) object len numbers → length numbers ≡ 2 * many
        → StandsFor object m → Stand object numbers m
    stand_by None len numbers m held counted h = λ k hk.
        let e : Elements = elements_at_k m k in
        let fill : All (λ x. x ≡ g.fill) e = All-from_get_or (λ x. x ≡ g.fill) e [] (λ p lt.
        let hp : p < count_of sub = omega (arith, length-subchunk g.shape sub (elements_of g m) k) in
        subchunk_at m k p hk hp ∙ h (cell_number g.shape sub k p) (cell_number-below g.shape sub divides k p hk hp)) in
        subst (λ t. StandsAt inner.written s.layout (bytes_of None) e t) (sym (absent_at (length (bytes_of None)) numbers k counted held.1 hk)) fill
    stand_by (Some b) len numbers m held counted h = λ k hk.
        subst (λ ns. StandsAt inner.written s.layout b (elements_at_k m k) (slot_at (length b) ns k)) (same_numbers h.numbers numbers (sym h.told ∙ held.1)) (h.stand k hk)

    stands_by : (object : Option Bytes) (len : ℕ) (numbers : List ℕ) (m : CellMap) → HoldsNumbers (index_numbers s) object len numbers → length numbers ≡ 2 * many
        → Stand object numbers m → StandsFor object m
    stands_by None len numbers m held counted h = λ i below.
        let k : ℕ = subchunk_number g.shape sub i in
        let p : ℕ = position_number g.shape sub i in
        let hk : k < many = subchunk_number-below g.shape sub divides i below in
        let hp : p < count_of sub = position_number-below g.shape sub divides i below in
        let e : Elements = elements_at_k m k in
        let fill : All (λ x. x ≡ g.fill) e = subst (λ t. StandsAt inner.written s.layout (bytes_of None) e t) (absent_at (length (bytes_of None)) numbers k counted held.1 hk) (h k hk) in
        ap m (sym (cell_number-located g.shape sub divides i below))
        ∙ sym (subchunk_at m k p hk hp)
        ∙ All-get_or (λ x. x ≡ g.fill) e p [] (omega (arith, hp, length-subchunk g.shape sub (elements_of g m) k)) fill
    stands_by (Some b) len numbers m held counted h = record { numbers = numbers; told = held.1; stand = h }

    -- ---- compactions
    module _ (index_law : (e : Elements) (bytes : Bytes) → IsArrayOf (index_spec (grid_of g.shape sub)) e → index.written e bytes → index.cells bytes ≡ map Some e) where
      pub mirrors_rewritten : (m : CellMap) (old new : Option Bytes) → IsRewritten s old new → Mirrors old m → Mirrors new m
      mirrors_rewritten m None new made h = absurd made
      mirrors_rewritten m (Some b) None made h = absurd made
      mirrors_rewritten m (Some b) (Some c) made h =
          let encoded = encoding_of_compacted index inner.written sub location order size g (elements_of g m) b c h.0 made in
          let held = holds_encoded index.cells inner.written index.written sub location C size g (elements_of g m) c index_law encoded in (
            record {
              numbers = held.numbers;
              told = held.told;
              stand = λ k hk. rewritten C order c (elements_at_k m k) (slot_at (length c) held.numbers k) (held.stand k hk);
            },
            h.1,
          )

    -- ---- writes
    module _ (inner_law : (e : Elements) (bytes : Bytes) → IsArrayOf (subchunk_spec sub g) e → inner.written e bytes → inner.cells bytes ≡ map Some e) where
      cell_stood : (bytes : Bytes) (e : Elements) (t : Slot) (p : ℕ) → IsArrayOf (subchunk_spec sub g) e → p < length e → StandsAt inner.written s.layout bytes e t
          → cell_in inner.cells g.fill bytes t p ≡ Some (get_or e p [])
      cell_stood bytes e Absent p array below h = ap Some (sym (All-get_or (λ x. x ≡ g.fill) e p [] below h))
      cell_stood bytes e (InRange offset n) p array below h =
          ap (λ cells. get_or cells p None) (inner_law e (take n (drop offset bytes)) array h.1) ∙ get_or-map Some e p [] None below
      cell_stood bytes e Bad p array below h = absurd h

      module _ (subset : Subset) (update : Elements) (old new : Option Bytes) (m m' : CellMap)
          (w : IsObjectWritten s subset update old new) (over : IsOverridden g subset update m m') (mirrors : Mirrors old m) where
        abbrev Fresh : ℕ → Type 0
        Fresh k = IsNew inner (written_layout s) (subchunk_spec sub g) subset update (bytes_of old) w.numbers (bytes_of new) w.new_numbers k

        stood : Stand old w.numbers m
        stood = stand_by old w.len w.numbers m w.before w.before_cached.counted mirrors.0

        -- the old cell at a place is the old map's
        old_position : (k p : ℕ) → k < many → p < count_of sub → cells_in inner.cells g.fill (bytes_of old) w.numbers k p ≡ Some (m (cell_number g.shape sub k p))
        old_position k p hk hp =
            let e : Elements = elements_at_k m k in
            cell_stood (bytes_of old) e (slot_at (length (bytes_of old)) w.numbers k) p
            (IsArrayOf-subchunk sub g (elements_of g m) k divides (array_of m mirrors.1) hk)
            (omega (arith, hp, length-subchunk g.shape sub (elements_of g m) k)) (stood k hk)
            ∙ ap Some (subchunk_at m k p hk hp)

        -- the new element at a place is the new map's
        new_position : (k p : ℕ) (fresh : Fresh k) → k < many → p < count_of sub → get_or fresh.elements p [] ≡ m' (cell_number g.shape sub k p)
        new_position k p fresh hk hp =
            let i : ℕ = cell_number g.shape sub k p in
            let long : length (numbers_in subset g.shape) ≡ count_of subset.shape = length-map-range_with_len (number_in subset g.shape) 0 (count_of subset.shape) in
            let at : (q : ℕ) → q < count_of subset.shape → get_or (numbers_in subset g.shape) q 0 ≡ number_in subset g.shape q
            = λ q lt. get_or-map-range_with_len (number_in subset g.shape) 0 (count_of subset.shape) q q 0 lt (omega arith) in
            elim (in_list (numbers_in subset g.shape) i) [
              | inl found ↦
                  let lt : found.0 < count_of subset.shape = omega (arith, found.1, long) in
                  let here : number_in subset g.shape found.0 ≡ i = sym (at found.0 lt) ∙ found.2 in
                  fresh.cells.given p found.0 hp lt (sym here) ∙ sym (over.inside found.0 lt) ∙ ap m' here
              | inr off ↦
                  let apart : (q : ℕ) → q < count_of subset.shape → number_in subset g.shape q ≢ i = λ q lt is. off q (omega (arith, long, lt)) (at q lt ∙ is) in
                  same_numbers (get_or fresh.elements p []) (m i)
                  (sym (fresh.cells.kept p hp (λ q lt is. apart q lt (sym is))) ∙ old_position k p hk hp)
                  ∙ sym (over.outside i apart)
            ]

        new_elements : (k : ℕ) (fresh : Fresh k) → k < many → fresh.elements ≡ elements_at_k m' k
        new_elements k fresh hk =
            let e : Elements = elements_at_k m' k in
            let counted : length fresh.elements ≡ count_of sub = fresh.cells.array.counted in
            ext_get_or [] fresh.elements e (counted ∙ sym (length-subchunk g.shape sub (elements_of g m') k)) (λ p lt.
            let hp : p < count_of sub = omega (arith, lt, counted) in
            new_position k p fresh hk hp ∙ sym (subchunk_at m' k p hk hp))

        -- outside of the touched subchunks the map is as it was
        kept_position : (k p : ℕ) → ¬ (Touches g.shape sub subset k) → k < many → p < count_of sub → m' (cell_number g.shape sub k p) ≡ m (cell_number g.shape sub k p)
        kept_position k p off hk hp =
            over.outside (cell_number g.shape sub k p) (λ q lt is. off (q, lt, ap (subchunk_number g.shape sub) is ∙ subchunk_number-cell_number g.shape sub divides k p hk hp))

        kept_elements : (k : ℕ) → ¬ (Touches g.shape sub subset k) → k < many → elements_at_k m k ≡ elements_at_k m' k
        kept_elements k off hk =
            let e : Elements = elements_at_k m k in
            let counted : length e ≡ count_of sub = length-subchunk g.shape sub (elements_of g m) k in
            ext_get_or [] e (elements_at_k m' k) (counted ∙ sym (length-subchunk g.shape sub (elements_of g m') k)) (λ p lt.
            let hp : p < count_of sub = omega (arith, lt, counted) in
            subchunk_at m k p hk hp ∙ sym (kept_position k p off hk hp) ∙ sym (subchunk_at m' k p hk hp))

        touched_or_not : (k : ℕ) → Touches g.shape sub subset k ⊎ (¬ (Touches g.shape sub subset k))
        touched_or_not k =
            let are = w.written.are_touched in
            elim (in_list w.written.touched k) [
              | inl found ↦ inl (subst (Touches g.shape sub subset) found.2 (are.touched found.0 found.1))
              | inr none ↦ inr (λ touches. let found = are.all k touches in none found.0 found.1 found.2)
            ]

        new_stood : Stand new w.new_numbers m'
        new_stood = λ k hk.
            let t : Slot = slot_at (length (bytes_of new)) w.new_numbers k in
            let was : Slot = slot_at (length (bytes_of old)) w.numbers k in
            elim (touched_or_not k) [
              | inl touches ↦
                  let fresh = w.written.stand k hk touches in
                  subst (λ e. StandsAt inner.written s.layout (bytes_of new) e t) (new_elements k fresh hk)
                  (rewritten Unordered order (bytes_of new) fresh.elements t fresh.stands)
              | inr off ↦
                  let kept = w.written.kept k hk off in
                  let long : length (bytes_of new) ≡ w.new_len = told_len (index_numbers s) new w.new_len w.new_numbers w.after in
                  let placed : IsInDataPart location size (length (bytes_of new)) t
                  = subst (λ n. IsInDataPart location size n (slot_at n w.new_numbers k)) (sym long) (w.after_cached.placed k hk) in
                  let stays : StandsAt inner.written s.layout (bytes_of new) (elements_at_k m k) was
                  = kept_standing (bytes_of old) (bytes_of new) (elements_at_k m k) was (ap (slice_of (bytes_of new)) (sym kept.slot) ∙ kept.bytes)
                  (subst (IsInDataPart location size (length (bytes_of new))) kept.slot placed) (stood k hk) in
                  subst (λ e. StandsAt inner.written s.layout (bytes_of new) e t) (kept_elements k off hk)
                  (subst (StandsAt inner.written s.layout (bytes_of new) (elements_at_k m k)) (sym kept.slot) stays)
            ]

        new_fit : Fit m'
        new_fit = λ i below.
            let Fits : Bytes → Type 0 = FitsKind (size_of g.data_type) in
            let k : ℕ = subchunk_number g.shape sub i in
            let p : ℕ = position_number g.shape sub i in
            let hk : k < many = subchunk_number-below g.shape sub divides i below in
            let hp : p < count_of sub = position_number-below g.shape sub divides i below in
            let located : cell_number g.shape sub k p ≡ i = cell_number-located g.shape sub divides i below in
            elim (touched_or_not k) [
              | inl touches ↦
                  let fresh = w.written.stand k hk touches in
                  let counted : length fresh.elements ≡ count_of sub = fresh.cells.array.counted in
                  subst Fits (new_position k p fresh hk hp ∙ ap m' located) (All-get_or Fits fresh.elements p [] (omega (arith, hp, counted)) fresh.cells.array.fitting)
              | inr off ↦ subst Fits (ap m (sym located) ∙ sym (kept_position k p off hk hp) ∙ ap m' located) (mirrors.1 i below)
            ]

        pub mirrors_written : Mirrors new m'
        mirrors_written = (stands_by new w.new_len w.new_numbers m' w.after w.after_cached.counted new_stood, new_fit)
