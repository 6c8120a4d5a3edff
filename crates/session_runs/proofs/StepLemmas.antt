-- What the calls of a session do, as steps of a run.
use Rattle.std.proofs.Common.{◌≡◌, ℕ, ◌+◌, ◌^◌, ◌<◌, ◌≤◌, inl, inr, true, false, List, [], Option, Some, None, length, get_or, map, refl, sym, ap, ◌∙◌, arith}
use Rattle.std.proofs.lemmas.Bool.{cases_lt}
use Rattle.std.proofs.lemmas.List.{get_or-replicate, get_or_past}
use Rattle.std.proofs.lemmas.List.FromFn.{get_or-map-range_with_len, length-map-range_with_len}
use Rattle.parts_errors.specs.Words.{Bytes, Elements}
use Rattle.parts_arrays.specs.ArraySpec.{ArraySpec, IsArrayOf}
use Rattle.parts_row_major.specs.Numbering.{count_of}
use Rattle.parts_row_major.specs.Subsets.{Subset, number_in, numbers_in}
use Rattle.parts_subsets.specs.Grid.{Divides, grid_of}
use Rattle.parts_arrays.specs.Arrays.{Array}
use Rattle.parts_subsets.specs.Selections.{Selection, MatchesSubset, subset_selection}
use Rattle.parts_subsets.proofs.SelectionLemmas.{selection_inside}
use Rattle.codec_traits.specs.Meanings.{Meaning}
use Rattle.codec_traits.specs.Reads.{cells_at, IsAnswer}
use Rattle.codec_traits.proofs.CodecLaws.{same_elements}
use Rattle.sharding_format.specs.Index.{index_spec, slot_at, data_start, data_end}
use Rattle.sharding_format.specs.Cells.{shard_cells}
use Rattle.sharding_format.specs.Encoding.{slot_size}
use Rattle.sharding_format.specs.Compacting.{IsMoved, IsCompacted, present_size}
use Rattle.sharding_format.specs.Laws.{numbers_of_index, cells_of_compacted}
use Rattle.sharding_format.specs.declared.location.ShardingIndexLocation.{ShardingIndexLocation}
use Rattle.sharding_format.specs.declared.location.ShardingIndexLocation.TheVariants.{Start, End}
use Rattle.sharding_format.specs.declared.order.SubchunkWriteOrder.{SubchunkWriteOrder}
use Rattle.sharding_format.specs.declared.slot.Slot.{Slot}
use Rattle.sharding_format.specs.declared.slot.Slot.TheVariants.{Absent, InRange, Bad}
use Rattle.sharding_format.proofs.LayingLemmas.{sum_more, sum_grows_to}
use Rattle.sharding_index.specs.DataPart.{IsInDataPart}
use Rattle.sharding_gather.specs.Updates.{IsUpdateOf}
use Rattle.sharding_write.specs.Writing.{AreOverlaid}
use Rattle.sharding_write.proofs.AnewLemmas.{in_list}
use Rattle.sharding_codec.specs.Decoders.{object_cells}
use Rattle.sharding_open.proofs.PreparedLemmas.{length-object_cells}
use Rattle.session_runs.specs.Maps.{CellMap, filled, IsOverridden, elements_at}
use Rattle.session_runs.specs.Objects.{Shards, Shows, HasSoundIndex, IsObjectWritten, IsMinimal, IsRewritten}
use Rattle.session_runs.specs.Causes.{IsLongCompacted}
use Rattle.session_runs.specs.Runs.{WriteStep, ReadStep, EraseStep, CompactStep}
use Rattle.session_runs.specs.steps.Serving.{Leads}
use Rattle.session_runs.specs.declared.command.Reply.TheVariants.{Done, Cells, Compacted}
use Rattle.session_runs.proofs.ShownLemmas.{shards, get_or-shown, shown_by_each}
use Rattle.session_runs.proofs.CauseLemmas.{cells_shown}

-- a cell's element, or another where it isn't there
element_or : Bytes → Option Bytes → Bytes
element_or d None = d
element_or d (Some e) = e

element_there : (d e : Bytes) (cell : Option Bytes) → cell ≡ Some e → element_or d cell ≡ e
unfolding element_or
element_there d e cell is = rw is refl

element_missing : (d : Bytes) (cell : Option Bytes) → cell ≡ None → element_or d cell ≡ d
unfolding element_or
element_missing d cell is = rw is refl

module _ (inner index : Meaning) (sub : List ℕ) (location : ShardingIndexLocation) (order : SubchunkWriteOrder) (g : ArraySpec) where
  abbrev s : Shards
  s = shards inner index sub location order g

  abbrev cells : Option Bytes → List (Option Bytes)
  cells o = object_cells (shard_cells inner.cells index.cells s.layout) g o

  counted : (o : Option Bytes) → length (cells o) ≡ count_of g.shape
  counted o = length-object_cells inner.cells index.cells s.layout g o refl

  -- ---- writes
  module _ (subset : Subset) (update : Elements) (old new : Option Bytes) (m : CellMap) (shows : Shows s old m) (over : AreOverlaid g.shape subset update (cells old) (cells new)) where
    abbrev after : CellMap
    after i = element_or (m i) (get_or (cells new) i None)

    old_cell : (i : ℕ) → i < count_of g.shape → get_or (cells old) i None ≡ Some (m i)
    old_cell i below = ap (λ t. get_or t i None) shows ∙ get_or-shown g m i below

    overridden : IsOverridden g subset update m after
    overridden = record {
      inside = λ q lt. element_there _ _ _ (over.inside q lt);
      outside = λ i off. elim (cases_lt i (count_of g.shape)) [
        | inl below ↦ element_there _ _ _ (over.outside i off ∙ old_cell i below)
        | inr above ↦ element_missing _ _ (get_or_past (cells new) i None (omega (arith, above, counted new)))
      ];
    }

    new_cell : (i : ℕ) → i < count_of g.shape → get_or (cells new) i None ≡ Some (after i)
    new_cell i below =
        let many : length (numbers_in subset g.shape) ≡ count_of subset.shape = length-map-range_with_len (number_in subset g.shape) 0 (count_of subset.shape) in
        let at : (q : ℕ) → q < count_of subset.shape → get_or (numbers_in subset g.shape) q 0 ≡ number_in subset g.shape q
        = λ q lt. get_or-map-range_with_len (number_in subset g.shape) 0 (count_of subset.shape) q q 0 lt (omega arith) in
        elim (in_list (numbers_in subset g.shape) i) [
          | inl found ↦
              let lt : found.0 < count_of subset.shape = omega (arith, found.1, many) in
              let here : number_in subset g.shape found.0 ≡ i = sym (at found.0 lt) ∙ found.2 in
              let there : get_or (cells new) i None ≡ Some (get_or update found.0 []) = ap (λ j. get_or (cells new) j None) (sym here) ∙ over.inside found.0 lt in
              there ∙ ap Some (sym (element_there _ _ _ there))
          | inr off ↦
              let there : get_or (cells new) i None ≡ Some (m i)
              = over.outside i (λ q lt is. off q (omega (arith, many, lt)) (at q lt ∙ is)) ∙ old_cell i below in
              there ∙ ap Some (sym (element_there _ _ _ there))
        ]

    after_shown : Shows s new after
    after_shown = shown_by_each g after (cells new) (counted new) new_cell

  pub write_leads : (subset : Subset) (update : Array) (old new : Option Bytes) → IsUpdateOf g.shape g.data_type (subset_selection subset) update
      → IsObjectWritten s subset update.elements old new → AreOverlaid g.shape subset update.elements (cells old) (cells new)
      → Leads s (λ m m'. WriteStep s subset update m old Done m' new) old new
  write_leads subset update old new fits written over =
      λ m shows. (after subset update.elements old new m shows over, (fits, overridden subset update.elements old new m shows over, written), after_shown subset update.elements old new m shows over)

  -- ---- erases
  pub erase_leads : (old new : Option Bytes) → new ≡ None → Leads s (λ m m'. EraseStep s Done m' new) old new
  erase_leads old new gone = λ m shows.
      (filled g, (refl, gone), rw gone (shown_by_each g (filled g) (cells None) (counted None) (λ i below. get_or-replicate (count_of g.shape) i (Some g.fill) None below)))

  -- ---- reads
  pub read_leads : (selection : Selection) (array : Array) (old new : Option Bytes) → MatchesSubset selection → IsAnswer g selection array → new ≡ old
      → cells_at (cells old) g.shape selection.points ≡ map Some array.elements
      → Leads s (λ m m'. ReadStep s selection m old (Cells array) m' new) old new
  read_leads selection array old new by_subset answer same read = λ m shows. (
    m,
    (
      (refl, same),
      answer,
      same_elements array.elements (elements_at g m selection.points) (sym read ∙ cells_shown g m (cells old) selection.points shows (selection_inside g.shape selection by_subset answer.selected)),
    ),
    ap cells same ∙ shows,
  )

  -- ---- refusals
  pub refused_leads : (step : CellMap → CellMap → Type 0) (old new : Option Bytes) → new ≡ old → ((m : CellMap) → Shows s old m → step m m) → Leads s step old new
  refused_leads step old new same why = λ m shows. (m, why m shows, ap cells same ∙ shows)

  -- ---- compactions
  moved_placed : (old new : Bytes) (t u : Slot) (write_offset : ℕ) → IsMoved old t write_offset new u → data_start location s.layout.index_size ≤ write_offset
      → write_offset + slot_size t ≤ data_end location s.layout.index_size (length new) → IsInDataPart location s.layout.index_size (length new) u
  moved_placed old new Absent u write_offset moved appended inside = rw moved tt
  moved_placed old new (InRange offset n) u write_offset moved appended inside = rw moved.0 (appended, inside)
  moved_placed old new Bad u write_offset moved appended inside = absurd moved

  room_after : (at : ShardingIndexLocation) (size taken len : ℕ) → len ≡ size + taken → data_start at size + taken ≤ data_end at size len
  room_after Start size taken len h = omega arith
  room_after End size taken len h = omega arith

  module _ (index_law : (e : Elements) (bytes : Bytes) → IsArrayOf (index_spec (grid_of g.shape sub)) e → index.written e bytes → index.cells bytes ≡ map Some e) where
    -- what was compacted has an index, and its slices lie in the data part
    pub compacted_sound : (old new : Bytes) → IsCompacted index s.layout old new → HasSoundIndex s new
    compacted_sound old new h =
        let r = h.rewritten in
        let n : ℕ = count_of (grid_of g.shape sub) in
        let was : ℕ → Slot = λ k. slot_at (length old) h.old_numbers k in
        let room : data_start location s.layout.index_size + present_size was n ≤ data_end location s.layout.index_size (length new)
        = room_after location s.layout.index_size (present_size was n) (length new) r.long in
        record {
          numbers = r.numbers;
          told = numbers_of_index index.cells index.written sub g location s.layout.index_size new r.numbers index_law (omega (arith, r.long)) r.counted r.below r.index;
          placed = λ k below.
              moved_placed old new (was k) (slot_at (length new) r.numbers k) (data_start location s.layout.index_size + present_size was k) (r.moved k below) (omega arith)
              (omega (arith, room, sum_more (λ j. slot_size (was j)) k, sum_grows_to (λ j. slot_size (was j)) (k + 1) n (omega arith)));
        }

    pub rewritten_sound : (old : Option Bytes) (new : Bytes) → IsRewritten s old (Some new) → HasSoundIndex s new
    rewritten_sound None new h = absurd h
    rewritten_sound (Some b) new h = compacted_sound b new h

    pub rewritten_leads : (old new : Option Bytes) → Divides sub g.shape → IsRewritten s old new → Leads s (λ m m'. CompactStep s m old (Compacted true) m' new) old new
    rewritten_leads None new divides h = absurd h
    rewritten_leads (Some b) None divides h = absurd h
    rewritten_leads (Some b) (Some c) divides h = λ m shows. (m, (refl, h), cells_of_compacted inner.cells index sub location order s.layout.index_size g b c divides index_law h ∙ shows)

    pub rewritten_long : (old : Option Bytes) (new : Bytes) → IsRewritten s old (Some new) → 2 ^ 64 ≤ length new + 1 → IsLongCompacted s old
    rewritten_long None new h long = absurd h
    rewritten_long (Some b) new h long = (h.old_numbers, h.read.told, omega (arith, h.rewritten.long, long))

  pub minimal_leads : (old new : Option Bytes) → new ≡ old → IsMinimal s old → Leads s (λ m m'. CompactStep s m old (Compacted false) m' new) old new
  minimal_leads old new same minimal = λ m shows. (m, ((refl, same), minimal), ap cells same ∙ shows)
