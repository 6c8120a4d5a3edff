-- The cells after a write are the old ones, and in the subset those of the update.
use Rattle.std.proofs.Common.{◌≡◌, ◌≢◌, ℕ, ◌<◌, inl, inr, List, [], Option, Some, None, length, get_or, map, refl, sym, ap, ◌∙◌, subst, arith}
use Rattle.std.proofs.lemmas.Bool.{cases_lt}
use Rattle.std.proofs.lemmas.List.{get_or_past, get_or-map, length-map}
use Rattle.parts_errors.specs.Words.{Elements, CellsOf, CellList}
use Rattle.parts_row_major.specs.Numbering.{count_of, number_of}
use Rattle.parts_row_major.specs.Subsets.{Subset, LiesIn, number_in}
use Rattle.parts_subsets.specs.Grid.{Divides, grid_of, subchunk_number, position_number, cell_number}
use Rattle.parts_subsets.specs.Touched.{Touches}
use Rattle.parts_arrays.specs.ArraySpec.{ArraySpec, IsArrayOf}
use Rattle.parts_subsets.proofs.GridLaws.{subchunk_number-below, position_number-below, cell_number-located}
use Rattle.parts_row_major.proofs.PieceLaws.{number_in_below}
use Rattle.storage_handles.specs.Writes.{bytes_of}
use Rattle.codec_traits.specs.Meanings.{Meaning}
use Rattle.codec_traits.specs.Reads.{cells_at}
use Rattle.sharding_format.specs.Index.{slot_at}
use Rattle.sharding_format.specs.Cells.{cell_in, indexed_cell}
use Rattle.sharding_format.specs.Laws.{cell_of_standing}
use Rattle.sharding_format.specs.Packing.{slice_of}
use Rattle.sharding_format.specs.declared.location.ShardingIndexLocation.{ShardingIndexLocation}
use Rattle.sharding_format.specs.declared.slot.Slot.{Slot}
use Rattle.sharding_format.specs.declared.slot.Slot.TheVariants.{Absent, InRange, Bad}
use Rattle.sharding_write.specs.Writing.{IsNew, IsWriteOf, AreOverlaid, AreReadAfter, layout_from}
use Rattle.sharding_write.proofs.AnewLemmas.{in_list}

-- a slot that keeps its bytes keeps its cells
same_slice : (inner_cells : CellsOf) (fill old new : List ℕ) (s : Slot) (p : ℕ) → slice_of new s ≡ slice_of old s → cell_in inner_cells fill new s p ≡ cell_in inner_cells fill old s p
same_slice inner_cells fill old new Absent p h = refl
same_slice inner_cells fill old new (InRange o n) p h = ap (λ b. get_or (inner_cells b) p None) h
same_slice inner_cells fill old new Bad p h = refl

same_slot : (inner_cells : CellsOf) (fill old new : List ℕ) (s t : Slot) (p : ℕ) → s ≡ t → slice_of new s ≡ slice_of old t → cell_in inner_cells fill new s p ≡ cell_in inner_cells fill old t p
same_slot inner_cells fill old new s t p is h = ap (λ x. cell_in inner_cells fill new x p) is ∙ same_slice inner_cells fill old new t p (ap (slice_of new) (sym is) ∙ h)

module _ (inner index : Meaning) (shape : List ℕ) (sub_g : ArraySpec) (location : ShardingIndexLocation) (size : ℕ) (subset : Subset) (update : Elements) (old : Option (List ℕ)) (numbers : List ℕ) (new : Option (List ℕ)) (new_numbers : List ℕ)
    (divides : Divides sub_g.shape shape) (inside : LiesIn subset shape)
    (law : (e : Elements) (bytes : List ℕ) → IsArrayOf sub_g e → inner.written e bytes → inner.cells bytes ≡ map Some e)
    (w : IsWriteOf inner index (layout_from shape sub_g location size) sub_g subset update old numbers new new_numbers) where
  abbrev pub old_cell : ℕ → Option (List ℕ)
  old_cell i = indexed_cell inner.cells shape sub_g.shape sub_g.fill (bytes_of old) numbers i

  abbrev pub new_cell : ℕ → Option (List ℕ)
  new_cell i = indexed_cell inner.cells shape sub_g.shape sub_g.fill (bytes_of new) new_numbers i

  module _ (i : ℕ) (below : i < count_of shape) where
    abbrev k : ℕ
    k = subchunk_number shape sub_g.shape i

    abbrev p : ℕ
    p = position_number shape sub_g.shape i

    k_below : k < count_of (grid_of shape sub_g.shape)
    k_below = subchunk_number-below shape sub_g.shape divides i below

    p_below : p < count_of sub_g.shape
    p_below = position_number-below shape sub_g.shape divides i below

    located : cell_number shape sub_g.shape k p ≡ i
    located = cell_number-located shape sub_g.shape divides i below

    -- a cell of a touched subchunk is the one that stands there
    stands : (n : IsNew inner (layout_from shape sub_g location size) sub_g subset update (bytes_of old) numbers (bytes_of new) new_numbers k) → new_cell i ≡ Some (get_or n.elements p [])
    stands n =
        cell_of_standing inner.cells inner.written sub_g (layout_from shape sub_g location size) (bytes_of new) n.elements (slot_at (length (bytes_of new)) new_numbers k) p law n.cells.array
        (omega (arith, p_below, n.cells.array.counted)) n.stands

    pub given_cell : (q : ℕ) → q < count_of subset.shape → number_in subset shape q ≡ i → new_cell i ≡ Some (get_or update q [])
    given_cell q lt is =
        let n = w.stand k k_below (q, lt, ap (subchunk_number shape sub_g.shape) is) in
        stands n ∙ ap Some (n.cells.given p q p_below lt (located ∙ sym is))

    pub kept_cell : ((q : ℕ) → q < count_of subset.shape → number_in subset shape q ≢ i) → new_cell i ≡ old_cell i
    kept_cell off = elim (in_list w.touched k) [
      | inl found ↦
          let n = w.stand k k_below (subst (λ m. Touches shape sub_g.shape subset m) found.2 (w.are_touched.touched found.0 found.1)) in
          stands n ∙ sym (n.cells.kept p p_below (λ q lt is. off q lt (sym is ∙ located)))
      | inr other ↦
          let n = w.kept k k_below (λ touches. let found = w.are_touched.all k touches in other found.0 found.1 found.2) in
          same_slot inner.cells sub_g.fill (bytes_of old) (bytes_of new) (slot_at (length (bytes_of new)) new_numbers k) (slot_at (length (bytes_of old)) numbers k) p n.slot n.bytes
    ]

  -- so it is of all cells of the old object and of the new one
  pub overlaid : (old_cells new_cells : CellList) → length old_cells ≡ count_of shape → length new_cells ≡ count_of shape
      → ((i : ℕ) → i < count_of shape → get_or old_cells i None ≡ old_cell i) → ((i : ℕ) → i < count_of shape → get_or new_cells i None ≡ new_cell i)
      → AreOverlaid shape subset update old_cells new_cells
  overlaid old_cells new_cells old_counted new_counted old_are new_are = record {
    inside = λ q lt.
        let below = number_in_below subset shape q inside lt in
        new_are (number_in subset shape q) below ∙ given_cell (number_in subset shape q) below q lt refl;
    outside = λ i off. elim (cases_lt i (count_of shape)) [
      | inl below ↦ new_are i below ∙ kept_cell i below off ∙ sym (old_are i below)
      | inr above ↦ get_or_past new_cells i None (omega (arith, above, new_counted)) ∙ sym (get_or_past old_cells i None (omega (arith, above, old_counted)))
    ];
  }

some_same : (x y : List ℕ) → Some x ≡ Some y → x ≡ y
some_same x y h = cc

-- what is read after it
pub read_after : (shape : List ℕ) (subset : Subset) (update : Elements) (old new : CellList) (points : List (List ℕ)) (elements : Elements)
    → AreOverlaid shape subset update old new → cells_at new shape points ≡ map Some elements → AreReadAfter shape subset update old points elements
read_after shape subset update old new points elements overlaid read =
    let at : List ℕ → Option (List ℕ) = λ point. get_or new (number_of point shape) None in
    let many : length points ≡ length elements = sym (length-map points at) ∙ ap length read ∙ length-map elements Some in
    let each : (j : ℕ) → j < length points → Some (get_or elements j []) ≡ get_or new (number_of (get_or points j []) shape) None = λ j below.
    sym (get_or-map Some elements j [] None (omega (arith, below, many))) ∙ ap (λ cells. get_or cells j None) (sym read) ∙ get_or-map at points j [] None below in
    record {
      written = λ j q below lt is. some_same (get_or elements j []) (get_or update q []) (each j below ∙ ap (λ i. get_or new i None) (sym is) ∙ overlaid.inside q lt);
      kept = λ j below off. sym (each j below ∙ overlaid.outside (number_of (get_or points j []) shape) off);
    }
