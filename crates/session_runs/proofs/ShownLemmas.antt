-- What a sound object shows of a map.
use Rattle.std.proofs.Common.{◌≡◌, ℕ, ◌*◌, ◌<◌, List, [], Option, Some, None, length, get_or, map, take, drop, sym, ap, ◌∙◌, arith}
use Rattle.std.proofs.lemmas.List.{get_or-map, length-map, ext_get_or}
use Rattle.std.proofs.lemmas.List.FromFn.{get_or-map-range_with_len, length-map-range_with_len}
use Rattle.parts_errors.specs.Words.{Bytes}
use Rattle.parts_arrays.specs.ArraySpec.{ArraySpec}
use Rattle.parts_row_major.specs.Numbering.{count_of}
use Rattle.parts_subsets.specs.Grid.{Divides, grid_of, subchunk_number, cell_number}
use Rattle.parts_subsets.proofs.GridLaws.{cell_number-below, subchunk_number-cell_number, position_number-cell_number, length-subchunk, get_or-subchunk}
use Rattle.storage_handles.specs.Writes.{bytes_of}
use Rattle.codec_traits.specs.Meanings.{Meaning}
use Rattle.sharding_format.specs.Index.{slot_at}
use Rattle.sharding_format.specs.Cells.{cell_in, indexed_cell}
use Rattle.sharding_format.specs.Serves.{layout}
use Rattle.sharding_format.specs.declared.location.ShardingIndexLocation.{ShardingIndexLocation}
use Rattle.sharding_format.specs.declared.order.SubchunkWriteOrder.{SubchunkWriteOrder}
use Rattle.sharding_format.specs.declared.slot.Slot.{Slot}
use Rattle.sharding_format.specs.declared.slot.Slot.TheVariants.{Absent, InRange}
use Rattle.sharding_write.specs.Writing.{HoldsNumbers, IsCachedIndex, cells_in}
use Rattle.sharding_open.proofs.PreparedLemmas.{object_cell}
use Rattle.session_runs.specs.Maps.{CellMap, elements_of}
use Rattle.session_runs.specs.Objects.{Shards, subchunks_in, index_numbers, Shows}
use Rattle.session_runs.specs.steps.Serving.{IsUsable}
use Rattle.session_runs.specs.Causes.{subchunk_elements}

-- the elements of a map, by number
pub length-elements_of : (g : ArraySpec) (m : CellMap) → length (elements_of g m) ≡ count_of g.shape
length-elements_of g m = length-map-range_with_len m 0 (count_of g.shape)

pub get_or-elements_of : (g : ArraySpec) (m : CellMap) (i : ℕ) (d : Bytes) → i < count_of g.shape → get_or (elements_of g m) i d ≡ m i
get_or-elements_of g m i d below = get_or-map-range_with_len m 0 (count_of g.shape) i i d below (omega arith)

-- as the cells of an object that shows it
pub get_or-shown : (g : ArraySpec) (m : CellMap) (i : ℕ) → i < count_of g.shape → get_or (map {B = Option Bytes} Some (elements_of g m)) i None ≡ Some (m i)
get_or-shown g m i below =
    get_or-map Some (elements_of g m) i [] None (omega (arith, length-elements_of g m)) ∙ ap Some (get_or-elements_of g m i [] below)

-- cells that are all there, each with the map's element
pub shown_by_each : (g : ArraySpec) (m : CellMap) (cells : List (Option Bytes)) → length cells ≡ count_of g.shape → ((i : ℕ) → i < count_of g.shape → get_or cells i None ≡ Some (m i))
    → cells ≡ map Some (elements_of g m)
shown_by_each g m cells counted each =
    ext_get_or None cells (map Some (elements_of g m)) (counted ∙ sym (length-map (elements_of g m) Some ∙ length-elements_of g m))
    (λ i below. let lt : i < count_of g.shape = omega (arith, counted) in each i lt ∙ sym (get_or-shown g m i lt))

-- an object is held as its index says: it is sound, and short
pub usable_cached : (s : Shards) (object : Option Bytes) (len : ℕ) (numbers : List ℕ) → HoldsNumbers (index_numbers s) object len numbers
    → IsCachedIndex s.layout.location s.layout.index_size (subchunks_in s) len numbers → IsUsable s object
usable_cached s None len numbers h cached = record { sound = tt; short = tt }
usable_cached s (Some b) len numbers h cached = record {
  sound = record { numbers = numbers; told = h.1; placed = λ k below. rw h.0 (cached.placed k below) };
  short = omega (arith, h.0, cached.room);
}

module _ (inner index : Meaning) (sub : List ℕ) (location : ShardingIndexLocation) (order : SubchunkWriteOrder) (g : ArraySpec) where
  abbrev pub shards : Shards
  shards = record { array_spec = g; inner = inner; index = index; layout = layout sub location order index.representation g }

  module _ (object : Option Bytes) (len : ℕ) (numbers : List ℕ) (m : CellMap) (divides : Divides sub g.shape) (counted : length numbers ≡ 2 * count_of (grid_of g.shape sub))
      (cached : HoldsNumbers (index_numbers shards) object len numbers) (shows : Shows shards object m) where
    -- the cell with a number is there, and has the map's element
    pub shown_cell : (i : ℕ) → i < count_of g.shape → indexed_cell inner.cells g.shape sub g.fill (bytes_of object) numbers i ≡ Some (m i)
    shown_cell i below =
        sym (object_cell inner.cells index.cells sub location order shards.layout.index_size g object len numbers divides counted cached i below)
        ∙ ap (λ cells. get_or cells i None) shows
        ∙ get_or-shown g m i below

    -- the cell at a place of a subchunk
    pub shown_position : (k p : ℕ) → k < count_of (grid_of g.shape sub) → p < count_of sub → cells_in inner.cells g.fill (bytes_of object) numbers k p ≡ Some (m (cell_number g.shape sub k p))
    shown_position k p hk hp =
        let i : ℕ = cell_number g.shape sub k p in
        let slot : ℕ → Slot = λ j. slot_at (length (bytes_of object)) numbers j in
        ap (λ j. cell_in inner.cells g.fill (bytes_of object) (slot j) p) (sym (subchunk_number-cell_number g.shape sub divides k p hk hp))
        ∙ ap (λ q. cell_in inner.cells g.fill (bytes_of object) (slot (subchunk_number g.shape sub i)) q) (sym (position_number-cell_number g.shape sub divides k p hk hp))
        ∙ shown_cell i (cell_number-below g.shape sub divides k p hk hp)

    -- the cells of a subchunk's slice are there, and have the map's elements
    pub shown_slice : (k offset size : ℕ) → k < count_of (grid_of g.shape sub) → slot_at (length (bytes_of object)) numbers k ≡ InRange offset size
        → length (inner.cells (take size (drop offset (bytes_of object)))) ≡ count_of sub
        → inner.cells (take size (drop offset (bytes_of object))) ≡ map Some (subchunk_elements shards m k)
    shown_slice k offset size hk is counted_slice =
        let cells = inner.cells (take size (drop offset (bytes_of object))) in
        let elements = subchunk_elements shards m k in
        let many : length elements ≡ count_of sub = length-subchunk g.shape sub (elements_of g m) k in
        ext_get_or None cells (map Some elements) (counted_slice ∙ sym (length-map elements Some ∙ many))
        (λ p below.
        let hp : p < count_of sub = omega (arith, counted_slice) in
        ap (λ t. cell_in inner.cells g.fill (bytes_of object) t p) (sym is)
        ∙ shown_position k p hk hp
        ∙ ap Some (sym (get_or-subchunk g.shape sub (elements_of g m) k p [] hp ∙ get_or-elements_of g m (cell_number g.shape sub k p) [] (cell_number-below g.shape sub divides k p hk hp)))
        ∙ sym (get_or-map Some elements p [] None (omega (arith, many))))

    -- a subchunk that is absent has the fill value in every cell of the map
    pub shown_absent : (k p : ℕ) → k < count_of (grid_of g.shape sub) → p < count_of sub → slot_at (length (bytes_of object)) numbers k ≡ Absent
        → get_or (subchunk_elements shards m k) p [] ≡ g.fill
    shown_absent k p hk hp is =
        let at : Some g.fill ≡ Some (m (cell_number g.shape sub k p)) = ap (λ t. cell_in inner.cells g.fill (bytes_of object) t p) (sym is) ∙ shown_position k p hk hp in
        let same : g.fill ≡ m (cell_number g.shape sub k p) = cc in
        get_or-subchunk g.shape sub (elements_of g m) k p [] hp ∙ get_or-elements_of g m (cell_number g.shape sub k p) [] (cell_number-below g.shape sub divides k p hk hp) ∙ sym same
