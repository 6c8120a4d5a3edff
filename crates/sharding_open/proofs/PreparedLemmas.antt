-- What a session holds after a write, and what the cells of the object are then.
use Rattle.std.proofs.Common.{◌≡◌, ℕ, ◌+◌, ◌*◌, ◌^◌, ◌<◌, IsTrue, List, [], ◌∷◌, Option, Some, None, IfSome, IfNone, length, replicate, get_or, map, refl, sym, ap, ◌∙◌, arith, Vec, Global}
use Rattle.std.proofs.lemmas.List.{get_or-replicate, length-replicate}
use Rattle.std.proofs.lemmas.List.FromFn.{get_or-map-range_with_len}
use Rattle.std.proofs.lemmas.List.Elements.{All-head, All-tail}
use Rattle.parts_errors.specs.Words.{Bytes, Elements, Written, CellsOf}
use Rattle.parts_row_major.specs.Numbering.{count_of}
use Rattle.parts_row_major.specs.Subsets.{Subset, LiesIn}
use Rattle.parts_subsets.specs.Grid.{Divides, grid_of, subchunk_number, position_number}
use Rattle.parts_arrays.specs.ArraySpec.{ArraySpec, IsArrayOf}
use Rattle.parts_subsets.specs.Selections.{Selection, subset_selection}
use Rattle.parts_subsets.proofs.GridLaws.{subchunk_number-below}
use Rattle.storage_handles.specs.Handles.{HandleState}
use Rattle.storage_handles.specs.Writes.{bytes_of}
use Rattle.codec_traits.specs.Meanings.{Meaning}
use Rattle.sharding_format.specs.Index.{absent_number, numbers_in_index}
use Rattle.sharding_format.specs.Cells.{Layout, cell_in, cell_by, indexed_cell, shard_cells}
use Rattle.sharding_format.specs.Laws.{length-shard_cells}
use Rattle.sharding_format.specs.Serves.{subchunk_spec, fixed_size, layout, layout_of}
use Rattle.sharding_format.specs.declared.index.ShardIndex.{ShardIndex}
use Rattle.sharding_format.specs.declared.location.ShardingIndexLocation.{ShardingIndexLocation}
use Rattle.sharding_format.specs.declared.order.SubchunkWriteOrder.{SubchunkWriteOrder}
use Rattle.sharding_write.specs.Writing.{AreAbsent, HoldsNumbers, IsCachedIndex, IsStoredAs, AreOverlaid, layout_from}
use Rattle.sharding_write.specs.steps.Changes.{object_after}
use Rattle.sharding_write.specs.declared.change.Change.{Change}
use Rattle.sharding_write.specs.declared.change.Change.TheVariants.{Erase, Replace, Append}
use Rattle.sharding_write.proofs.AnewLemmas.{entry_absent}
use Rattle.sharding_write.proofs.WrittenLemmas.{absent_slot}
use Rattle.sharding_write.proofs.OverlayLemmas.{overlaid}
use Rattle.sharding_engine.specs.Meanings.{sharded_meaning}
use Rattle.sharding_open.specs.Cached.{HoldsIndex, cached_len, cached_numbers, object_cells}
use Rattle.sharding_open.specs.OpenShards.{IsKnown}
use Rattle.sharding_open.specs.OpenSessions.{numbers_cached, numbers_in, IsOpenSession}
use Rattle.sharding_open.specs.PreparedWrites.{IsWrittenTo, cached_after}
use Rattle.sharding_open.specs.declared.session.OpenSession.{OpenSession}
use Rattle.sharding_open.proofs.SessionLemmas.{AreTested, HasRoom, cached_open, holds_none}

-- what is held after a prepared write
module _ (location : ShardingIndexLocation) (size n len : ℕ) (numbers : Vec ℕ Global) (is_cached : IsCachedIndex location size n len numbers.items) where
  room_after : (change : Change) → cached_len (cached_after change len numbers) + 1 < 2 ^ 64
  room_after Erase = omega arith
  room_after (Replace shard) = is_cached.room
  room_after (Append slices write_offset index index_offset) = is_cached.room

  counted_after : (change : Change) → IfSome (cached_numbers (cached_after change len numbers)) (λ ns. length ns ≡ 2 * n)
  counted_after Erase = tt
  counted_after (Replace shard) = is_cached.counted
  counted_after (Append slices write_offset index index_offset) = is_cached.counted

  holds_after : (index_of : List ℕ → Option (List ℕ)) (contents old : Option Bytes) (change : Change) → contents ≡ object_after change old
      → HoldsNumbers index_of (object_after change old) len numbers.items → HoldsIndex index_of contents (cached_len (cached_after change len numbers)) (cached_numbers (cached_after change len numbers))
  holds_after index_of contents old Erase is h = holds_none index_of contents is
  holds_after index_of contents old (Replace shard) is h = rw is h
  holds_after index_of contents old (Append slices write_offset index index_offset) is h = rw is h

  tested_after : (change : Change) → AreTested location size (cached_after change len numbers)
  tested_after Erase = tt
  tested_after (Replace shard) = λ k below. is_cached.placed k (omega (arith, below, is_cached.counted))
  tested_after (Append slices write_offset index index_offset) = λ k below. is_cached.placed k (omega (arith, below, is_cached.counted))

  enough_after : (change : Change) → HasRoom size (cached_after change len numbers)
  enough_after Erase = tt
  enough_after (Replace shard) = is_cached.long_enough
  enough_after (Append slices write_offset index index_offset) = is_cached.long_enough

-- what a session holds after a write
pub write_open : {H : Type 0} (meaning : ArraySpec → Meaning) (index : (grid : List ℕ) → Meaning) (location : ShardingIndexLocation) (sub : List ℕ) (state : H → HandleState) (old new : H)
    (opened left : OpenSession) (change : Change) (len : ℕ) (numbers : Vec ℕ Global)
    → IsOpenSession meaning index location sub state old opened
    → IsCachedIndex location opened.plan.size (count_of (grid_of opened.shard.shape sub)) len numbers.items
    → (IsTrue (state old).transparent → HoldsNumbers (numbers_in (index (grid_of opened.shard.shape sub)) location) (object_after change (state old).contents) len numbers.items)
    → (IsTrue (state new).transparent → IsTrue (state old).transparent × ((state new).contents ≡ object_after change (state old).contents))
    → left.shard ≡ record opened.shard { cached = cached_after change len numbers }
    → left.plan ≡ opened.plan
    → IfNone left.shard.cached (left.blank.items ≡ replicate (length numbers.items) absent_number)
    → IsOpenSession meaning index location sub state new left
write_open meaning index location sub state old new opened left change len numbers h is_cached told made shard plan blank =
    let known = h.known in
    let n = count_of (grid_of opened.shard.shape sub) in
    let size = opened.plan.size in
    let after : IsKnown meaning (λ g. numbers_in (index (grid_of g.shape sub)) location) sub state new (record opened.shard { cached = cached_after change len numbers }) = record {
      serves = known.serves;
      room = room_after location size n len numbers is_cached change;
      counted = counted_after location size n len numbers is_cached change;
      cached = λ t. holds_after location size n len numbers is_cached (numbers_in (index (grid_of opened.shard.shape sub)) location) (state new).contents (state old).contents change (made t).1 (told (made t).0);
      cells = known.cells;
      grid = known.grid;
      subchunks = known.subchunks;
    } in
    let same_shape : left.shard.shape ≡ opened.shard.shape = ap (λ s. s.shape) shard in
    cached_open meaning index location sub state new left (rw shard after) (rw plan h.plan) (rw (plan, same_shape) h.grid)
    (rw same_shape (rw is_cached.counted at blank)) (rw (plan, shard) (tested_after location size n len numbers is_cached change)) (rw (plan, shard) (enough_after location size n len numbers is_cached change))

all_absent : (ns : List ℕ) → AreAbsent ns → ns ≡ replicate (length ns) absent_number
all_absent [] h = refl
all_absent (n ∷ ns) h = rw (All-head (λ x. x ≡ absent_number) n ns h, ← all_absent ns (All-tail (λ x. x ≡ absent_number) n ns h)) refl

-- the numbers that a session holds after a write are those of the index that was written
pub numbers_after : (index_written : Written) (l : Layout) (subset : Subset) (touched old numbers : List ℕ) (contents : Option Bytes) (change : Change) (len : ℕ) (new : Vec ℕ Global)
    (cached : Option ShardIndex) (blank : List ℕ) → cached ≡ cached_after change len new → IfNone cached (blank ≡ replicate (length new.items) absent_number)
    → IsStoredAs index_written l subset touched old numbers (object_after change contents) new.items → numbers_cached cached blank ≡ new.items
numbers_after index_written l subset touched old numbers contents Erase len new cached blank is h stored =
    let gone : blank ≡ replicate (length new.items) absent_number = rw is at h in
    rw is (gone ∙ sym (all_absent new.items stored))
numbers_after index_written l subset touched old numbers contents (Replace shard) len new cached blank is h stored = rw is refl
numbers_after index_written l subset touched old numbers contents (Append slices write_offset index index_offset) len new cached blank is h stored = rw is refl

-- what was written is what the object and the held numbers are then
pub written_after : (inner index : Meaning) (location : ShardingIndexLocation) (sub_g g : ArraySpec) (selection : Selection) (subset : Subset)
    (update : Elements) (old left : Option Bytes) (numbers : List ℕ) (change : Change) (len : ℕ) (new : Vec ℕ Global) (cached : Option ShardIndex) (blank : List ℕ)
    → selection ≡ subset_selection subset → left ≡ object_after change old → cached ≡ cached_after change len new → IfNone cached (blank ≡ replicate (length new.items) absent_number)
    → IsWrittenTo inner index location sub_g g subset update old numbers (object_after change old) new.items
    → IfSome selection.subset (λ subset. IsWrittenTo inner index location sub_g g subset update old numbers left (numbers_cached cached blank))
written_after inner index location sub_g g selection subset update old left numbers change len new cached blank spec is holds gone w =
    let same : numbers_cached cached blank ≡ new.items = numbers_after index.written (layout_from g.shape sub_g location (fixed_size index.representation)) subset w.touched (bytes_of old) numbers old change len new cached blank holds gone w.stored in
    rw (spec, is, same) w

-- a cell of an object, by the numbers of its index
pub object_cell : (inner_cells index_cells : CellsOf) (sub : List ℕ) (location : ShardingIndexLocation) (order : SubchunkWriteOrder) (size : ℕ) (g : ArraySpec) (contents : Option Bytes) (len : ℕ) (numbers : List ℕ)
    → Divides sub g.shape → length numbers ≡ 2 * count_of (grid_of g.shape sub) → HoldsNumbers (numbers_in_index index_cells location size) contents len numbers → (i : ℕ) → i < count_of g.shape
    → get_or (object_cells (shard_cells inner_cells index_cells (layout_of sub location order size g)) g contents) i None ≡ indexed_cell inner_cells g.shape sub g.fill (bytes_of contents) numbers i
unfolding shard_cells
object_cell inner_cells index_cells sub location order size g None len numbers divides counted h i below =
    let k = subchunk_number g.shape sub i in
    let entry = entry_absent numbers (count_of (grid_of g.shape sub)) k counted h.1 (subchunk_number-below g.shape sub divides i below) in
    get_or-replicate (count_of g.shape) i (Some g.fill) None below ∙ sym (ap (λ s. cell_in inner_cells g.fill [] s (position_number g.shape sub i)) (absent_slot 0 numbers k entry.0 entry.1))
object_cell inner_cells index_cells sub location order size g (Some b) len numbers divides counted h i below =
    rw h.1 (get_or-map-range_with_len (cell_by inner_cells (layout_of sub location order size g) b (Some numbers)) 0 (count_of g.shape) i i None below (omega arith))

pub length-object_cells : (inner_cells index_cells : CellsOf) (l : Layout) (g : ArraySpec) (contents : Option Bytes) → l.shape ≡ g.shape
    → length (object_cells (shard_cells inner_cells index_cells l) g contents) ≡ count_of g.shape
length-object_cells inner_cells index_cells l g None same = length-replicate (count_of g.shape) (Some g.fill)
length-object_cells inner_cells index_cells l g (Some b) same = length-shard_cells inner_cells index_cells l b ∙ ap count_of same

-- the cells after a write are the old ones, and in the subset those of the update
pub cells_after : (inner index : Meaning) (sub : List ℕ) (location : ShardingIndexLocation) (order : SubchunkWriteOrder) (g : ArraySpec) (subset : Subset) (update : Elements)
    (old new : Option Bytes) (len new_len : ℕ) (numbers new_numbers : List ℕ)
    → Divides sub g.shape → LiesIn subset g.shape
    → ((e : Elements) (bytes : List ℕ) → IsArrayOf (subchunk_spec sub g) e → inner.written e bytes → inner.cells bytes ≡ map Some e)
    → length numbers ≡ 2 * count_of (grid_of g.shape sub)
    → HoldsNumbers (numbers_in index location) old len numbers → HoldsNumbers (numbers_in index location) new new_len new_numbers
    → IsWrittenTo inner index location (subchunk_spec sub g) g subset update old numbers new new_numbers
    → AreOverlaid g.shape subset update (object_cells (sharded_meaning sub location order inner index g).cells g old) (object_cells (sharded_meaning sub location order inner index g).cells g new)
cells_after inner index sub location order g subset update old new len new_len numbers new_numbers divides inside law counted told new_told w =
    let size = fixed_size index.representation in
    let l = layout sub location order index.representation g in
    overlaid inner index g.shape (subchunk_spec sub g) location size subset update old numbers new new_numbers divides inside law w
    (object_cells (sharded_meaning sub location order inner index g).cells g old) (object_cells (sharded_meaning sub location order inner index g).cells g new)
    (length-object_cells inner.cells index.cells l g old refl) (length-object_cells inner.cells index.cells l g new refl)
    (object_cell inner.cells index.cells sub location order size g old len numbers divides counted told)
    (object_cell inner.cells index.cells sub location order size g new new_len new_numbers divides w.counted new_told)
