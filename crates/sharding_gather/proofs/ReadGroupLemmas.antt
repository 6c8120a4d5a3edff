-- Reads of the groups of requested cells, by their subchunks in ascending order.
use Rattle.std.proofs.Common.{◌≡◌, ◌≢◌, ℕ, ◌<◌, List, [], ◌∷◌, Option, Some, None, IsTrue, ◌⊎◌, inl, inr, length, map, get_or, refl, sym, ap, ◌∙◌, arith, Vec, Global}
use Rattle.std.proofs.lemmas.Bool.Decides.{leb_tells}
use Rattle.std.specs.List.{All}
use Rattle.std.proofs.lemmas.List.{get_or-map, length-map}
use Rattle.std.proofs.lemmas.List.Elements.{All-from_get_or}
use Rattle.parts_errors.specs.Order.{done, RefusedBy}
use Rattle.parts_row_major.specs.Numbering.{count_of}
use Rattle.parts_subsets.specs.Grid.{grid_of}
use Rattle.parts_arrays.specs.Arrays.{Array}
use Rattle.parts_errors.specs.declared.error.CodecError.{CodecError}
use Rattle.storage_handles.specs.declared.bytes.Interval.{Interval}
use Rattle.storage_handles.specs.Handles.{HandleState, IsRead}
use Rattle.storage_handles.specs.Objects.{interval_part, HasInterval, ObjectRefusals}
use Rattle.sharding_format.specs.Index.{slot_at}
use Rattle.codec_traits.specs.CellLaws.{all_there-map_some}
use Rattle.sharding_format.specs.ReadRefusals.{positions_in, HasPositions, RefusesPositions, PositionsRefusals}
use Rattle.sharding_gather.specs.steps.Grouping.{AreUsed, AreGrouped, lists_of}
use Rattle.sharding_gather.specs.declared.grouping.Grouping.{Grouping}
use Rattle.sharding_format.specs.steps.Reading.{IsReadAt}
use Rattle.sharding_format.specs.declared.slot.Slot.{Slot}
use Rattle.sharding_format.specs.declared.slot.Slot.TheVariants.{Absent, InRange, Bad}
use Rattle.codec_traits.proofs.ReadLemmas.{length-interval_part}

-- a group has a list of places
pub group_below : (groups : Grouping) → length groups.positions.items ≡ length groups.subchunks.items → (j : ℕ) → j < length groups.subchunks.items → j < length (lists_of groups)
group_below groups counted j below = omega (arith, length-map groups.positions.items (λ positions. positions.items), counted)

-- which is what is read of it
pub group_read : (groups : Grouping) → length groups.positions.items ≡ length groups.subchunks.items → (j : ℕ) → j < length groups.subchunks.items
    → (positions : Vec ℕ Global) (items : List ℕ) → positions ≡ get_or groups.positions.items j positions → items ≡ positions.items → items ≡ get_or (lists_of groups) j []
group_read groups counted j below positions items is read =
    let items_of : Vec ℕ Global → List ℕ = λ positions. positions.items in
    read ∙ ap items_of is ∙ sym (get_or-map items_of groups.positions.items j positions [] (omega (arith, counted)))

-- a group for each subchunk in which cells are asked
pub groups_counted : {shape sub numbers : List ℕ} {groups : Grouping} → AreGrouped shape sub numbers groups → length groups.positions.items ≡ length groups.subchunks.items
groups_counted {shape} {sub} {numbers} {groups} requested =
    sym (length-map groups.positions.items (λ positions. positions.items)) ∙ ap length requested.positions ∙ length-map groups.subchunks.items (positions_in shape sub numbers)

-- one read after another
pub read_then : (a b c : HandleState) → IsRead a b → IsRead b c → IsRead a c
read_then a b c h k = record {
  transparent_same = k.transparent_same ∙ h.transparent_same;
  contents_same = k.contents_same ∙ h.contents_same;
  faults_kept = omega (arith, h.faults_kept, k.faults_kept);
  supports_same = k.supports_same ∙ h.supports_same;
}

pub is_empty : (xs : List ℕ) → (xs ≡ []) ⊎ (xs ≢ [])
is_empty [] = inl refl
is_empty (x ∷ xs) = inr (λ is. cc)

-- of a subchunk of which no cells are asked, all that are asked are there
pub unused : (inner_cells : List ℕ → List (Option (List ℕ))) (bytes : List ℕ) (slot : Slot) (positions : List ℕ) → positions ≡ [] → HasPositions inner_cells bytes slot positions
unused inner_cells bytes Absent positions none = tt
unused inner_cells bytes (InRange offset size) positions none = rw none refl
unused inner_cells bytes Bad positions none = none

-- cells that were read are there
pub there : (inner_cells : List ℕ → List (Option (List ℕ))) (bytes : List ℕ) (slot : Slot) (positions : List ℕ) (found : Option Array) → IsReadAt inner_cells bytes slot positions found → HasPositions inner_cells bytes slot positions
there inner_cells bytes Absent positions found h = tt
there inner_cells bytes (InRange offset size) positions None h = absurd h
there inner_cells bytes (InRange offset size) positions (Some a) h = rw (h, all_there-map_some a.elements) refl
there inner_cells bytes Bad positions found h = absurd h

module _ (shape sub numbers subchunks : List ℕ) (lists : List (List ℕ))
    (used : AreUsed shape sub numbers subchunks) (are : lists ≡ map (positions_in shape sub numbers) subchunks) where
  -- the list of a group
  pub list_at : (j : ℕ) → j < length subchunks → get_or lists j [] ≡ positions_in shape sub numbers (get_or subchunks j 0)
  list_at j below = ap (λ xs. get_or xs j []) are ∙ get_or-map (positions_in shape sub numbers) subchunks j 0 [] below

  -- some places of it are asked
  pub some_at : (j : ℕ) → j < length subchunks → get_or lists j [] ≢ []
  some_at j below none = used.requested j below (sym (list_at j below) ∙ none)

  -- lower subchunks have earlier groups
  earlier : (i j : ℕ) → i < length subchunks → j < length subchunks → get_or subchunks i 0 < get_or subchunks j 0 → i < j
  earlier i j i_below j_below lower =
      elim (leb_tells j i) [
        | inl not_below ↦ elim (leb_tells i j) [
          | inl not_above ↦ let same : i ≡ j = omega (arith, not_below.1, not_above.1) in absurd (omega (arith, lower, ap (λ n. get_or subchunks n 0) same))
          | inr above ↦ absurd (omega (arith, lower, used.rising j i above.1 i_below))
        ]
        | inr first ↦ first.1
      ]

  module _ (inner_read : List ℕ → List (List ℕ) → CodecError → Type 0) (inner_cells : List ℕ → List (Option (List ℕ))) (bytes index : List ℕ) (size : ℕ) (parts : List (Option Array)) (j : ℕ) (below : j < length subchunks)
      (read : (i : ℕ) → i < j → IsReadAt inner_cells bytes (slot_at size index (get_or subchunks i 0)) (get_or lists i []) (get_or parts i None)) where
    -- what is asked of the subchunks before a group is there
    before_there : (k : ℕ) → k < get_or subchunks j 0 → HasPositions inner_cells bytes (slot_at size index k) (positions_in shape sub numbers k)
    before_there k lower =
        elim (is_empty (positions_in shape sub numbers k)) [
          | inl none ↦ unused inner_cells bytes (slot_at size index k) (positions_in shape sub numbers k) none
          | inr some ↦
              let i = (used.all k some).0 in
              let i_below : i < length subchunks = (used.all k some).1 in
              let is : get_or subchunks i 0 ≡ k = (used.all k some).2 in
              let first : i < j = earlier i j i_below below (omega arith) in
              let h = there inner_cells bytes (slot_at size index (get_or subchunks i 0)) (get_or lists i []) (get_or parts i None) (read i first) in
              rw (list_at i i_below, is) at h
        ]

    -- the first group that is refused
    refused_at : (e : CodecError) → size ≡ length bytes → get_or subchunks j 0 < count_of (grid_of shape sub)
        → RefusesPositions inner_read inner_cells sub bytes (slot_at size index (get_or subchunks j 0)) (get_or lists j []) (get_or subchunks j 0) e
        → PositionsRefusals inner_read inner_cells shape sub bytes (Some index) numbers done e
    refused_at e long inside refused =
        inl (get_or subchunks j 0, (inside, rw long at before_there, rw (long, list_at j below) at refused))

  -- the first group that is refused, where the shard stands in an interval
  pub group_refused : (inner_read : List ℕ → List (List ℕ) → CodecError → Type 0) (inner_cells : List ℕ → List (Option (List ℕ))) (first old new : HandleState) (outer : Interval) (index : List ℕ) (parts : List (Option Array)) (j : ℕ) (e : CodecError)
      → IsRead first old → (IsTrue first.transparent → HasInterval outer first.contents) → j < length subchunks → get_or subchunks j 0 < count_of (grid_of shape sub)
      → (IsTrue first.transparent → (i : ℕ) → i < j
      → IsReadAt inner_cells (interval_part outer first.contents) (slot_at outer.size index (get_or subchunks i 0)) (get_or lists i []) (get_or parts i None))
      → RefusedBy (ObjectRefusals old new
      (RefusesPositions inner_read inner_cells sub (interval_part outer first.contents) (slot_at outer.size index (get_or subchunks j 0)) (get_or lists j []) (get_or subchunks j 0))) e
      → RefusedBy (ObjectRefusals first new (PositionsRefusals inner_read inner_cells shape sub (interval_part outer first.contents) (Some index) numbers done)) e
  group_refused inner_read inner_cells first old new outer index parts j e since has below inside read h =
      elim h [
        | inl memory ↦ inl memory
        | inr refused ↦ inr (λ t. elim (refused (rw since.transparent_same t)) [
          | inl fault ↦ inl (fault.0, omega (arith, since.faults_kept, fault.1))
          | inr positions ↦ inr (refused_at inner_read inner_cells (interval_part outer first.contents) index outer.size parts j below (read t) e (sym (length-interval_part outer first.contents (has t))) inside positions)
        ])
      ]

-- in each of which some cells are asked
pub groups_some : {shape sub numbers : List ℕ} {groups : Grouping} → AreGrouped shape sub numbers groups → All (λ positions. positions ≢ []) (lists_of groups)
groups_some {shape} {sub} {numbers} {groups} requested =
    let counted : length (lists_of groups) ≡ length groups.subchunks.items = ap length requested.positions ∙ length-map groups.subchunks.items (positions_in shape sub numbers) in
    All-from_get_or (λ (positions : List ℕ). positions ≢ []) (lists_of groups) []
    (λ j below. some_at shape sub numbers groups.subchunks.items (lists_of groups) requested.used requested.positions j (omega (arith, counted)))
