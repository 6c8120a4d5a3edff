-- A read of listed elements, as C tells and gets it.
use Rattle.std.specs.Prelude.{◌≡◌, ◌<◌, ◌≤◌, ◌*◌, ◌/◌, ◌%◌, ◌++◌, ℕ, List, [], ◌∷◌, Option, Some, None, length, drop, slice_index, slice_index_or}
use Rattle.std.specs.List.{All, flat_map, range_with_len}
use Rattle.parts_errors.specs.declared.error.CodecError.TheVariants.{InvalidNumberOfElements}
use Rattle.parts_subsets.specs.Selections.{IsSelectionOf, Selection, listed_selection, points_from}
use Rattle.sharding_format.specs.Compacting.{IsGood}
use Rattle.sharding_format.specs.ReadRefusals.{numbers_of}
use Rattle.sharding_format.specs.declared.slot.Slot.{Slot}
use Rattle.sharding_format.specs.declared.slot.Slot.TheVariants.{Absent, Bad}
use Rattle.sharding_gather.specs.declared.grouping.Grouping.{Grouping}
use Rattle.sharding_gather.specs.steps.Grouping.{AreUsed, lists_of, standing_at}
use Rattle.sharding_plans.specs.declared.listed.ListedPlan.{ListedPlan}
use Rattle.sharding_plans.specs.ListedPlans.{IsListedPlan, ListRefusals}
use Rattle.sharding_plans.specs.ReadPlans.{HasEntries}
use Rattle.sharding_c.specs.declared.layout.Layout.{Layout}
use Rattle.sharding_c.specs.declared.layout.Stored.{Stored}
use Rattle.sharding_c.specs.declared.status.Refusal.{Refusal}
use Rattle.sharding_c.specs.declared.status.Refusal.TheVariants.{Codec, RoomTooSmall}
use Rattle.sharding_c.specs.Statuses.{◌or_refused◌then◌, ◌or_refused_by◌then◌, passed}
use Rattle.sharding_c.specs.Exports.{LaidTests}
use Rattle.sharding_c.specs.Rows.{offset_of, size_of}

-- the row of a subchunk in which listed elements lie: its number, and the offset and the size of its slice
abbrev pub point_row : ℕ → Slot → List ℕ
point_row number slot = number ∷ offset_of slot ∷ size_of slot ∷ []

-- the rows of the first n of some subchunks
abbrev pub point_rows : (subchunks : List ℕ) → (slots : List Slot) → (n : ℕ) → List ℕ
point_rows subchunks slots n = flat_map (λ j. point_row (slice_index subchunks j) (slice_index_or slots j Absent)) (range_with_len 0 n)

-- the place of a listed element: that of its row, and its position in the subchunk
abbrev pub place_at : Grouping → ℕ → List ℕ
place_at elements i =
    let at = standing_at elements i in at.group ∷ slice_index (slice_index_or (lists_of elements) at.group []) at.rank ∷ []

-- the places of the first n
abbrev pub places_of : Grouping → ℕ → List ℕ
places_of elements n = flat_map (place_at elements) (range_with_len 0 n)

-- each element stands in its group
abbrev pub HasStandings : Grouping → Type 0
HasStandings elements = (i : ℕ) → i < length elements.standings.items
    → (standing_at elements i).group < length elements.positions.items
    × (standing_at elements i).rank < length (slice_index_or (lists_of elements) (standing_at elements i).group [])

-- the lowest of some subchunks whose index entry is bad
pub record IsFirstBad (subchunks : List ℕ) (slots : List Slot) (k : ℕ) : Type 0 where
  pub place : ℕ
  pub inside : place < length slots
  pub bad : slice_index_or slots place Absent ≡ Bad
  pub named : slice_index subchunks place ≡ k
  pub before : (i : ℕ) → i < place → IsGood (slice_index_or slots i Absent)

abbrev pub TellsBad : List ℕ → List Slot → Option ℕ → Type 0
TellsBad subchunks slots None = All IsGood slots
TellsBad subchunks slots (Some k) = IsFirstBad subchunks slots k

-- there are as many coordinates as places have room for
abbrev pub HasPoints : (axes numbers places : ℕ) → Type 0
HasPoints axes numbers places = (places % 2 ≡ 0) × (numbers ≡ axes * (places / 2))

-- what C asks: coordinates, one after the other
abbrev pub listed : Layout → (points : List ℕ) → (places : ℕ) → Selection
listed layout points places = listed_selection (points_from (length layout.shape.now) (places / 2) points)

-- the rows of a plan of listed elements stand in front of a room, and what was behind them there still does; and so do the elements' places
pub record IsListingWritten (layout : Layout) (stored : Stored) (points old new places : List ℕ) (rows : ℕ) (bad : Option ℕ) : Type 0 where
  pub plan : ListedPlan
  pub planned : IsListedPlan layout.shape.now layout.subchunk_shape.now stored.object_size stored.numbers.now
      (numbers_of layout.shape.now (listed layout points (length places)).points) plan
  pub count : rows ≡ length plan.elements.subchunks.items
  pub tells_bad : TellsBad plan.elements.subchunks.items plan.slots.items bad
  pub written : let made = point_rows plan.elements.subchunks.items plan.slots.items rows in new ≡ made ++ drop (length made) old
  pub placed : places ≡ places_of plan.elements (length places / 2)

-- the tests of a plan of listed elements, by how many numbers of rows and of places have room
abbrev pub PointTests : Layout → Stored → List ℕ → (rows places : ℕ) → Refusal → Type 0
PointTests layout stored points rows places =
    LaidTests layout (
    HasPoints (length layout.shape.now) (length points) places or_refused Codec InvalidNumberOfElements then
    (IsSelectionOf layout.shape.now (listed layout points places)
    × HasEntries layout.shape.now layout.subchunk_shape.now stored.numbers.now) or_refused_by
    ListRefusals layout.shape.now layout.subchunk_shape.now stored.numbers.now (listed layout points places) then
    (λ refusal. (subchunks : List ℕ)
    × AreUsed layout.shape.now layout.subchunk_shape.now (numbers_of layout.shape.now (listed layout points places).points) subchunks
    × (3 * length subchunks ≤ rows or_refused RoomTooSmall (3 * length subchunks) then passed) refusal))
