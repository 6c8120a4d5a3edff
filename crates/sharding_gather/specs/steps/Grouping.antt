-- Asked cells by the subchunks in which they lie.
use Rattle.std.specs.Prelude.{◌≡◌, ◌≢◌, ◌<◌, ℕ, List, [], map, length, slice_index, slice_index_or}
use Rattle.parts_subsets.specs.Grid.{subchunk_number, position_number}
use Rattle.sharding_format.specs.ReadRefusals.{positions_in}
use Rattle.sharding_gather.specs.declared.grouping.Grouping.{Grouping}
use Rattle.sharding_gather.specs.declared.grouping.Standing.{Standing}

-- ascending, and just those subchunks in which cells are asked
pub record AreUsed (shape sub numbers subchunks : List ℕ) : Type 0 where
  pub rising : (i j : ℕ) → i < j → j < length subchunks → slice_index subchunks i < slice_index subchunks j
  pub requested : (j : ℕ) → j < length subchunks → positions_in shape sub numbers (slice_index subchunks j) ≢ []
  pub all : (k : ℕ) → positions_in shape sub numbers k ≢ [] → (j : ℕ) × (j < length subchunks) × (slice_index subchunks j ≡ k)

-- the cell with a number stands at the place of its own in the group of its own subchunk
pub record IsSeated (shape sub subchunks : List ℕ) (positions : List (List ℕ)) (number : ℕ) (at : Standing) : Type 0 where
  pub group_below : at.group < length subchunks
  pub rank_below : at.rank < length (slice_index_or positions at.group [])
  pub subchunk : slice_index subchunks at.group ≡ subchunk_number shape sub number
  pub position : slice_index (slice_index_or positions at.group []) at.rank ≡ position_number shape sub number

-- the lists of places
abbrev pub lists_of : Grouping → List (List ℕ)
lists_of groups = map (λ positions. positions.items) groups.positions.items

-- where a cell stands
abbrev pub standing_at : Grouping → ℕ → Standing
standing_at groups i = slice_index_or groups.standings.items i (record { group = 0; rank = 0 })

-- the cells with some numbers, by their subchunks: for each subchunk its places, and for each cell where it stands
pub record AreGrouped (shape sub numbers : List ℕ) (groups : Grouping) : Type 0 where
  pub used : AreUsed shape sub numbers groups.subchunks.items
  pub positions : lists_of groups ≡ map (positions_in shape sub numbers) groups.subchunks.items
  pub counted : length groups.standings.items ≡ length numbers
  pub each : (i : ℕ) → i < length numbers → IsSeated shape sub groups.subchunks.items (lists_of groups) (slice_index numbers i)
      (standing_at groups i)
