-- Asked cells in the order of their subchunks.
use Rattle.std.specs.Prelude.{◌≡◌, ◌≢◌, ◌<◌, ◌==◌, ℕ, List, map, length, slice_index, slice_index_or}
use Rattle.std.specs.List.{All, Contains, filter}
use Rattle.std.specs.List.Sorted.{IsNonDecreasingBy}
use Rattle.parts_subsets.specs.Grid.{subchunk_number, position_number}
use Rattle.sharding_format.specs.ReadRefusals.{positions_in}
use Rattle.sharding_gather.specs.declared.sorted.RequestedCell.{RequestedCell}

-- the requested cell with a place among those that are asked
abbrev pub requested_cell : (shape sub numbers : List ℕ) → ℕ → RequestedCell
requested_cell shape sub numbers i = record {
  subchunk = subchunk_number shape sub (slice_index numbers i);
  position = position_number shape sub (slice_index numbers i);
  rank = i;
}

-- one of some cells
abbrev pub requested_at : List RequestedCell → ℕ → RequestedCell
requested_at requested i = slice_index_or requested i (record { subchunk = 0; position = 0; rank = 0 })

-- all that are asked, those of lower subchunks first, and of each subchunk its places in their order
pub record AreSorted (shape sub numbers : List ℕ) (requested : List RequestedCell) : Type 0 where
  pub rising : IsNonDecreasingBy (λ cell. cell.subchunk) requested
  pub positions : (k : ℕ) → map (λ cell. cell.position) (filter (λ cell. cell.subchunk == k) requested) ≡ positions_in shape sub numbers k
  pub each : All (λ cell. (cell.rank < length numbers) × (cell ≡ requested_cell shape sub numbers cell.rank)) requested
  pub all : (i : ℕ) → i < length numbers → Contains requested (requested_cell shape sub numbers i)

-- of the first n cells each has at its rank what the update has for it, or for a cell with the same rank; all others are as before
pub record IsWritten {X : Type 0} (requested : List RequestedCell) (n : ℕ) (old update new : ℕ → X) : Type 0 where
  pub inside : (r : ℕ) → r < n
      → (s : ℕ) × (s < n) × ((requested_at requested s).rank ≡ (requested_at requested r).rank)
      × (new (requested_at requested r).rank ≡ update s)
  pub outside : (i : ℕ) → ((r : ℕ) → r < n → (requested_at requested r).rank ≢ i) → new i ≡ old i
