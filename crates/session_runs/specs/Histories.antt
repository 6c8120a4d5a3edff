-- Histories: what was done to the cells of a shard, in order. No object stands in them.
use Rattle.std.specs.Prelude.{◌≡◌, List, [], ◌∷◌, Option, Some, map}
use Rattle.parts_errors.specs.Words.{Bytes, Elements}
use Rattle.parts_row_major.specs.Subsets.{points_of}
use Rattle.parts_arrays.specs.ArraySpec.{ArraySpec}
use Rattle.parts_subsets.specs.Selections.{subset_selection}
use Rattle.codec_traits.specs.Reads.{IsAnswer}
use Rattle.sharding_gather.specs.Updates.{IsUpdateOf}
use Rattle.sharding_format.specs.Cells.{shard_cells}
use Rattle.sharding_open.specs.Cached.{object_cells}
use Rattle.session_runs.specs.Maps.{CellMap, filled, IsOverridden, elements_at, elements_of}
use Rattle.session_runs.specs.Objects.{Shards, Shows}
use Rattle.session_runs.specs.declared.event.Event.{Event}
use Rattle.session_runs.specs.declared.event.Event.TheVariants.{Write, Read, Erase}

-- what an event does to a map: a write puts its elements, one for each cell of its subset, into these; a read has the elements of the map
-- at
-- its subset's points, and leaves it; an erase leaves the fill value in every cell
abbrev pub Happens : ArraySpec → Event → CellMap → CellMap → Type 0
Happens g (Write subset bytes) m m' =
    IsUpdateOf g.shape g.data_type (subset_selection subset) bytes × IsOverridden g subset bytes.elements m m'
Happens g (Read subset cells) m m' =
    IsAnswer g (subset_selection subset) cells × (cells.elements ≡ elements_at g m (points_of subset)) × (m' ≡ m)
Happens g Erase m m' = m' ≡ filled g

-- a legal history: its events, in their order, lead from a map to a map
abbrev pub IsLegal : ArraySpec → List Event → CellMap → CellMap → Type 0
IsLegal g [] m m' = m' ≡ m
IsLegal g (event ∷ events) m m' = (next : CellMap) × Happens g event m next × IsLegal g events next m'

-- the cells of an object are all there, and have these elements; without an object each is the fill value
abbrev pub IsCellsOf : Shards → Option Bytes → Elements → Type 0
IsCellsOf s object elements = object_cells (shard_cells s.inner.cells s.index.cells s.layout) s.array_spec object ≡ map Some elements

-- a history that is legal leads from cells to those of an object
pub record Replays (s : Shards) (opening : Elements) (events : List Event) (object : Option Bytes) : Type 0 where
  pub first : CellMap
  pub last : CellMap
  pub opens : elements_of s.array_spec first ≡ opening
  pub legal : IsLegal s.array_spec events first last
  pub ends : Shows s object last
