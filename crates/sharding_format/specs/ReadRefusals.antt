-- Why a read of some cells of a shard may be refused: the tests of its bytes, in their order.
use Rattle.std.specs.Prelude.{◌≡◌, ◌≢◌, ℕ, ◌==◌, List, [], Option, None, IsSome, length, map, slice_index_or}
use Rattle.std.specs.List.{filter}
use Rattle.parts_errors.specs.Words.{CellList, CellsOf, Refusals}
use Rattle.parts_errors.specs.Order.{◌or◌then◌, EachAs}
use Rattle.parts_row_major.specs.Numbering.{count_of, number_of, point_of}
use Rattle.parts_subsets.specs.Grid.{grid_of, subchunk_number, position_number}
use Rattle.parts_errors.specs.declared.error.CodecError.{CodecError}
use Rattle.parts_errors.specs.declared.error.CodecError.TheVariants.{OutOfMemory, TooLarge, BadIndexEntry}
use Rattle.parts_subsets.specs.Selections.{Points}
use Rattle.codec_traits.specs.Cells.{all_there}
use Rattle.codec_traits.specs.Reads.{cells_at, MayRefuseRead}
use Rattle.codec_traits.specs.Meanings.{Meaning}
use Rattle.sharding_format.specs.Index.{slice_at, numbers_in_index}
use Rattle.sharding_format.specs.Cells.{Layout, shard_cells}
use Rattle.sharding_format.specs.DecodeRefusals.{stored_refusal, slot_by, IndexRefusals, RefusesLengths}
use Rattle.sharding_format.specs.declared.slot.Slot.{Slot}
use Rattle.sharding_format.specs.declared.slot.Slot.TheVariants.{Absent, InRange, Bad}

-- the row-major numbers of coordinates
abbrev pub numbers_of : List ℕ → List (List ℕ) → List ℕ
numbers_of shape points = map (λ point. number_of point shape) points

-- of the cells with some numbers, those that lie in subchunk k: the numbers of their places in it, in their order
abbrev pub positions_in : List ℕ → List ℕ → List ℕ → ℕ → List ℕ
positions_in shape sub numbers k = map (position_number shape sub) (filter (λ i. subchunk_number shape sub i == k) numbers)

-- the coordinates of places in a subchunk
abbrev pub position_points : List ℕ → List ℕ → List (List ℕ)
position_points sub positions = map (λ position. point_of position sub) positions

-- the coordinates of some places of a subchunk, as what is asked of it
abbrev pub points_at : List ℕ → List ℕ → Points
points_at sub positions = record { axes = length sub; points = position_points sub positions }

-- the cells at some places
abbrev pub cells_of_positions : CellList → List ℕ → CellList
cells_of_positions cells positions = map (λ position. slice_index_or cells position None) positions

-- the requested cells of a subchunk are there: of a bad entry's none may be asked
abbrev pub HasPositions : CellsOf → List ℕ → Slot → List ℕ → Type 0
HasPositions inner_cells bytes Absent positions = Unit {0}
HasPositions inner_cells bytes (InRange offset size) positions = IsSome
    (all_there (cells_of_positions (inner_cells (slice_at offset size bytes)) positions))
HasPositions inner_cells bytes Bad positions = positions ≡ []

-- the tests that another codec makes of a read of some cells of its bytes: it can answer so many, and then those of the bytes
abbrev pub AnswerRefusals : (ℕ → Type 0) → (List ℕ → List (List ℕ) → CodecError → Type 0) → List ℕ → List (List ℕ) → CodecError → Type 0
AnswerRefusals CanAnswer read_refusals bytes points =
    CanAnswer (length points) or TooLarge then
    read_refusals bytes points

-- a refusal of a read of stored bytes comes from the codec that reads them, by its own tests, and as its law allows for the cells that they
-- stand for and those that are asked
pub record RefusesStoredRead (refusals : Refusals) (cells requested : CellList) (e : CodecError) : Type 0 where
  pub inner : CodecError
  pub tested : refusals inner
  pub lawful : MayRefuseRead cells requested inner
  pub no_memory : inner ≢ OutOfMemory
  pub passed_on : e ≡ stored_refusal inner

-- how a read of some places of subchunk k, which a slot names, may be refused; a subchunk of which none are asked is not looked at
abbrev pub RefusesPositions : (List ℕ → List (List ℕ) → CodecError → Type 0) → CellsOf → List ℕ → List ℕ → Slot → List ℕ → ℕ → CodecError
    → Type 0
RefusesPositions inner_read inner_cells sub bytes Absent positions k e = ⊥
RefusesPositions inner_read inner_cells sub bytes (InRange offset size) positions k e =
    (positions ≢ []) × RefusesStoredRead (inner_read (slice_at offset size bytes) (position_points sub positions))
    (inner_cells (slice_at offset size bytes)) (cells_of_positions (inner_cells (slice_at offset size bytes)) positions) e
RefusesPositions inner_read inner_cells sub bytes Bad positions k e = (positions ≢ []) × (e ≡ BadIndexEntry k)

-- the tests of the subchunks in which cells with some numbers lie, ascending: the first that is refused gives the refusal
abbrev pub PositionsRefusals : (List ℕ → List (List ℕ) → CodecError → Type 0) → CellsOf → (shape sub : List ℕ) → List ℕ → Option (List ℕ)
    → List ℕ → Refusals → CodecError → Type 0
PositionsRefusals inner_read inner_cells shape sub bytes index numbers later =
    EachAs (count_of (grid_of shape sub))
    (λ k. HasPositions inner_cells bytes (slot_by (length bytes) index k) (positions_in shape sub numbers k))
    (λ k. RefusesPositions inner_read inner_cells sub bytes (slot_by (length bytes) index k) (positions_in shape sub numbers k) k)
    later

-- the tests of a read of the cells at some coordinates of the shard that bytes are, by an index that is known
abbrev pub CellsRefusals : (List ℕ → List (List ℕ) → CodecError → Type 0) → (inner_cells index_cells : CellsOf) → Layout → List ℕ
    → Option (List ℕ) → List (List ℕ) → CodecError → Type 0
CellsRefusals inner_read inner_cells index_cells l bytes index points =
    PositionsRefusals inner_read inner_cells l.shape l.sub bytes index (numbers_of l.shape points)
    (RefusesLengths (cells_at (shard_cells inner_cells index_cells l bytes) l.shape points))

-- the tests of a read of the cells at some coordinates of the shard that bytes are
abbrev pub ReadRefusals : (inner index : Meaning) → Layout → List ℕ → List (List ℕ) → CodecError → Type 0
ReadRefusals inner index l bytes points =
    IndexRefusals index.decode_refusals index.cells l.location l.index_size bytes
    (CellsRefusals (AnswerRefusals inner.answerable inner.read_refusals) inner.cells index.cells l bytes
    (numbers_in_index index.cells l.location l.index_size bytes) points)
