-- Why a shard's bytes may be refused: the tests of decoding, in their order.
use Rattle.std.specs.Prelude.{◌≡◌, ◌≢◌, ◌≤◌, ◌<◌, ℕ, List, Option, Some, None, IsSome, length}
use Rattle.parts_errors.specs.Words.{CellList, CellsOf, Refusals}
use Rattle.parts_errors.specs.Order.{◌or◌then◌, ◌or_as◌then◌, EachAs}
use Rattle.parts_row_major.specs.Numbering.{count_of}
use Rattle.parts_subsets.specs.Grid.{grid_of}
use Rattle.parts_errors.specs.declared.error.CodecError.{CodecError}
use Rattle.parts_errors.specs.declared.error.CodecError.TheVariants.{OutOfMemory, TooLarge, Fault, Damaged, ShardTooShort, BadIndexEntry}
use Rattle.codec_traits.specs.Cells.{all_there}
use Rattle.codec_traits.specs.Refusals.{AreTooLong, MayRefuseDecode}
use Rattle.codec_traits.specs.Meanings.{Meaning}
use Rattle.sharding_format.specs.Index.{slot_at, slice_at, index_part, numbers_in_index}
use Rattle.sharding_format.specs.Cells.{Layout, shard_cells}
use Rattle.sharding_format.specs.declared.location.ShardingIndexLocation.{ShardingIndexLocation}
use Rattle.sharding_format.specs.declared.slot.Slot.{Slot}
use Rattle.sharding_format.specs.declared.slot.Slot.TheVariants.{Absent, InRange, Bad}

-- what becomes of another codec's refusal of stored bytes: memory, size and faults are passed on, all else is damage
abbrev pub stored_refusal : CodecError → CodecError
stored_refusal OutOfMemory = OutOfMemory
stored_refusal TooLarge = TooLarge
stored_refusal Fault = Fault
stored_refusal _ = Damaged

-- a refusal of stored bytes comes from the codec that reads them, by its own tests, and as its law allows for the cells
-- that they stand for
pub record RefusesStored (refusals : Refusals) (cells : CellList) (e : CodecError) : Type 0 where
  pub inner : CodecError
  pub tested : refusals inner
  pub lawful : MayRefuseDecode cells inner
  pub no_memory : inner ≢ OutOfMemory
  pub passed_on : e ≡ stored_refusal inner

-- the subchunk that a slot names has an array
abbrev pub HasArray : CellsOf → List ℕ → Slot → Type 0
HasArray inner_cells bytes Absent = Unit {0}
HasArray inner_cells bytes (InRange offset size) = IsSome (all_there (inner_cells (slice_at offset size bytes)))
HasArray inner_cells bytes Bad = ⊥

-- how subchunk k, which a slot names, may be refused
abbrev pub RefusesSubchunk : (List ℕ → CodecError → Type 0) → CellsOf → List ℕ → Slot → ℕ → CodecError → Type 0
RefusesSubchunk inner_decode inner_cells bytes Absent k e = ⊥
RefusesSubchunk inner_decode inner_cells bytes (InRange offset size) k e = RefusesStored (inner_decode (slice_at offset size bytes))
    (inner_cells (slice_at offset size bytes)) e
RefusesSubchunk inner_decode inner_cells bytes Bad k e = e ≡ BadIndexEntry k

-- what an index says of subchunk k of a shard of so many bytes; bad where there is no index
abbrev pub slot_by : ℕ → Option (List ℕ) → ℕ → Slot
slot_by len None k = Bad
slot_by len (Some numbers) k = slot_at len numbers k

-- the tests of the index
abbrev pub IndexRefusals : (List ℕ → CodecError → Type 0) → CellsOf → ShardingIndexLocation → ℕ → List ℕ → Refusals → CodecError → Type 0
IndexRefusals index_decode index_cells location size bytes later =
    size ≤ length bytes or ShardTooShort then
    IsSome (numbers_in_index index_cells location size bytes)
    or_as RefusesStored (index_decode (index_part location size bytes)) (index_cells (index_part location size bytes)) then
    later

-- the tests of the first n subchunks, ascending: the first that is refused gives the refusal
abbrev pub SubchunkRefusals : (List ℕ → CodecError → Type 0) → CellsOf → List ℕ → Option (List ℕ) → ℕ → Refusals → CodecError → Type 0
SubchunkRefusals inner_decode inner_cells bytes numbers n later =
    EachAs n (λ k. HasArray inner_cells bytes (slot_by (length bytes) numbers k))
    (λ k. RefusesSubchunk inner_decode inner_cells bytes (slot_by (length bytes) numbers k) k)
    later

-- of n subchunks, k is the lowest that has no array, and its entry is bad
pub record IsLowestBad (inner_cells : CellsOf) (bytes : List ℕ) (numbers : Option (List ℕ)) (n k : ℕ) : Type 0 where
  pub below : k < n
  pub before : (j : ℕ) → j < k → HasArray inner_cells bytes (slot_by (length bytes) numbers j)
  pub bad : slot_by (length bytes) numbers k ≡ Bad

-- the lengths of the cells, which are too large together
abbrev pub RefusesLengths : CellList → CodecError → Type 0
RefusesLengths cells e = (e ≡ TooLarge) × AreTooLong cells

-- the tests of a whole shard after those of `check`
abbrev pub DecodeRefusals : (inner index : Meaning) → Layout → List ℕ → CodecError → Type 0
DecodeRefusals inner index l bytes =
    IndexRefusals index.decode_refusals index.cells l.location l.index_size bytes
    (SubchunkRefusals inner.decode_refusals inner.cells bytes (numbers_in_index index.cells l.location l.index_size bytes)
    (count_of (grid_of l.shape l.sub))
    (RefusesLengths (shard_cells inner.cells index.cells l bytes)))
