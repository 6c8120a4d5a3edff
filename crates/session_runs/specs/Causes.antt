-- Why a command of a run may be refused, by the map and the object that it finds.
use Rattle.std.specs.Prelude.{◌≡◌, ◌≢◌, ◌≤◌, ◌^◌, ◌⊎◌, ℕ, ◌+◌, ◌*◌, List, [], Option, Some, None, map, length}
use Rattle.parts_errors.specs.Words.{Bytes, Elements, Refusals}
use Rattle.parts_row_major.specs.Subsets.{Subset}
use Rattle.parts_subsets.specs.Grid.{subchunk, cell_number}
use Rattle.parts_subsets.specs.Touched.{Touches}
use Rattle.parts_arrays.specs.Arrays.{Array}
use Rattle.parts_subsets.specs.Selections.{Selection, SelectionRefusals, subset_selection}
use Rattle.parts_arrays.specs.Types.{size_of, byte_size}
use Rattle.parts_errors.specs.declared.error.CodecError.{CodecError}
use Rattle.parts_errors.specs.declared.error.CodecError.TheVariants.{TooLarge}
use Rattle.codec_traits.specs.Refusals.{AreTooLong}
use Rattle.storage_handles.specs.Writes.{bytes_of}
use Rattle.sharding_format.specs.Index.{slot_at}
use Rattle.sharding_format.specs.Serves.{subchunk_spec}
use Rattle.sharding_format.specs.Compacting.{compact_size}
use Rattle.sharding_format.specs.EncodeRefusals.{RefusesToStore, RefusesIndex}
use Rattle.sharding_format.specs.ReadRefusals.{numbers_of, positions_in, cells_of_positions}
use Rattle.sharding_gather.specs.Updates.{UpdateRefusals}
use Rattle.sharding_write.specs.Writing.{AreNewCells, HoldsNumbers}
use Rattle.sharding_write.specs.WriteRefusals.{SomeLength}
use Rattle.session_runs.specs.Maps.{CellMap, elements_at, elements_of}
use Rattle.session_runs.specs.Objects.{Shards, subchunks_in, index_numbers, written_layout}

-- the elements of a map in subchunk k
abbrev pub subchunk_elements : Shards → CellMap → (k : ℕ) → Elements
subchunk_elements s m k = subchunk s.array_spec.shape s.layout.sub (elements_of s.array_spec m) k

-- the places in subchunk k of those cells that some coordinates ask of it, in their order
abbrev pub requested_positions : Shards → (points : List (List ℕ)) → (k : ℕ) → List ℕ
requested_positions s points k = positions_in s.array_spec.shape s.layout.sub (numbers_of s.array_spec.shape points) k

-- a subchunk of which cells are asked has elements, or the requested ones of them have, whose lengths add up past what memory can address
pub record IsLongUsed (s : Shards) (m : CellMap) (points : List (List ℕ)) : Type 0 where
  pub subchunk : ℕ
  pub used : requested_positions s points subchunk ≢ []
  pub long : AreTooLong (map Some (subchunk_elements s m subchunk))
      ⊎ AreTooLong (cells_of_positions (map Some (subchunk_elements s m subchunk)) (requested_positions s points subchunk))

-- why a read of what lies in the shape may be refused: the lengths that are asked, or those of a subchunk that it uses
abbrev pub ReadSizes : Shards → CellMap → (points : List (List ℕ)) → Refusals
ReadSizes s m points e = (e ≡ TooLarge) × ((2 ^ 64 ≤ length points * byte_size (size_of s.array_spec.data_type))
    ⊎ (AreTooLong (map Some (elements_at s.array_spec m points)) ⊎ IsLongUsed s m points))

-- why a read may be refused: it names cells outside of the shape, or more than can be counted, or one of these
abbrev pub ReadCauses : Shards → CellMap → Selection → Refusals
ReadCauses s m selection = SelectionRefusals s.array_spec.shape selection (ReadSizes s m selection.points)

-- a subchunk that a subset touches has elements before the write whose lengths add up past what memory can address
pub record IsLongTouched (s : Shards) (m : CellMap) (subset : Subset) : Type 0 where
  pub subchunk : ℕ
  pub touched : Touches s.array_spec.shape s.layout.sub subset subchunk
  pub long : AreTooLong (map Some (subchunk_elements s m subchunk))

-- a subchunk that a subset touches is not all fill after the write, and the inner codec can't encode it, or its encoding does not fit
pub record IsUnstorable (s : Shards) (m : CellMap) (subset : Subset) (update : Elements) (e : CodecError) : Type 0 where
  pub subchunk : ℕ
  pub touched : Touches s.array_spec.shape s.layout.sub subset subchunk
  pub elements : Elements
  pub cells : AreNewCells s.array_spec.shape (subchunk_spec s.layout.sub s.array_spec) subset update
      (λ p. Some (m (cell_number s.array_spec.shape s.layout.sub subchunk p))) subchunk elements
  pub refused : RefusesToStore s.inner.encodable s.inner.fits s.array_spec.fill elements e

-- with some encodings of the touched subchunks the object would reach 2^64 - 1 bytes
pub record IsLongWritten (s : Shards) (object : Option Bytes) (subset : Subset) (update : Elements) : Type 0 where
  pub len : ℕ
  pub numbers : List ℕ
  pub cached : HoldsNumbers (index_numbers s) object len numbers
  pub long : SomeLength s.inner (written_layout s) (subchunk_spec s.layout.sub s.array_spec) subset update (bytes_of object) numbers
      (λ n. 2 ^ 64 ≤ n + 1)

-- why a write of fitting elements into a subset of the shape may be refused: the lengths of a touched subchunk, its encoding, the object's
-- length, or some index, which the index codec can't encode, or whose encoding does not fit
abbrev pub WriteSizes : Shards → CellMap → Option Bytes → Subset → (update : Elements) → Refusals
WriteSizes s m object subset update e =
    ((e ≡ TooLarge) × IsLongTouched s m subset)
    ⊎ (IsUnstorable s m subset update e
    ⊎ (((e ≡ TooLarge) × IsLongWritten s object subset update)
    ⊎ RefusesIndex s.index (subchunks_in s) e))

-- why a write may be refused: the subset does not lie in the shape, or the elements do not fit the subset, or one of these
abbrev pub WriteCauses : Shards → CellMap → Option Bytes → Subset → Array → Refusals
WriteCauses s m object subset update =
    UpdateRefusals s.array_spec.shape s.array_spec.data_type (subset_selection subset) update (WriteSizes s m object subset update.elements)

-- the index and the present slices of an object reach 2^64 - 1 bytes
abbrev pub IsLongCompacted : Shards → Option Bytes → Type 0
IsLongCompacted s None = ⊥
IsLongCompacted s (Some bytes) = (numbers : List ℕ) × (index_numbers s bytes ≡ Some numbers)
    × (2 ^ 64 ≤ compact_size s.layout (slot_at (length bytes) numbers) + 1)

-- why a compaction may be refused: the length that it would have, or some index
abbrev pub CompactCauses : Shards → Option Bytes → Refusals
CompactCauses s object e = ((e ≡ TooLarge) × IsLongCompacted s object) ⊎ RefusesIndex s.index (subchunks_in s) e
