-- What is held of an object that was opened as a shard, and why its opening or a read by it may be refused.
use Rattle.std.specs.Prelude.{◌≡◌, ◌<◌, ◌^◌, ℕ, ◌+◌, List, Option, Some, None, length, replicate}
use Rattle.parts_errors.specs.Words.{CellList, CellsOf, Refusals}
use Rattle.parts_errors.specs.declared.error.CodecError.{CodecError}
use Rattle.parts_errors.specs.declared.error.CodecError.TheVariants.{TooLarge}
use Rattle.parts_errors.specs.Order.{◌or◌then◌, done}
use Rattle.parts_row_major.specs.Numbering.{count_of}
use Rattle.parts_arrays.specs.ArraySpec.{ArraySpec}
use Rattle.storage_handles.specs.Handles.{seen}
use Rattle.codec_traits.specs.Meanings.{Meaning}
use Rattle.codec_traits.specs.Reads.{cells_at}
use Rattle.sharding_format.specs.Index.{numbers_in_index}
use Rattle.sharding_format.specs.Cells.{Layout}
use Rattle.sharding_format.specs.Serves.{fixed_size}
use Rattle.sharding_format.specs.DecodeRefusals.{IndexRefusals, RefusesLengths}
use Rattle.sharding_format.specs.ReadRefusals.{AnswerRefusals, CellsRefusals}
use Rattle.sharding_format.specs.declared.index.ShardIndex.{ShardIndex}
use Rattle.sharding_format.specs.declared.location.ShardingIndexLocation.{ShardingIndexLocation}

-- the held length and index are those of the object; `index_in` says which numbers the index of some bytes has
abbrev pub HoldsIndex : (List ℕ → Option (List ℕ)) → Option (List ℕ) → ℕ → Option (List ℕ) → Type 0
HoldsIndex index_in None len index = index ≡ None
HoldsIndex index_in (Some bytes) len None = ⊥
HoldsIndex index_in (Some bytes) len (Some numbers) = (length bytes ≡ len) × (index_in bytes ≡ Some numbers)

-- the length of the object whose index is held, and the index's numbers
abbrev pub cached_len : Option ShardIndex → ℕ
cached_len None = 0
cached_len (Some index) = index.len

abbrev pub cached_numbers : Option ShardIndex → Option (List ℕ)
cached_numbers cached = seen (λ index. index.numbers.items) cached

-- the tests of an object that is opened as a shard with this index: that its length can be counted, those of its index, and later ones of
-- its bytes
abbrev pub ObjectIndexRefusals : (index : Meaning) → ShardingIndexLocation → Option (List ℕ) → (List ℕ → Refusals) → CodecError → Type 0
ObjectIndexRefusals index location None later = done
ObjectIndexRefusals index location (Some bytes) later =
    length bytes + 1 < 2 ^ 64 or TooLarge then
    IndexRefusals index.decode_refusals index.cells location (fixed_size index.representation) bytes
    (later bytes)

-- the cells of an object, by those of its bytes: without an object each is the fill value
abbrev pub object_cells : CellsOf → ArraySpec → Option (List ℕ) → CellList
object_cells cells g None = replicate (count_of g.shape) (Some g.fill)
object_cells cells g (Some bytes) = cells bytes

-- the tests of a read of the cells at some coordinates of a shard whose index was read before; without an object those of their lengths
-- alone
abbrev pub CachedCellsRefusals : (inner index : Meaning) → Layout → Option (List ℕ) → List (List ℕ) → CodecError → Type 0
CachedCellsRefusals inner index l None points = RefusesLengths (cells_at (replicate (count_of l.shape) (Some l.fill)) l.shape points)
CachedCellsRefusals inner index l (Some bytes) points =
    CellsRefusals (AnswerRefusals inner.answerable inner.read_refusals) inner.cells index.cells
    l bytes (numbers_in_index index.cells l.location l.index_size bytes) points
