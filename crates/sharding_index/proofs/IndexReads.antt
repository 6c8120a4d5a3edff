-- The index of a shard that stands in an interval of an object: where it stands, its numbers where they are stored as they are, and
-- why it may be refused.
use Rattle.std.proofs.Common.{◌≡◌, ℕ, ◌+◌, ◌*◌, ◌≤◌, List, Option, Some, None, IsTrue, inl, inr, length, map, refl, sym, ap, ◌∙◌, arith}
use Rattle.parts_errors.specs.Order.{done, RefusedBy}
use Rattle.parts_errors.specs.declared.error.CodecError.{CodecError}
use Rattle.parts_row_major.specs.Numbering.{count_of}
use Rattle.parts_row_major.specs.Pieces.{pieces}
use Rattle.storage_handles.specs.declared.bytes.Interval.{Interval}
use Rattle.storage_handles.specs.Handles.{HandleState}
use Rattle.storage_handles.specs.Objects.{interval_part, HasInterval, ObjectRefusals}
use Rattle.codec_traits.specs.Meanings.{Meaning}
use Rattle.codec_traits.specs.Encodings.{IsPlain}
use Rattle.sharding_format.specs.Index.{index_part, index_spec, number_of_element, numbers_of_cells}
use Rattle.sharding_format.specs.Laws.{count-append_two}
use Rattle.sharding_format.specs.DecodeRefusals.{RefusesStored, IndexRefusals}
use Rattle.sharding_format.specs.steps.Reading.{index_start}
use Rattle.sharding_format.specs.declared.location.ShardingIndexLocation.{ShardingIndexLocation}
use Rattle.sharding_format.specs.declared.location.ShardingIndexLocation.TheVariants.{Start, End}
use Rattle.sharding_format.proofs.IntervalLemmas.{HasInterval-nested, index_found}
use Rattle.sharding_format.proofs.ReadIndexLemmas.{numbers_found}

index_within : (location : ShardingIndexLocation) (size len : ℕ) → size ≤ len → index_start location size len + size ≤ len
index_within Start size len fits = omega arith
index_within End size len fits = omega arith

-- where the index of a shard in an interval stands
abbrev pub index_interval : ShardingIndexLocation → ℕ → Interval → Interval
index_interval location size outer = record { offset = outer.offset + index_start location size outer.size; size = size }

HasInterval-index : (location : ShardingIndexLocation) (size : ℕ) (outer : Interval) (contents : Option (List ℕ)) → size ≤ outer.size → HasInterval outer contents
    → HasInterval (index_interval location size outer) contents
HasInterval-index location size outer contents fits there =
    HasInterval-nested (index_start location size outer.size) size outer contents (index_within location size outer.size fits) there

-- its bytes are the index of the interval's bytes
pub interval_part-index : (location : ShardingIndexLocation) (size : ℕ) (outer : Interval) (contents : Option (List ℕ)) → size ≤ outer.size → HasInterval outer contents
    → interval_part (index_interval location size outer) contents ≡ index_part location size (interval_part outer contents)
interval_part-index location size outer None fits there = absurd there
interval_part-index location size outer (Some bytes) fits there =
    index_found location size outer (Some bytes) (interval_part (index_interval location size outer) (Some bytes)) fits there
    (HasInterval-index location size outer (Some bytes) fits there, refl)

-- how many numbers an index of plain numbers has
pub plain_counted : (grid : List ℕ) (index : Meaning) (size : ℕ) → IsPlain (index_spec grid) index size → size ≡ 2 * count_of grid * 8
plain_counted grid index size plain = plain.size_is ∙ ap (λ n. n * 8) (count-append_two grid)

-- and which they are
pub plain_numbers : (grid : List ℕ) (index : Meaning) (size many : ℕ) (bytes numbers : List ℕ) → IsPlain (index_spec grid) index size → length bytes ≡ size → many ≡ 2 * count_of grid
    → numbers ≡ map number_of_element (pieces 8 many bytes) → numbers_of_cells (index.cells bytes) ≡ Some numbers
plain_numbers grid index size many bytes numbers plain long counted are =
    let cells : index.cells bytes ≡ map Some (pieces 8 many bytes) = plain.cells bytes long ∙ ap (λ n. map Some (pieces 8 n bytes)) (count-append_two grid ∙ sym counted) in
    numbers_found (index.cells bytes) (pieces 8 many bytes) numbers cells are

-- a refusal of the index's bytes is one of the shard's index
pub index_refused : (old new : HandleState) (index_decode : List ℕ → CodecError → Type 0) (index_cells : List ℕ → List (Option (List ℕ))) (location : ShardingIndexLocation) (size : ℕ) (b part : List ℕ)
    (e : CodecError) → (IsTrue old.transparent → size ≤ length b) → (IsTrue old.transparent → part ≡ index_part location size b)
    → RefusedBy (ObjectRefusals old new (RefusesStored (index_decode part) (index_cells part))) e
    → RefusedBy (ObjectRefusals old new (IndexRefusals index_decode index_cells location size b done)) e
index_refused old new index_decode index_cells location size b part e room is h =
    elim h [
      | inl memory ↦ inl memory
      | inr refused ↦ inr (λ t. elim (refused t) [ inl fault ↦ inl fault | inr stored ↦ inr (inr (room t, inl (rw (is t) at stored))) ])
    ]
