-- The index of a shard, by its bytes.
use Rattle.std.proofs.Common.{◌≡◌, ℕ, ◌≤◌, List, Option, Some, inl, inr, length, map, refl}
use Rattle.std.proofs.lemmas.Bool.{le-leb}
use Rattle.parts_errors.specs.Order.{◌or◌then◌, ◌or_as◌then◌, done, RefusedBy}
use Rattle.parts_errors.specs.declared.error.CodecError.{CodecError}
use Rattle.parts_errors.specs.declared.error.CodecError.TheVariants.{OutOfMemory}
use Rattle.codec_traits.specs.Meanings.{Meaning}
use Rattle.codec_traits.specs.Refusals.{RefusesUnserved, MayRefuseDecode}
use Rattle.sharding_format.specs.Index.{index_part, number_of_element, numbers_in_index, numbers_of_cells}
use Rattle.codec_traits.specs.CellLaws.{all_there-map_some}
use Rattle.sharding_format.specs.DecodeRefusals.{stored_refusal, RefusesStored, IndexRefusals}
use Rattle.sharding_format.specs.declared.location.ShardingIndexLocation.{ShardingIndexLocation}

-- the numbers of cells that are there
pub numbers_found : (cells : List (Option (List ℕ))) (elements : List (List ℕ)) (items : List ℕ) → cells ≡ map Some elements → items ≡ map number_of_element elements
    → numbers_of_cells cells ≡ Some items
numbers_found cells elements items is read = rw (is, all_there-map_some elements, read) refl

-- a codec that serves refuses by its later tests
pub served : (codec : Meaning) (refusals : CodecError → Type 0) (e : CodecError) → codec.serves → RefusedBy (codec.serves or_as RefusesUnserved codec then refusals) e → RefusedBy refusals e
served codec refusals e serves h =
    elim h [
      | inl memory ↦ inl memory
      | inr refused ↦ elim refused [ inl unserved ↦ absurd (unserved.0 serves) | inr later ↦ inr later.1 ]
    ]

-- another codec's refusal of stored bytes
pub stored : (refusals : CodecError → Type 0) (cells : List (Option (List ℕ))) (inner e : CodecError) → MayRefuseDecode cells inner → RefusedBy refusals inner → e ≡ stored_refusal inner
    → RefusedBy (RefusesStored refusals cells) e
stored refusals cells OutOfMemory e lawful h is = inl is
stored refusals cells inner e lawful h is =
    inr (record {
      inner = inner;
      tested = elim h [ inl memory ↦ let is_memory = memory in cc | inr tested ↦ tested ];
      lawful = lawful;
      no_memory = λ is_memory. cc;
      passed_on = is;
    })

-- the numbers of the index's bytes are those of the index
pub numbers_of_part : (index_cells : List ℕ → List (Option (List ℕ))) (location : ShardingIndexLocation) (size : ℕ) (b part items : List ℕ) → size ≤ length b → part ≡ index_part location size b
    → numbers_of_cells (index_cells part) ≡ Some items → numbers_in_index index_cells location size b ≡ Some items
unfolding numbers_in_index
numbers_of_part index_cells location size b part items room is read = rw le-leb (rw is at read)

-- and a refusal of them is one of the index
part_refusals : (index_decode : List ℕ → CodecError → Type 0) (index_cells : List ℕ → List (Option (List ℕ))) (location : ShardingIndexLocation) (size : ℕ) (b part : List ℕ) (e : CodecError)
    → size ≤ length b → part ≡ index_part location size b → RefusesStored (index_decode part) (index_cells part) e → IndexRefusals index_decode index_cells location size b done e
part_refusals index_decode index_cells location size b part e room is refused = inr (room, inl (rw is at refused))

pub part_refused : (index_decode : List ℕ → CodecError → Type 0) (index_cells : List ℕ → List (Option (List ℕ))) (location : ShardingIndexLocation) (size : ℕ) (b part : List ℕ) (e : CodecError)
    → size ≤ length b → part ≡ index_part location size b → RefusedBy (RefusesStored (index_decode part) (index_cells part)) e
    → RefusedBy (IndexRefusals index_decode index_cells location size b done) e
part_refused index_decode index_cells location size b part e room is h =
    elim h [ inl memory ↦ inl memory | inr refused ↦ inr (part_refusals index_decode index_cells location size b part e room is refused) ]
