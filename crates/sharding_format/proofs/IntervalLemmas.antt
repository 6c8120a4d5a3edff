-- The bytes of an interval of an object, and of its parts.
use Rattle.std.proofs.Common.{◌≡◌, ℕ, zero, suc, ◌+◌, ◌-◌, ◌≤◌, List, [], Option, Some, None, length, take, drop, refl, sym, ap, ◌∙◌, arith}
use Rattle.std.proofs.Math.Seq.{take-length}
use Rattle.std.proofs.lemmas.List.{drop-drop, drop-take, take-take, length-drop}
use Rattle.storage_handles.specs.declared.bytes.ByteRange.TheVariants.{FromStart}
use Rattle.storage_handles.specs.declared.bytes.Interval.{Interval}
use Rattle.storage_handles.specs.Handles.{IsPart}
use Rattle.storage_handles.specs.Objects.{interval_part, HasInterval}
use Rattle.codec_traits.proofs.ReadLemmas.{length-interval_part}
use Rattle.sharding_format.specs.Index.{slice_at, index_part}
use Rattle.sharding_format.specs.steps.Reading.{index_start}
use Rattle.sharding_format.specs.declared.location.ShardingIndexLocation.{ShardingIndexLocation}
use Rattle.sharding_format.specs.declared.location.ShardingIndexLocation.TheVariants.{Start, End}

slice_of_part : (offset size from len : ℕ) (b : List ℕ) → offset + size ≤ len → take size (drop offset (take len (drop from b))) ≡ take size (drop (from + offset) b)
slice_of_part offset size from len b h =
    let room : len ≡ offset + (len - offset) = omega arith in
    ap (λ n. take size (drop offset (take n (drop from b)))) room
    ∙ ap (take size) (drop-take offset (len - offset) (drop from b))
    ∙ take-take size (len - offset) (drop offset (drop from b)) (omega arith)
    ∙ ap (take size) (drop-drop offset from b)

slice_of_nothing : (offset size : ℕ) → slice_at offset size [] ≡ []
slice_of_nothing zero zero = refl
slice_of_nothing zero (suc size) = refl
slice_of_nothing (suc offset) zero = refl
slice_of_nothing (suc offset) (suc size) = refl

-- an interval inside another has a slice of its bytes
pub interval_part-nested : (offset size : ℕ) (outer : Interval) (contents : Option (List ℕ)) → offset + size ≤ outer.size
    → interval_part (record { offset = outer.offset + offset; size = size }) contents ≡ slice_at offset size (interval_part outer contents)
interval_part-nested offset size outer None h = sym (slice_of_nothing offset size)
interval_part-nested offset size outer (Some bytes) h = sym (slice_of_part offset size outer.offset outer.size bytes h)

-- and lies in the object
pub HasInterval-nested : (offset size : ℕ) (outer : Interval) (contents : Option (List ℕ)) → offset + size ≤ outer.size → HasInterval outer contents
    → HasInterval (record { offset = outer.offset + offset; size = size }) contents
HasInterval-nested offset size outer None h there = there
HasInterval-nested offset size outer (Some bytes) h there = omega arith

index_slice : (location : ShardingIndexLocation) (size : ℕ) (outer : Interval) (bytes : List ℕ) → size ≤ outer.size → HasInterval outer (Some bytes)
    → take size (drop (outer.offset + index_start location size outer.size) bytes) ≡ index_part location size (interval_part outer (Some bytes))
index_slice Start size outer bytes h there =
    let at_start : outer.offset + 0 ≡ outer.offset = omega arith in
    ap (λ n. take size (drop n bytes)) at_start ∙ sym (take-take size outer.size (drop outer.offset bytes) h)
index_slice End size outer bytes h there =
    let part = interval_part outer (Some bytes) in
    let long : length part ≡ outer.size = length-interval_part outer (Some bytes) there in
    let rest = drop (outer.size - size) part in
    let rest_long : length rest ≡ size = omega (arith, length-drop (outer.size - size) part) in
    sym (slice_of_part (outer.size - size) size outer.offset outer.size bytes (omega arith))
    ∙ ap (λ n. take n rest) (sym rest_long) ∙ take-length rest ∙ ap (λ n. drop (n - size) part) (sym long)

-- what was read where the index of a shard in an interval stands is the index of the interval's bytes
pub index_found : (location : ShardingIndexLocation) (size : ℕ) (outer : Interval) (contents : Option (List ℕ)) (found : List ℕ) → size ≤ outer.size → HasInterval outer contents
    → IsPart (FromStart (outer.offset + index_start location size outer.size) (Some size)) contents (Some found) → found ≡ index_part location size (interval_part outer contents)
index_found location size outer None found h there told = absurd there
index_found location size outer (Some bytes) found h there told =
    let is : Some found ≡ Some (take size (drop (outer.offset + index_start location size outer.size) bytes)) = told.1 in
    let same : found ≡ take size (drop (outer.offset + index_start location size outer.size) bytes) = cc in
    same ∙ index_slice location size outer bytes h there
