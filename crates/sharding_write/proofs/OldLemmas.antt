-- The old cells of a subchunk, from what was read of its slice.
use Rattle.std.proofs.Common.{◌≡◌, ℕ, List, Option, Some, None, map, take, drop, refl}
use Rattle.storage_handles.specs.declared.bytes.ByteRange.TheVariants.{FromStart}
use Rattle.storage_handles.specs.Handles.{IsPart}
use Rattle.storage_handles.specs.Objects.{HasInterval}
use Rattle.storage_handles.specs.Writes.{bytes_of}
use Rattle.sharding_format.specs.DecodeRefusals.{HasArray}
use Rattle.codec_traits.specs.CellLaws.{all_there-map_some}
use Rattle.sharding_format.specs.declared.slot.Slot.TheVariants.{InRange}

-- what was read of a slice that lies in the object
pub part_found : (contents : Option (List ℕ)) (offset size : ℕ) (part : List ℕ) → HasInterval (record { offset = offset; size = size }) contents
    → IsPart (FromStart offset (Some size)) contents (Some part) → part ≡ take size (drop offset (bytes_of contents))
part_found None offset size part there told = absurd there
part_found (Some bytes) offset size part there told =
    let is : Some part ≡ Some (take size (drop offset bytes)) = told.1 in
    cc

-- a slice that was decoded has an array
pub has_array : (inner_cells : List ℕ → List (Option (List ℕ))) (bytes part : List ℕ) (offset size : ℕ) (elements : List (List ℕ)) → part ≡ take size (drop offset bytes)
    → inner_cells part ≡ map Some elements → HasArray inner_cells bytes (InRange offset size)
has_array inner_cells bytes part offset size elements is cells = rw (← is, cells, all_there-map_some elements) refl
