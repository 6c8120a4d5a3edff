-- Elements of one size: they take some bytes, and what an array made of bytes holds.
use Rattle.std.proofs.Common.{◌≡◌, ◌∙◌, ◌*◌, ◌<◌, ℕ, List, [], ◌∷◌, length, ap, refl, arith}
use Rattle.parts_row_major.proofs.PieceLaws.{length-pieces}
use Rattle.parts_arrays.specs.Arrays.{Array, fixed_array}
use Rattle.parts_arrays.specs.Types.{size_of, HasElements}
use Rattle.parts_arrays.specs.declared.data_type.DataType.{DataType}
use Rattle.parts_arrays.specs.declared.data_type.DataTypeSize.TheVariants.{Fixed}
use Rattle.parts_arrays.proofs.ArrayLaws.{whole_from_length, All-fixed_array}
use Rattle.sharding_gather.proofs.SubsetReadLemmas.{fixed_pieces}
use Rattle.sharding_subchunks.specs.Reads.{HasElementsOf}

pub some_bytes : (data_type : DataType) (fill : List ℕ) → HasElements data_type → size_of data_type ≡ Fixed (length fill) → 0 < length fill
some_bytes data_type [] supported fixed = absurd (supported fixed)
some_bytes data_type (byte ∷ rest) supported fixed = omega arith

pub bytes_have_elements : (size many : ℕ) (bytes : List ℕ) (array : Array) → 0 < size → length bytes ≡ many * size → array ≡ fixed_array size bytes
    → HasElementsOf (Fixed size) many array
bytes_have_elements size many bytes array some counted made = rw made (record {
  kind_is = refl;
  counted = ap (λ (elements : List (List ℕ)). length elements) (fixed_pieces size many bytes some counted) ∙ length-pieces size many bytes;
  fitting = All-fixed_array size bytes (whole_from_length size many bytes some counted);
})
