-- A codec from arrays to bytes with a codec from arrays to arrays before it.
use Rattle.std.specs.Prelude.{◌≡◌, ◌<◌, ◌^◌, ⊤, ℕ, Option, IsSome, length, option_and_then}
use Rattle.std.specs.List.{sum_by}
use Rattle.parts_errors.specs.Words.{Bytes, Elements, CellList, Refusals}
use Rattle.parts_errors.specs.Order.{◌or◌then◌, ◌or_as◌then◌, done}
use Rattle.parts_errors.specs.declared.error.CodecError.TheVariants.{WrongElementKind, InvalidNumberOfElements}
use Rattle.parts_row_major.specs.Numbering.{count_of}
use Rattle.parts_arrays.specs.ArraySpec.{ArraySpec}
use Rattle.parts_arrays.specs.Types.{size_of}
use Rattle.parts_arrays.specs.Arrays.{Array}
use Rattle.parts_arrays.specs.declared.data_type.DataTypeSize.{DataTypeSize}
use Rattle.codec_traits.specs.Cells.{all_there}
use Rattle.codec_traits.specs.Meanings.{Meaning}
use Rattle.codec_traits.specs.WholeArrays.{whole_cells, WholeRefusals}
use Rattle.codec_chains.specs.ArrayCodings.{ArrayCoding, encoded_array}

-- the elements of the bytes: the inverse of the array that they are for the second codec
unfoldable pub chain_elements : ArrayCoding → Meaning → Bytes → Option Elements
chain_elements coding m b = option_and_then coding.decoding (all_there (m.cells b))

-- the cells of the bytes: all are there, or none
unfoldable pub array_chain_cells : ArrayCoding → Meaning → ArraySpec → Bytes → CellList
array_chain_cells coding m g b = whole_cells (count_of g.shape) (chain_elements coding m b)

-- the second codec can make the array, and the bytes of what it is given can be addressed
pub record ArrayChainFits (coding : ArrayCoding) (m : Meaning) (elements : Elements) : Type 0 where
  pub fits : m.fits (coding.encoding elements)
  pub addressed : sum_by length (coding.encoding elements) < 2 ^ 64

-- the tests of an array that is to have so many elements of a kind
abbrev pub ArrayElementRefusals : DataTypeSize → ℕ → Array → Refusals → Refusals
ArrayElementRefusals kind count array later =
    array.kind ≡ kind or WrongElementKind then
    length array.elements ≡ count or InvalidNumberOfElements then
    later

-- the tests of `encode` after those of `check`
abbrev pub ArrayChainEncodeRefusals : ArrayCoding → Meaning → ArraySpec → Array → Refusals
ArrayChainEncodeRefusals coding m g array =
    ArrayElementRefusals (size_of g.data_type) (count_of g.shape) array (m.encode_refusals (encoded_array coding array))

-- the tests of `decode` after those of `check`: those of the second codec, then that there is an inverse
abbrev pub ArrayChainDecodeRefusals : ArrayCoding → Meaning → Bytes → Refusals
ArrayChainDecodeRefusals coding m b =
    IsSome (all_there (m.cells b)) or_as m.decode_refusals b then
    WholeRefusals (chain_elements coding m b)

-- what the chain means, by what both codecs mean
abbrev pub array_chain_meaning : ArrayCoding → Meaning → ArraySpec → Meaning
array_chain_meaning coding m g = record {
  serves = m.serves;
  cells = array_chain_cells coding m g;
  written = λ elements b. m.written (coding.encoding elements) b;
  encodable = λ elements. m.encodable (coding.encoding elements);
  fits = ArrayChainFits coding m;
  representation = m.representation;
  check_refusals = m.check_refusals;
  encode_refusals = ArrayChainEncodeRefusals coding m g;
  decode_refusals = ArrayChainDecodeRefusals coding m;
  compacted = λ old new. ⊥;
  compact_refusals = λ b. done;
  answerable = λ n. ⊤;
  read_refusals = λ b points. ArrayChainDecodeRefusals coding m b;
}
