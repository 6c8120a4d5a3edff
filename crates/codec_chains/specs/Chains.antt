-- A codec from arrays to bytes with a codec from bytes to bytes after it.
use Rattle.std.specs.Prelude.{◌≡◌, ⊤, ℕ, if◌then◌else◌, nat_eq, Option, Some, None, length, replicate}
use Rattle.std.specs.Option.{option_map}
use Rattle.parts_errors.specs.Words.{Bytes, Elements, CellList, CellsOf, Written, Refusals}
use Rattle.parts_errors.specs.Order.{◌or◌then◌, ◌or_as◌then◌, done}
use Rattle.parts_errors.specs.declared.error.CodecError.TheVariants.{TooLarge, Damaged}
use Rattle.parts_row_major.specs.Numbering.{count_of}
use Rattle.parts_arrays.specs.ArraySpec.{ArraySpec}
use Rattle.parts_arrays.specs.Arrays.{Array}
use Rattle.codec_traits.specs.declared.representation.BytesRepresentation.{BytesRepresentation}
use Rattle.codec_traits.specs.declared.representation.BytesRepresentation.TheVariants.{FixedSize}
use Rattle.codec_traits.specs.Meanings.{Meaning}
use Rattle.codec_chains.specs.Codings.{Coding, AreAddressable}

-- the bytes that were encoded: those that are decoded, but where a fixed length is known, none of another length
unfoldable pub inner_bytes : Option BytesRepresentation → Option Bytes → Option Bytes
inner_bytes (Some (FixedSize n)) (Some decoded) = if nat_eq (length decoded) n then Some decoded else None
inner_bytes told decoded = decoded

-- the bytes that were encoded, by what both codecs mean
abbrev pub chain_bytes : Coding → Meaning → Bytes → Option Bytes
chain_bytes coding m b = inner_bytes m.representation (coding.decoding b)

-- the cells of the bytes that were encoded; where there are none, no cell is there
abbrev pub cells_of : CellsOf → ℕ → Option Bytes → CellList
cells_of cells count None = replicate count None
cells_of cells count (Some inner) = cells inner

-- the tests of the bytes that were encoded; where there are none, the encoding is damaged
abbrev pub InnerRefusals : (Bytes → Refusals) → Option Bytes → Refusals
InnerRefusals refusals None = λ e. e ≡ Damaged
InnerRefusals refusals (Some inner) = refusals inner

-- the bytes are an encoding of bytes that the elements were written to
pub record IsChained (written : Written) (coding : Coding) (elements : Elements) (b : Bytes) : Type 0 where
  pub inner : Bytes
  pub inner_written : written elements inner
  pub encoded : coding.written inner b

-- whatever the elements are written to has encodings that can be addressed
abbrev pub EncodingsFit : Written → Coding → Elements → Type 0
EncodingsFit written coding elements = (inner : Bytes) → written elements inner → AreAddressable coding inner

-- the elements can be written
pub record IsWritable (written : Written) (elements : Elements) : Type 0 where
  pub inner : Bytes
  pub inner_written : written elements inner

-- the tests of `encode` after those of `check`
abbrev pub ChainEncodeRefusals : Coding → Meaning → Array → Refusals
ChainEncodeRefusals coding m array =
    IsWritable m.written array.elements or_as m.encode_refusals array then
    EncodingsFit m.written coding array.elements or TooLarge then
    done

-- what the chain means, by what both codecs mean
abbrev pub chain_meaning : Coding → Meaning → ArraySpec → Meaning
chain_meaning coding m g = record {
  serves = m.serves;
  cells = λ b. cells_of m.cells (count_of g.shape) (chain_bytes coding m b);
  written = IsChained m.written coding;
  encodable = m.encodable;
  fits = λ elements. m.fits elements × EncodingsFit m.written coding elements;
  representation = option_map coding.representation m.representation;
  check_refusals = m.check_refusals;
  encode_refusals = ChainEncodeRefusals coding m;
  decode_refusals = λ b. InnerRefusals m.decode_refusals (chain_bytes coding m b);
  compacted = λ old new. ⊥;
  compact_refusals = λ b. done;
  answerable = λ n. ⊤;
  read_refusals = λ b points. InnerRefusals (λ inner. m.answerable (length points) or TooLarge then m.read_refusals inner points)
      (chain_bytes coding m b);
}
