-- An array that is encoded anew by another codec.
use Rattle.std.specs.Prelude.{◌≡◌, ◌⊎◌, ⊤, Some, IsSome, IsSomeAnd, map}
use Rattle.parts_errors.specs.Words.{Bytes, Elements, CellList, Refusals}
use Rattle.parts_errors.specs.Order.{◌or_as◌then◌}
use Rattle.parts_errors.specs.declared.error.CodecError.{CodecError}
use Rattle.parts_errors.specs.declared.error.CodecError.TheVariants.{OutOfMemory, TooLarge}
use Rattle.parts_arrays.specs.ArraySpec.{ArraySpec, IsArrayOf}
use Rattle.parts_arrays.specs.Types.{size_of}
use Rattle.parts_arrays.specs.Arrays.{Array}
use Rattle.codec_traits.specs.Cells.{all_there}
use Rattle.codec_traits.specs.Meanings.{Meaning}
use Rattle.codec_traits.specs.Refusals.{AreTooLong, RefusesUnserved, MayRefuseEncode, MayRefuseDecode}

-- the old bytes are an array by one codec, and the new bytes are an encoding of it by the other
pub record IsResharded (g : ArraySpec) (from to : Meaning) (old new : Bytes) : Type 0 where
  pub elements : Elements
  pub array : IsArrayOf g elements
  pub cells : from.cells old ≡ map Some elements
  pub written : to.written elements new

-- the old bytes are an array by one codec, and the new bytes are the one encoding of it by the other
pub record IsReshardedTo (g : ArraySpec) (from : Meaning) (encoding : Elements → Bytes) (old new : Bytes) : Type 0 where
  pub elements : Elements
  pub array : IsArrayOf g elements
  pub cells : from.cells old ≡ map Some elements
  pub encoded : new ≡ encoding elements

-- the array of the elements of bytes whose cells are all there
abbrev pub array_of : ArraySpec → Elements → Array
array_of g elements = record { kind = size_of g.data_type; elements = elements }

-- the tests of a reshard: of both codecs whether they serve the arrays, of the bytes by one, and by the other of the array that they are
abbrev pub ReshardRefusals : ArraySpec → (from to : Meaning) → Bytes → Refusals
ReshardRefusals g from to old =
    from.serves or_as RefusesUnserved from then
    to.serves or_as RefusesUnserved to then
    IsSome (all_there (from.cells old)) or_as from.decode_refusals old then
    (λ e. IsSomeAnd (all_there (from.cells old)) (λ elements. to.encode_refusals (array_of g elements) e))

-- how a reshard may be refused where both codecs serve the arrays: as a decoding of the bytes, or as an encoding of the array that they are
abbrev pub MayRefuseReshard : (from to : Meaning) → Bytes → CodecError → Type 0
MayRefuseReshard from to old e =
    MayRefuseDecode (from.cells old) e ⊎ IsSomeAnd (all_there (from.cells old)) (λ elements. MayRefuseEncode to elements e)

-- how a decoding of cells that are all there may be refused
abbrev pub MayRefuseDecodeAgain : CellList → CodecError → Type 0
MayRefuseDecodeAgain cells OutOfMemory = ⊤
MayRefuseDecodeAgain cells TooLarge = AreTooLong cells
MayRefuseDecodeAgain cells _ = ⊥
