-- An array that is encoded and decoded again.
use Rattle.std.specs.Prelude.{⊤, ℕ, List, Some, map}
use Rattle.parts_errors.specs.declared.error.CodecError.{CodecError}
use Rattle.parts_errors.specs.declared.error.CodecError.TheVariants.{OutOfMemory, TooLarge}
use Rattle.codec_traits.specs.Refusals.{AreTooLong}

-- how the encoding of these elements may be refused where it is decoded
abbrev pub MayRefuseRoundTrip : List (List ℕ) → CodecError → Type 0
MayRefuseRoundTrip elements OutOfMemory = ⊤
MayRefuseRoundTrip elements TooLarge = AreTooLong (map Some elements)
MayRefuseRoundTrip elements _ = ⊥
