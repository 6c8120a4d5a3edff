-- What a codec means for the arrays of one shape, type and fill value.
use Rattle.std.specs.Prelude.{ℕ, List, Option}
use Rattle.parts_arrays.specs.Arrays.{Array}
use Rattle.parts_errors.specs.declared.error.CodecError.{CodecError}
use Rattle.codec_traits.specs.declared.representation.BytesRepresentation.{BytesRepresentation}

-- how the work on the arrays of one shape is shared
pub record Concurrency : Type 1 where
  -- the codec tells it of such arrays
  pub served : Type 0
  -- how many workers can share the work
  pub workers : ℕ
  -- how `recommended_concurrency` refuses: its tests in their order
  pub refusals : CodecError → Type 0

pub record Meaning : Type 1 where
  -- the codec serves these arrays
  pub serves : Type 0
  -- what bytes stand for: as many cells as the shape has, each an element or none
  pub cells : List ℕ → List (Option (List ℕ))
  -- the bytes are an encoding of the elements
  pub written : List (List ℕ) → List ℕ → Type 0
  -- the elements have an encoding
  pub encodable : List (List ℕ) → Type 0
  -- what is made of the elements on the way can be addressed
  pub fits : List (List ℕ) → Type 0
  -- how long encodings are, or none where no number can say it
  pub representation : Option BytesRepresentation
  -- how `check` refuses: its tests in their order
  pub check_refusals : CodecError → Type 0
  -- how `encode` refuses after the tests of `check`
  pub encode_refusals : Array → CodecError → Type 0
  -- how `decode` refuses after the tests of `check`
  pub decode_refusals : List ℕ → CodecError → Type 0
  -- the second bytes are the first ones, rewritten without what isn't needed
  pub compacted : List ℕ → List ℕ → Type 0
  -- how `compact` refuses: its tests in their order
  pub compact_refusals : List ℕ → CodecError → Type 0
  -- so many cells can be answered by one read
  pub answerable : ℕ → Type 0
  -- how a read of the cells at some coordinates refuses the bytes that it finds in its interval
  pub read_refusals : List ℕ → List (List ℕ) → CodecError → Type 0
