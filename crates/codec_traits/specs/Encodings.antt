-- Encodings that are put behind other bytes, and encodings that are the elements themselves.
use Rattle.std.specs.Prelude.{◌≡◌, ◌<◌, ◌*◌, ◌++◌, ℕ, List, Some, length, map}
use Rattle.std.specs.List.{concat}
use Rattle.parts_row_major.specs.Numbering.{count_of}
use Rattle.parts_row_major.specs.Pieces.{pieces}
use Rattle.parts_arrays.specs.ArraySpec.{ArraySpec, IsArrayOf}
use Rattle.parts_arrays.specs.Types.{size_of}
use Rattle.parts_arrays.specs.declared.data_type.DataTypeSize.TheVariants.{Fixed}
use Rattle.codec_traits.specs.Meanings.{Meaning}

-- behind the old bytes, which stay, stands an encoding of the elements; `written` says when bytes are one
pub record IsEncodedOnto (written : List (List ℕ) → List ℕ → Type 0) (elements : List (List ℕ)) (old new : List ℕ) : Type 0 where
  pub encoding : List ℕ
  pub is_encoding : written elements encoding
  pub appended : new ≡ old ++ encoding

-- the codec serves such arrays, and stores their elements, which have one size, one after the other as they are in memory: so many
-- bytes, which may be any bytes
pub record IsPlain (g : ArraySpec) (m : Meaning) (size : ℕ) : Type 0 where
  pub serves : m.serves
  pub fixed : size_of g.data_type ≡ Fixed (length g.fill)
  pub some : 0 < length g.fill
  pub size_is : size ≡ count_of g.shape * length g.fill
  pub cells : (b : List ℕ) → length b ≡ size → m.cells b ≡ map Some (pieces (length g.fill) (count_of g.shape) b)
  pub written : (a : List (List ℕ)) → IsArrayOf g a → m.written a (concat a)
