-- Why an array may be refused: the tests of encoding, in their order.
use Rattle.std.specs.Prelude.{◌≡◌, ◌≤◌, ◌<◌, ◌^◌, ◌⊎◌, ℕ, ◌+◌, ◌*◌, List, length, map}
use Rattle.std.specs.List.{All}
use Rattle.parts_errors.specs.Words.{Refusals, Written}
use Rattle.parts_errors.specs.Order.{◌or◌then◌, ◌or_as◌then◌, EachAs}
use Rattle.parts_row_major.specs.Numbering.{count_of}
use Rattle.parts_subsets.specs.Grid.{grid_of, subchunk}
use Rattle.parts_arrays.specs.Arrays.{Array}
use Rattle.parts_arrays.specs.declared.data_type.DataTypeSize.{DataTypeSize}
use Rattle.parts_errors.specs.declared.error.CodecError.{CodecError}
use Rattle.parts_errors.specs.declared.error.CodecError.TheVariants.{TooLarge, CannotEncode, WrongElementKind, InvalidNumberOfElements}
use Rattle.codec_traits.specs.Meanings.{Meaning}
use Rattle.sharding_format.specs.Index.{element_of_number}
use Rattle.sharding_format.specs.Cells.{Layout}
use Rattle.sharding_format.specs.Encoding.{IsAllFill}
use Rattle.sharding_format.specs.Serves.{IsStoredPart, total_size}

-- how another codec may refuse to encode, save for memory
abbrev pub RefusesToEncode : Type 0 → Type 0 → CodecError → Type 0
RefusesToEncode Encodable Fits e = ((e ≡ CannotEncode) × (¬ Encodable)) ⊎ ((e ≡ TooLarge) × (¬ Fits))

-- how a subchunk may be refused, which is to be stored
abbrev pub RefusesToStore : (inner_encodable inner_fits : List (List ℕ) → Type 0) → List ℕ → List (List ℕ) → CodecError → Type 0
RefusesToStore inner_encodable inner_fits fill elements e = (¬ (IsAllFill fill elements))
    × RefusesToEncode (inner_encodable elements) (inner_fits elements) e

-- a subchunk can be stored
abbrev pub HasPart : Written → List ℕ → List (List ℕ) → Type 0
HasPart inner_written fill elements = (part : List ℕ) × IsStoredPart inner_written fill elements part

-- the tests of the first n subchunks, ascending: the first that is refused gives the refusal
abbrev pub StoreRefusals : (inner : Meaning) → List ℕ → (ℕ → List (List ℕ)) → ℕ → Refusals → CodecError → Type 0
StoreRefusals inner fill subchunks n later =
    EachAs n (λ k. HasPart inner.written fill (subchunks k)) (λ k. RefusesToStore inner.encodable inner.fits fill (subchunks k))
    later

-- some parts of the subchunks have, with the index, a size with P
pub record SomeTotal (inner_written : Written) (l : Layout) (a : List (List ℕ)) (P : ℕ → Type 0) : Type 0 where
  pub parts : ℕ → List ℕ
  pub each : (k : ℕ) → k < count_of (grid_of l.shape l.sub) → IsStoredPart inner_written l.fill (subchunk l.shape l.sub a k) (parts k)
  pub total : P (total_size l parts)

-- how the index of so many subchunks may be refused
pub record RefusesIndex (index : Meaning) (subchunks : ℕ) (e : CodecError) : Type 0 where
  pub numbers : List ℕ
  pub counted : length numbers ≡ 2 * subchunks
  pub below : All (λ n. n < 2 ^ 64) numbers
  pub refuses : RefusesToEncode (index.encodable (map element_of_number numbers)) (index.fits (map element_of_number numbers)) e

-- the tests of a whole array after those of `check`
abbrev pub EncodeRefusals : (inner index : Meaning) → Layout → DataTypeSize → Array → CodecError → Type 0
EncodeRefusals inner index l kind array =
    array.kind ≡ kind or WrongElementKind then
    length array.elements ≡ count_of l.shape or InvalidNumberOfElements then
    StoreRefusals inner l.fill (subchunk l.shape l.sub array.elements) (count_of (grid_of l.shape l.sub))
    (SomeTotal inner.written l array.elements (λ n. n + 1 < 2 ^ 64) or_as
    (λ e. (e ≡ TooLarge) × SomeTotal inner.written l array.elements (λ n. 2 ^ 64 ≤ n + 1)) then
    RefusesIndex index (count_of (grid_of l.shape l.sub)))
