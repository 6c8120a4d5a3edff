-- Plain numbers, which stand one after the other as the codec `bytes` stores them.
use Rattle.std.specs.Prelude.{◌≡◌, ◌<◌, ◌+◌, ◌-◌, ◌%◌, ℕ, length, slice_index}
use Rattle.parts_errors.specs.Words.{Bytes}
use Rattle.parts_errors.specs.declared.error.CodecError.TheVariants.{InvalidNumberOfElements, WrongElementKind, Damaged}
use Rattle.sharding_c.specs.declared.status.Refusal.{Refusal}
use Rattle.sharding_c.specs.declared.status.Refusal.TheVariants.{Codec}
use Rattle.sharding_c.specs.Statuses.{◌or_refused◌then◌, passed}

-- where the byte stands that comes to a place: as far from the other end of its number, which has this size
abbrev pub mirrored : ℕ → ℕ → ℕ
mirrored size i = i - i % size + (size - 1 - i % size)

-- numbers of a size with the bytes of each in reverse
pub record AreReversed (size : ℕ) (old new : Bytes) : Type 0 where
  pub same_length : length new ≡ length old
  pub bytes : (i : ℕ) → i < length old → slice_index new i ≡ slice_index old (mirrored size i)

-- the tests of plain numbers of a size, by how many bytes they have and how many their elements
abbrev pub PlainTests : (size encoded elements : ℕ) → Refusal → Type 0
PlainTests size encoded elements =
    0 < size or_refused Codec WrongElementKind then
    encoded % size ≡ 0 or_refused Codec Damaged then
    elements ≡ encoded or_refused Codec InvalidNumberOfElements then
    passed
