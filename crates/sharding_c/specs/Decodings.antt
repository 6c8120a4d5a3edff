-- What the calls leave that decode a subchunk into a room.
use Rattle.std.specs.Prelude.{◌≡◌, ◌≤◌, ◌++◌, ℕ, Option, Some, length, drop}
use Rattle.codec_compression.specs.Bits.{Bytes}
use Rattle.codec_compression.specs.Refusals.{Refuses}
use Rattle.codec_compression.specs.declared.error.DecompressError.{DecompressError}
use Rattle.codec_compression.specs.declared.error.DecompressError.TheVariants.{Damaged, TooLong, OutOfMemory}
use Rattle.sharding_c.specs.declared.layout.Told.{Told}

-- the content stands at the front of a room, whose rest stays; `told` has its length
pub record IsDecoded (found : Option Bytes) (old new : Bytes) (told_old told_new : Told) : Type 0 where
  pub content : Bytes
  pub is : found ≡ Some content
  pub fits : length content ≤ length old
  pub put : new ≡ content ++ drop (length content) old
  pub told : told_new ≡ record { room = length content; subchunk = told_old.subchunk }

-- OutOfMemory, Damaged, RoomTooSmall
abbrev pub status_of_decoding : DecompressError → ℕ
status_of_decoding OutOfMemory = 1
status_of_decoding Damaged = 15
status_of_decoding TooLong = 64

-- a decoding into a room is refused: as damaged where there is no content, as too long where it is longer than the room
pub record IsDecodingRefused (found : Option Bytes) (room status : ℕ) : Type 0 where
  pub error : DecompressError
  pub refuses : Refuses room found error
  pub numbered : status ≡ status_of_decoding error
