-- The metadata of the codec `bytes`: its configuration has the byte order of whole numbers, where there is one.
use Rattle.std.specs.Prelude.{Bool, false, ◌||◌, Option, Some, None, Ok, if◌then◌else◌, codes, bytes_eq, is_some, option_and_then}
use Rattle.parts_errors.specs.Words.{Bytes}
use Rattle.serde_json.specs.Data.{Data, string, Members, no_members, member}
use Rattle.serde_json.specs.Find.{get, as_str}
use Rattle.codec_bytes.specs.declared.bytes_codec.Endianness.{Endianness}
use Rattle.codec_bytes.specs.declared.bytes_codec.Endianness.TheVariants.{Little, Big}
use Rattle.codec_metadata.specs.CreateErrors.{Reading}
use Rattle.codec_metadata.specs.Metadata.{members_in, first_refused, unless_refused}

-- the names that are read
abbrev pub is_bytes_name : Bytes → Bool
is_bytes_name name = bytes_eq name (codes "bytes") || bytes_eq name (codes "endian")

-- the byte order of a word
abbrev pub byte_order : Bytes → Option Endianness
byte_order word = if bytes_eq word (codes "little") then Some Little else if bytes_eq word (codes "big") then Some Big else None

-- the byte order of a value
abbrev pub byte_order_in : Data → Option Endianness
byte_order_in d = option_and_then byte_order (as_str d)

-- the member that a configuration may have
abbrev pub is_bytes_member : Bytes → Data → Bool
is_bytes_member key d = if bytes_eq key (codes "endian") then is_some (byte_order_in d) else false

-- the byte order of a configuration, or of none
abbrev pub bytes_configured : Option Data → Reading (Option Endianness)
bytes_configured None = Ok None
bytes_configured (Some d) =
    unless_refused (first_refused is_bytes_member (members_in d)) (Ok (option_and_then byte_order_in (get (codes "endian") d)))

-- the word of a byte order
abbrev pub order_word : Endianness → Bytes
order_word Little = codes "little"
order_word Big = codes "big"

-- the configuration that is written
abbrev pub bytes_written : Option Endianness → Option Members
bytes_written None = None
bytes_written (Some order) = Some (member (codes "endian") (string (order_word order)) no_members)
