-- Raw bits in metadata.
use Rattle.std.specs.Prelude.{◌≡◌, Option, Some}
use Rattle.parts_errors.specs.Words.{Bytes as Text}
use Rattle.serde_json.specs.Data.{Data, string}
use Rattle.base64.specs.Engines.{standard}
use Rattle.base64.specs.GeneralPurpose.{decoded_of}
use Rattle.array_fields.specs.MetadataFields.{whole_numbers_in}

-- the bytes that a text is the base64 of (RFC 4648)
unfoldable pub base64_in : Text → Option Text
base64_in text = decoded_of standard text

-- raw bits are the bytes of a list, or those that a text is the base64 of
abbrev pub IsRawIn : Data → Text → Type 0
IsRawIn (string text) element = base64_in text ≡ Some element
IsRawIn d element = whole_numbers_in d ≡ Some element
