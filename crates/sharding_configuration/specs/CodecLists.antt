-- A list of codecs of which one member is taken.
use Rattle.std.specs.Prelude.{Bool, Option, Some, None, Err, if◌then◌else◌}
use Rattle.parts_errors.specs.Words.{Bytes}
use Rattle.serde_json.specs.Data.{Data, Items, no_items, item}
use Rattle.codec_metadata.specs.CreateErrors.{Reading, Refusal, unsupported_codec, bad_field, unsupported_chain}
use Rattle.codec_metadata.specs.Metadata.{name_in, codec_of}

-- why a member of the list under a key does not name a codec with some names, or nothing where it does
abbrev pub name_refusal : Bytes → (Bytes → Bool) → Option Bytes → Option Refusal
name_refusal key named None = Some (bad_field key)
name_refusal key named (Some name) = if named name then None else Some (unsupported_codec name)

-- the first refusal of two
abbrev pub or_later : Option Refusal → Option Refusal → Option Refusal
or_later None later = later
or_later (Some refusal) later = Some refusal

-- why the first member that does not name it is refused
abbrev pub first_unnamed : Bytes → (Bytes → Bool) → Items → Option Refusal
first_unnamed key named no_items = None
first_unnamed key named (item d later) = or_later (name_refusal key named (name_in d)) (first_unnamed key named later)

-- the codec of a list with one member
abbrev pub sole_of : {Codec : Type 0} → (Data → Reading Codec) → Items → Reading Codec
sole_of codec (item d no_items) = codec d
sole_of codec d = Err unsupported_chain

-- the codec of a list: each member is tested for its name, then how many there are, and then the member is read
abbrev pub listed : {Codec : Type 0} → Option Refusal → Reading Codec → Reading Codec
listed None codec = codec
listed (Some refusal) codec = Err refusal

abbrev pub codec_in_list : {Codec : Type 0} → Bytes → (Bytes → Bool) → (Bytes → Option Data → Reading Codec) → Items → Reading Codec
codec_in_list key named configured ds = listed (first_unnamed key named ds) (sole_of (codec_of named configured) ds)
