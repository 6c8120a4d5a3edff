-- The metadata of a codec: a string, its name, or an object with `name`, `configuration` and `must_understand`.
use Rattle.std.specs.Prelude.{Bool, false, Option, Some, None, Err, if◌then◌else◌, codes, bytes_eq, is_some, option_and_then, unwrap_or}
use Rattle.parts_errors.specs.Words.{Bytes}
use Rattle.serde_json.specs.Data.{Data, string, object, Members, no_members, member}
use Rattle.serde_json.specs.Find.{get, as_str, as_bool, as_object}
use Rattle.codec_metadata.specs.CreateErrors.{Reading, or_refused, unsupported_codec, bad_field}

-- the members of an object, in the order of their keys
abbrev pub members_in : Data → Members
members_in d = unwrap_or (as_object d) no_members

-- the key of the first member, in the order of keys, that does not pass a test
abbrev pub first_refused : (Bytes → Data → Bool) → Members → Option Bytes
first_refused passes no_members = None
first_refused passes (member key d later) = if passes key d then first_refused passes later else Some key

-- where each member passes, what is read next; else the first that does not is refused by its key
abbrev pub unless_refused : {A : Type 0} → Option Bytes → Reading A → Reading A
unless_refused None later = later
unless_refused (Some key) later = Err (bad_field key)

-- the name that metadata gives
abbrev pub name_in : Data → Option Bytes
name_in (string name) = Some name
name_in d = option_and_then as_str (get (codes "name") d)

-- the members that metadata may have: a name, a configuration, and a mark that is not used
abbrev pub is_metadata_member : Bytes → Data → Bool
is_metadata_member key d =
    if bytes_eq key (codes "name") then is_some (as_str d) else
    if bytes_eq key (codes "configuration") then is_some (as_object d) else
    if bytes_eq key (codes "must_understand") then is_some (as_bool d) else false

-- the codec of metadata, for a codec that has some names and reads its configuration so
abbrev pub codec_of : {Codec : Type 0} → (Bytes → Bool) → (Bytes → Option Data → Reading Codec) → Data → Reading Codec
codec_of named configured d =
    or_refused (name_in d) (bad_field (codes "name")) (λ name.
    if named name then unless_refused (first_refused is_metadata_member (members_in d)) (configured name (get (codes "configuration") d))
    else Err (unsupported_codec name))

-- the metadata that is written, with a configuration or without one
abbrev pub metadata_of : Bytes → Option Members → Data
metadata_of name None = object (member (codes "name") (string name) no_members)
metadata_of name (Some configuration) =
    object (member (codes "configuration") (object configuration) (member (codes "name") (string name) no_members))
