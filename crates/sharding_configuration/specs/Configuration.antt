-- The configuration of the codec `sharding_indexed`, read from JSON and written.
use Rattle.std.specs.Prelude.{ℕ, nat_lt, Bool, ◌||◌, List, [], ◌∷◌, Option, Some, None, Ok, if◌then◌else◌, codes, bytes_eq, map, option_map, option_and_then}
use Rattle.parts_errors.specs.Words.{Bytes}
use Rattle.serde_json.specs.Data.{Data, unsigned, number, string, array, Items, no_items, item, Members, no_members, member}
use Rattle.serde_json.specs.View.{items_of}
use Rattle.serde_json.specs.Find.{get, as_array, as_number, as_object, as_str, as_u64}
use Rattle.sharding_format.specs.declared.location.ShardingIndexLocation.{ShardingIndexLocation}
use Rattle.sharding_format.specs.declared.location.ShardingIndexLocation.TheVariants.{Start, End}
use Rattle.codec_metadata.specs.CreateErrors.{Reading, or_refused, and_then, missing_field, bad_field}
use Rattle.codec_metadata.specs.Metadata.{first_refused, unless_refused}

-- what a configuration says: the shape of subchunks, the codecs of subchunks and of the index, and where the index stands
pub record Configuration : Type 0 where
  pub chunk_shape : List ℕ
  pub codecs : Items
  pub index_codecs : Items
  pub index_location : ShardingIndexLocation

-- the members that a configuration may have
abbrev pub is_configuration_member : Bytes → Data → Bool
is_configuration_member key d = bytes_eq key (codes "chunk_shape") || bytes_eq key (codes "codecs")
    || bytes_eq key (codes "index_codecs") || bytes_eq key (codes "index_location")

-- what stands under a key that must be there, in its form
abbrev pub field : {A : Type 0} → Bytes → (Data → Option A) → Data → Reading A
field key form d = or_refused (get key d) (missing_field key) (λ value. or_refused (form value) (bad_field key) Ok)

-- what stands under a key, in its form, or a value for where it is not there
abbrev pub value_or : {A : Type 0} → A → Bytes → (Data → Option A) → Option Data → Reading A
value_or default key form None = Ok default
value_or default key form (Some value) = or_refused (form value) (bad_field key) Ok

abbrev pub field_or : {A : Type 0} → A → Bytes → (Data → Option A) → Data → Reading A
field_or default key form d = value_or default key form (get key d)

-- a whole number from 1 on
abbrev pub positive : ℕ → Option ℕ
positive n = if nat_lt 0 n then Some n else None

abbrev pub axis_in : Data → Option ℕ
axis_in d = option_and_then positive (option_and_then as_u64 (as_number d))

-- the axes that a list has, where each member is one
abbrev pub axes_in : Items → Option (List ℕ)
axes_in no_items = Some []
axes_in (item d later) = option_and_then (λ axis. option_map (λ axes. axis ∷ axes) (axes_in later)) (axis_in d)

abbrev pub shape_in : Data → Option (List ℕ)
shape_in d = option_and_then axes_in (as_array d)

-- the words for the places of the index
abbrev pub location_word : ShardingIndexLocation → Bytes
location_word Start = codes "start"
location_word End = codes "end"

abbrev pub location_named : Bytes → Option ShardingIndexLocation
location_named word =
    if bytes_eq word (codes "start") then Some Start else if bytes_eq word (codes "end") then Some End else None

abbrev pub location_in : Data → Option ShardingIndexLocation
location_in d = option_and_then location_named (as_str d)

-- the configuration that a value is: no other member than its four, and then each of these in turn
abbrev pub configuration_in : Data → Reading Configuration
configuration_in d =
    or_refused (as_object d) (bad_field (codes "configuration")) (λ members.
    unless_refused (first_refused is_configuration_member members) (
    and_then (field (codes "chunk_shape") shape_in d) (λ shape.
    and_then (field (codes "codecs") as_array d) (λ codecs.
    and_then (field (codes "index_codecs") as_array d) (λ index_codecs.
    and_then (field_or End (codes "index_location") location_in d) (λ location.
    Ok (record { chunk_shape = shape; codecs = codecs; index_codecs = index_codecs; index_location = location })))))))

-- a list of numbers, as it is written
abbrev pub axes_written : List ℕ → Items
axes_written axes = items_of (map (λ axis. number (unsigned axis)) axes)

-- a configuration as it is written: all four members, in the order of their keys
abbrev pub configuration_written : Configuration → Members
configuration_written c =
    member (codes "chunk_shape") (array (axes_written c.chunk_shape)) (
    member (codes "codecs") (array c.codecs) (
    member (codes "index_codecs") (array c.index_codecs) (
    member (codes "index_location") (string (location_word c.index_location)) no_members)))
