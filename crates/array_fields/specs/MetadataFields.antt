-- What stands in the text of an array's metadata.
use Rattle.std.specs.Prelude.{◌≡◌, ℕ, ℤ, Bool, true, false, not, ◌||◌, ◌&&◌, is_some, List, [], ◌∷◌, codes, bytes_eq, Option, Some, None}
use Rattle.std.specs.Prelude.{option_map, option_and_then, unwrap_or}
use Rattle.parts_errors.specs.Words.{Bytes}
use Rattle.serde_json.specs.Data.{Data, Items, no_items, item}
use Rattle.serde_json.specs.Find.{get, as_array, as_bool, as_null, as_number, as_i64, as_u64}
use Rattle.serde_json.specs.Read.{read}
use Rattle.codec_metadata.specs.Metadata.{name_in, is_metadata_member, first_refused, members_in}

-- what stands under a key of the object that a text is
abbrev pub member_in : Bytes → Bytes → Option Data
member_in key text = option_and_then (get key) (read text)

-- a whole number from 0 on
abbrev pub whole_number_in : Data → Option ℕ
whole_number_in d = option_and_then as_u64 (as_number d)

-- a whole number of 64 bits, of either sign
abbrev pub integer_in : Data → Option ℤ
integer_in d = option_and_then as_i64 (as_number d)

-- the whole numbers that a list has, where each member is one
abbrev pub whole_numbers_of : Items → Option (List ℕ)
whole_numbers_of no_items = Some []
whole_numbers_of (item d later) =
    option_and_then (λ number. option_map (λ numbers. number ∷ numbers) (whole_numbers_of later)) (whole_number_in d)

abbrev pub whole_numbers_in : Data → Option (List ℕ)
whole_numbers_in d = option_and_then whole_numbers_of (as_array d)

-- what stands under a key of an extension's configuration
abbrev pub configured_in : Bytes → Data → Option Data
configured_in key d = option_and_then (get key) (get (codes "configuration") d)

-- the keys of an array's metadata
abbrev pub is_known : Bytes → Bool
is_known key = bytes_eq key (codes "zarr_format") || bytes_eq key (codes "node_type") || bytes_eq key (codes "shape")
    || bytes_eq key (codes "data_type") || bytes_eq key (codes "chunk_grid") || bytes_eq key (codes "chunk_key_encoding")
    || bytes_eq key (codes "fill_value") || bytes_eq key (codes "codecs") || bytes_eq key (codes "attributes")
    || bytes_eq key (codes "dimension_names") || bytes_eq key (codes "storage_transformers")

-- a member that some writers leave, with nothing in it
abbrev pub is_left : Bytes → Data → Bool
is_left key d = bytes_eq key (codes "consolidated_metadata") && is_some (as_null d)

-- whether a member is known, or left with nothing in it, or says that it need not be understood
abbrev pub is_understood : Bytes → Data → Bool
is_understood key d = is_known key || is_left key d || not (unwrap_or (option_and_then as_bool (get (codes "must_understand") d)) true)

-- whether metadata has a name
abbrev pub is_named : Bytes → Data → Bool
is_named name d = unwrap_or (option_map (bytes_eq name) (name_in d)) false

-- metadata has a name, and no members but those that metadata may have
pub record Names (d : Data) (name : Bytes) : Type 0 where
  pub named : name_in d ≡ Some name
  pub tested : first_refused is_metadata_member (members_in d) ≡ None
