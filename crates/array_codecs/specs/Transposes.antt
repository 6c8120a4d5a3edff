-- The codec `transpose` that metadata names (Zarr V3, codec `transpose`).
use Rattle.std.specs.Prelude.{ℕ, Bool, false, ◌==◌, ◌&&◌, List, length, Option, Ok, Some, None, codes, bytes_eq, if◌then◌else◌}
use Rattle.std.specs.Prelude.{option_and_then}
use Rattle.parts_errors.specs.Words.{Bytes}
use Rattle.serde_json.specs.Data.{Data, Items, no_items, item}
use Rattle.serde_json.specs.Find.{get}
use Rattle.codec_metadata.specs.CreateErrors.{Reading, or_refused, bad_field}
use Rattle.codec_metadata.specs.Metadata.{codec_of}
use Rattle.array_fields.specs.MetadataFields.{whole_numbers_in}
use Rattle.array_codecs.specs.AxisOrders.{is_order}
use Rattle.array_fields.specs.MetadataFields.{is_named}

-- the numbers are a permutation of this number of axes
abbrev pub if_order : ℕ → List ℕ → Option (List ℕ)
if_order axes order = if (length order == axes) && is_order order then Some order else None

-- the order of a configuration
abbrev pub order_in : ℕ → Data → Option (List ℕ)
order_in axes d = option_and_then (if_order axes) (option_and_then whole_numbers_in (get (codes "order") d))

-- the codec of the name `transpose`, by its order
abbrev pub transpose_configured : ℕ → Option Data → Reading (List ℕ)
transpose_configured axes d = or_refused (option_and_then (order_in axes) d) (bad_field (codes "order")) (λ order. Ok order)

abbrev pub transpose_in : ℕ → Data → Reading (List ℕ)
transpose_in axes = codec_of (bytes_eq (codes "transpose")) (λ name. transpose_configured axes)

-- a list begins with `transpose`, and the codec of a name stands behind it
abbrev pub is_transposed : Bytes → Items → Bool
is_transposed name (item d (item e later)) = is_named (codes "transpose") d && is_named name e
is_transposed name list = false

abbrev pub first_of : Items → Option Data
first_of no_items = None
first_of (item d later) = Some d

abbrev pub behind_first : Items → Items
behind_first no_items = no_items
behind_first (item d later) = later

-- the metadata of `transpose` there, and the codecs behind it, or the whole list
abbrev pub transpose_before : Bytes → Items → Option Data
transpose_before name list = if is_transposed name list then first_of list else None

abbrev pub untransposed : Bytes → Items → Items
untransposed name list = if is_transposed name list then behind_first list else list
