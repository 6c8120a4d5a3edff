-- The metadata of an array that is accepted, by its text.
use Rattle.std.specs.Prelude.{◌≡◌, ◌≤◌, Some, None, Ok, codes, length, option_and_then, option_map, string_bytes, unwrap_or, vec_len}
use Rattle.serde_json.specs.Data.{no_items}
use Rattle.serde_json.specs.Find.{as_str, as_array}
use Rattle.serde_json.specs.Read.{read}
use Rattle.parts_errors.specs.Words.{Bytes}
use Rattle.codec_metadata.specs.Metadata.{name_in, first_refused, members_in}
use Rattle.parts_subsets.specs.Grid.{Divides}
use Rattle.parts_arrays.specs.Types.{size_of, FitsKind, HasElements}
use Rattle.array_fields.specs.MetadataFields.{member_in, configured_in, whole_number_in, whole_numbers_in, is_understood}
use Rattle.array_fields.specs.ChunkKeys.{separator_of}
use Rattle.array_fields.specs.KeyEncodings.{encoding_name, default_separator}
use Rattle.array_fields.specs.FillValues.{IsFillIn}
use Rattle.array_metadata.specs.ArrayCodecs.{array_codec_in, encoded_of, subchunk_in, subchunk_of}
use Rattle.array_fields.specs.ElementTypes.{IsTypeIn, carrier}
use Rattle.array_codecs.specs.UnreadCodecs.{chunks_in, unread_codec_in}
use Rattle.array_metadata.specs.declared.metadata.ArrayMetadata.{ArrayMetadata}

-- a text is the metadata of an array of Zarr V3 whose chunk grid is regular, and of which all is understood
pub record IsServedText (text : Bytes) : Type 0 where
  pub format : option_and_then whole_number_in (member_in (codes "zarr_format") text) ≡ Some 3
  pub node_type : option_and_then as_str (member_in (codes "node_type") text) ≡ Some (codes "array")
  pub understood : option_map (λ d. first_refused is_understood (members_in d)) (read text) ≡ Some None
  pub transformers : unwrap_or (option_map as_array (member_in (codes "storage_transformers") text)) (Some no_items) ≡ Some no_items
  pub grid : option_and_then name_in (member_in (codes "chunk_grid") text) ≡ Some (codes "regular")

-- metadata says what its text says
pub record IsReadAs (text : Bytes) (metadata : ArrayMetadata) : Type 0 where
  pub shape : option_and_then whole_numbers_in (member_in (codes "shape") text) ≡ Some metadata.shape.items
  pub element_type : IsTypeIn (option_map string_bytes metadata.unread) (member_in (codes "data_type") text) metadata.element_type
  pub shard : option_and_then whole_numbers_in (option_and_then (configured_in (codes "chunk_shape")) (member_in (codes "chunk_grid") text))
      ≡ Some metadata.shard
  pub encoding : option_and_then name_in (member_in (codes "chunk_key_encoding") text) ≡ Some (encoding_name metadata.keys.encoding)
  pub separator : unwrap_or (option_and_then as_str (option_and_then (configured_in (codes "separator"))
      (member_in (codes "chunk_key_encoding") text))) (default_separator metadata.keys.encoding) ≡ separator_of metadata.keys.slashes
  pub fill_value : IsFillIn metadata.element_type (member_in (codes "fill_value") text) metadata.fill_value
  pub subchunk : subchunk_in (option_and_then chunks_in (member_in (codes "codecs") text)) metadata.shard ≡ Some metadata.subchunk
  pub codecs : option_map (array_codec_in (vec_len metadata.shape)) (option_and_then as_array (member_in (codes "codecs") text))
      ≡ Some (Ok metadata.codec)
  pub unread : option_map string_bytes metadata.unread ≡ unread_codec_in (option_and_then as_array (member_in (codes "codecs") text))

-- the parts of metadata fit together: as many axes everywhere, subchunks that divide chunks evenly as these are encoded, a fill value of
-- the type's size, where its elements have one size
pub record FitsTogether (metadata : ArrayMetadata) : Type 0 where
  pub few : vec_len metadata.shape ≤ 64
  pub shard : length metadata.shard ≡ vec_len metadata.shape
  pub subchunk : length metadata.subchunk ≡ vec_len metadata.shape
  pub encoded : encoded_of metadata.codec metadata.shard ≡ metadata.encoded
  pub encoded_axes : length metadata.encoded ≡ vec_len metadata.shape
  pub divides : Divides metadata.subchunk metadata.encoded
  pub codec : subchunk_of metadata.codec metadata.shard ≡ metadata.subchunk
  pub data_type : metadata.data_type ≡ carrier metadata.element_type
  pub elements : HasElements metadata.data_type
  pub fill_value : FitsKind (size_of metadata.data_type) metadata.fill_value
