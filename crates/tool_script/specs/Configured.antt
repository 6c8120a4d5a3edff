-- The codec that a script's configuration makes.
use Rattle.std.specs.Prelude.{◌≡◌, Ok, codes}
use Rattle.parts_errors.specs.Words.{Bytes, Refusals}
use Rattle.parts_errors.specs.Order.{RefusedBy}
use Rattle.serde_json.specs.Read.{read as read_text}
use Rattle.codec_metadata.specs.CreateErrors.{Reading, RefusedAs, or_refused, and_then, bad_field}
use Rattle.codec_metadata.specs.BytesMetadata.{is_bytes_name, bytes_configured}
use Rattle.codec_vlen.specs.DefaultMetadata.{is_default_name, default_configured}
use Rattle.sharding_configuration.specs.CodecLists.{codec_in_list}
use Rattle.sharding_configuration.specs.Configuration.{configuration_in}
use Rattle.sharding_codec.specs.ShardMetadata.{shard_of}
use Rattle.sharding_format.specs.declared.order.SubchunkWriteOrder.{SubchunkWriteOrder}
use Rattle.tool_script.specs.Shards.{ScriptCodec}
use Rattle.tool_script.specs.declared.configure.ConfigureError.{ConfigureError}
use Rattle.tool_script.specs.declared.configure.ConfigureError.TheVariants.{Create, Codec}

-- the codec of a text of JSON, which is a configuration, with the order in which it writes subchunks: no configuration tells it
abbrev pub configured_by : SubchunkWriteOrder → Bytes → Reading ScriptCodec
configured_by order text =
    or_refused (read_text text) (bad_field (codes "configuration")) (λ d.
    and_then (configuration_in d) (λ c.
    and_then (shard_of (codec_in_list (codes "codecs") is_default_name default_configured)
    (codec_in_list (codes "index_codecs") is_bytes_name (λ name. bytes_configured)) c) (λ codec.
    Ok (record codec { order = order }))))

-- a configuration is refused as it is read, and then by the codec that was read
abbrev pub IsRefusal : Reading ScriptCodec → (ScriptCodec → Refusals) → ConfigureError → Type 0
IsRefusal reading unserved (Create e) = RefusedAs reading e
IsRefusal reading unserved (Codec e) = (codec : ScriptCodec) × (reading ≡ Ok codec) × RefusedBy (unserved codec) e
