-- The configuration that the sharding codec writes is read as the codec, where those of its codecs are.
use Rattle.std.specs.Prelude.{◌≡◌, Bool, true, Option, Some, Ok, codes, option_map, refl}
use Rattle.parts_errors.specs.Words.{Bytes}
use Rattle.parts_row_major.specs.Numbering.{AllPositive}
use Rattle.serde_json.specs.Data.{Data, Members, object}
use Rattle.codec_metadata.specs.CreateErrors.{Reading}
use Rattle.codec_metadata.specs.Metadata.{metadata_of}
use Rattle.sharding_configuration.specs.CodecLists.{codec_in_list}
use Rattle.sharding_configuration.specs.ConfigurationLaws.{configuration_in-written}
use Rattle.sharding_configuration.specs.CodecListLaws.{codec_in_list-written}
use Rattle.sharding_codec.specs.declared.codec.ShardingCodec.{ShardingCodec}
use Rattle.sharding_codec.specs.ShardMetadata.{shard_configured, configured_by, shard_written, shard_told}

pub shard_remembers : {I X : Type 0} (I_named X_named : Bytes → Bool)
    (I_configured : Bytes → Option Data → Reading I) (X_configured : Bytes → Option Data → Reading X) (I_name X_name : Bytes)
    (I_written X_written : Option Members) (codec : ShardingCodec I X) (inner : I) (index : X)
    → AllPositive codec.subchunk_shape
    → I_named I_name ≡ true → I_configured I_name (option_map object I_written) ≡ Ok inner
    → X_named X_name ≡ true → X_configured X_name (option_map object X_written) ≡ Ok index
    → shard_configured (codec_in_list (codes "codecs") I_named I_configured) (codec_in_list (codes "index_codecs") X_named X_configured)
    (Some (object (shard_written (metadata_of I_name I_written) (metadata_of X_name X_written) codec)))
    ≡ Ok (shard_told inner index codec)
shard_remembers I_named X_named I_configured X_configured I_name X_name I_written X_written codec inner index positive
    I_known I_made X_known X_made =
    rw (
      configuration_in-written (configured_by (metadata_of I_name I_written) (metadata_of X_name X_written) codec) positive,
      codec_in_list-written (codes "codecs") I_named I_configured I_name I_written inner I_known I_made,
      codec_in_list-written (codes "index_codecs") X_named X_configured X_name X_written index X_known X_made,
    )

pub shard_told_again : {I X : Type 0} (I_name : I → Bytes) (X_name : X → Bytes)
    (I_written : I → Option Members) (X_written : X → Option Members)
    (codec : ShardingCodec I X) (inner : I) (index : X)
    → (I_name inner ≡ I_name codec.inner) × (I_written inner ≡ I_written codec.inner)
    → (X_name index ≡ X_name codec.index_codec) × (X_written index ≡ X_written codec.index_codec)
    → Some (shard_written (metadata_of (I_name inner) (I_written inner))
    (metadata_of (X_name index) (X_written index)) (shard_told inner index codec))
    ≡ Some (shard_written (metadata_of (I_name codec.inner) (I_written codec.inner))
    (metadata_of (X_name codec.index_codec) (X_written codec.index_codec)) codec)
shard_told_again I_name X_name I_written X_written codec inner index I_same X_same = rw (I_same.0, I_same.1, X_same.0, X_same.1) refl
