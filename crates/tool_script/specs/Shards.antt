-- What a script's shard is asked to serve.
use Rattle.std.specs.Prelude.{◌<◌, ◌^◌, ◌+◌, ⊤, ℕ, List, Option, Some, None, IsSome, length}
use Rattle.parts_errors.specs.Words.{Bytes, Refusals}
use Rattle.storage_handles.specs.Handles.{seen}
use Rattle.codec_traits.specs.Meanings.{Meaning}
use Rattle.codec_traits.specs.Refusals.{RefusesUnserved}
use Rattle.parts_arrays.specs.ArraySpec.{ArraySpec, array_spec}
use Rattle.codec_bytes.specs.declared.bytes_codec.Endianness.{Endianness}
use Rattle.codec_bytes.specs.declared.bytes_codec.Endianness.TheVariants.{Little}
use Rattle.sharding_codec.specs.declared.codec.ShardingCodec.{ShardingCodec}
use Rattle.sharding_format.specs.declared.location.ShardingIndexLocation.{ShardingIndexLocation}
use Rattle.sharding_format.specs.declared.order.SubchunkWriteOrder.{SubchunkWriteOrder}
use Rattle.sharding_format.specs.declared.order.SubchunkWriteOrder.TheVariants.{C}
use Rattle.codec_vlen.specs.declared.default_codec.DefaultArrayToBytesCodec.{DefaultArrayToBytesCodec}
use Rattle.codec_vlen.specs.DefaultCodec.{default_codec_of}
use Rattle.tool_script.specs.Elements.{type_of}
use Rattle.tool_script.specs.declared.element_type.ElementType.{ElementType}
use Rattle.sharding_codec.specs.Decoders.{index_in}
use Rattle.sharding_codec.specs.Sessions.{index_size_of, subchunks_of}
use Rattle.sharding_write.specs.Writing.{HoldsNumbers, IsCachedIndex}
use Rattle.zarrs_sharding.specs.Resharding.{ReshardRefusals}
use Rattle.tool_script.specs.declared.command.Settings.{Settings}
use Rattle.tool_script.specs.declared.shard.Shard.{Shard}
use Rattle.tool_script.specs.declared.tool.Tool.{Tool}

-- the codecs of a script's shards: the default codec inside, whole numbers in the index
abbrev pub ScriptCodec : Type 0
ScriptCodec = ShardingCodec DefaultArrayToBytesCodec (Option Endianness)

-- the codec that the builder makes for a type: that of the type inside, and in the index whole numbers with their least significant byte
-- first; with the order in which it writes subchunks
abbrev pub codec_with : List ℕ → ElementType → ShardingIndexLocation → SubchunkWriteOrder → ScriptCodec
codec_with subchunk_shape element_type location order = record {
  subchunk_shape = subchunk_shape;
  inner = default_codec_of (type_of element_type);
  index_codec = Some Little;
  location = location;
  order = order;
}

-- the codec that settings ask for: it writes subchunks in order
abbrev pub codec_of : Settings → ScriptCodec
codec_of s = codec_with s.subchunk_shape s.element_type s.location C

-- the arrays that settings ask for
abbrev pub settings_spec : Settings → ArraySpec
settings_spec s = array_spec s.shape (type_of s.element_type) s.fill_value

-- the arrays of a shard
abbrev pub spec_of_shard : Shard → ArraySpec
spec_of_shard s = array_spec s.shape (type_of s.element_type) s.fill_value

-- what a shard is: its codec, the arrays that it is asked for, its grid of subchunks, and the bytes of its object
pub record ShardState : Type 0 where
  pub codec : ScriptCodec
  pub array_spec : ArraySpec
  pub grid : List ℕ
  pub object : Option (List ℕ)

abbrev pub state_of : Shard → ShardState
state_of s =
    record { codec = s.codec; array_spec = spec_of_shard s; grid = s.chunks_per_shard; object = seen (λ bytes. bytes.items) s.object }

-- an object that can be opened: none, or bytes that can be counted and that have an index
abbrev pub Opens : (List ℕ → Option (List ℕ)) → Option (List ℕ) → Type 0
Opens index_in None = ⊤
Opens index_in (Some bytes) = (length bytes + 1 < 2 ^ 64) × IsSome (index_in bytes)

-- what is held of an object that is open for writing: its length, and the numbers of its index, each entry of them absent or in the data
-- part; and P of these numbers
pub record OpensWith {I X : Type 0} (meaning : X → ArraySpec → Meaning) (codec : ShardingCodec I X) (g : ArraySpec)
    (object : Option (List ℕ))
    (P : List ℕ → Type 0) : Type 0 where
  pub len : ℕ
  pub numbers : List ℕ
  pub cached : HoldsNumbers (index_in meaning codec g) object len numbers
  pub placed : IsCachedIndex codec.location (index_size_of meaning codec g) (subchunks_of codec g) len numbers
  pub holds : P numbers

-- an object that can be opened for writing
abbrev pub OpensToWrite : {I X : Type 0} → (X → ArraySpec → Meaning) → ShardingCodec I X → ArraySpec → Option (List ℕ) → Type 0
OpensToWrite meaning codec g object = OpensWith meaning codec g object (λ numbers. ⊤)

-- what a tool works on, where there is a shard
abbrev pub tool_state : Tool → Option ShardState
tool_state tool = seen state_of tool.shard

-- the tests of a reshard of an object; where there is none, of the new codec whether it serves the arrays
abbrev pub ObjectReshardRefusals : ArraySpec → (from to : Meaning) → Option Bytes → Refusals
ObjectReshardRefusals g from to None = RefusesUnserved to
ObjectReshardRefusals g from to (Some old) = ReshardRefusals g from to old
