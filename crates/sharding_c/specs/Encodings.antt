-- What the call leaves that encodes a whole shard of encoded subchunks.
use Rattle.std.specs.Prelude.{◌≡◌, ◌<◌, ◌≤◌, ◌+◌, ◌^◌, ℕ, List, length}
use Rattle.parts_errors.specs.Words.{Bytes}
use Rattle.parts_errors.specs.declared.error.CodecError.TheVariants.{OutOfMemory, InvalidNumberOfElements}
use Rattle.sharding_format.specs.Compacting.{present_size}
use Rattle.sharding_format.specs.Laying.{whole_shard}
use Rattle.sharding_plans.specs.declared.packed.PackedShard.{PackedShard}
use Rattle.sharding_plans.specs.PackedShards.{IsPackedShard, LayOutRefusals, slots_of_sizes}
use Rattle.sharding_c.specs.declared.layout.Layout.{Layout}
use Rattle.sharding_c.specs.declared.status.Refusal.{Refusal}
use Rattle.sharding_c.specs.declared.status.Refusal.TheVariants.{Codec, RoomTooSmall}
use Rattle.sharding_c.specs.Statuses.{◌or_refused◌then◌, ◌or_refused_by◌then◌}
use Rattle.sharding_c.specs.Layouts.{IsLaidOut, index_bytes, index_place, index_size, subchunks_of}
use Rattle.sharding_c.specs.Exports.{LaidTests}
use Rattle.sharding_c.specs.Changes.{AreInFront}

-- how many bytes the stored ones of encoded subchunks of these sizes have, and the object with the index
abbrev pub stored_bytes : Layout → (sizes : List ℕ) → ℕ
stored_bytes layout sizes = present_size (slots_of_sizes sizes) (subchunks_of layout)

abbrev pub encoded_size : Layout → (sizes : List ℕ) → ℕ
encoded_size layout sizes = index_size layout.index (subchunks_of layout) + stored_bytes layout sizes

-- the object stands in front of a room: the encodings, and before or behind them the bytes of the index that their lay-out says
pub record IsEncodingWritten (layout : Layout) (sizes : List ℕ) (encodings old new : Bytes) (len : ℕ) : Type 0 where
  pub shard : PackedShard
  pub packed : IsPackedShard (index_place layout) (subchunks_of layout) (slots_of_sizes sizes) shard
  pub written : AreInFront (whole_shard (index_place layout).location (index_bytes layout.index shard.numbers.items) encodings) old new
  pub long : len ≡ shard.len

-- there are sizes of all subchunks, and a number can say how long the object is
abbrev pub CanBeLaidOut : Layout → (sizes : List ℕ) → Type 0
CanBeLaidOut layout sizes = (length sizes ≡ subchunks_of layout) × (encoded_size layout sizes + 1 < 2 ^ 64)

-- what an encoding has passed, by how many bytes are given and how many have room
pub record CanBeEncoded (layout : Layout) (sizes : List ℕ) (given room : ℕ) : Type 0 where
  pub flags : layout.index < 8
  pub laid : IsLaidOut layout
  pub sized : CanBeLaidOut layout sizes
  pub fits : encoded_size layout sizes ≤ room
  pub all_given : given ≡ stored_bytes layout sizes

-- the tests of an encoding
abbrev pub EncodeTests : Layout → (sizes : List ℕ) → (given room : ℕ) → Refusal → Type 0
EncodeTests layout sizes given room =
    LaidTests layout (
    CanBeLaidOut layout sizes or_refused_by LayOutRefusals layout.shape.now layout.subchunk_shape.now (index_place layout) sizes then
    encoded_size layout sizes ≤ room or_refused RoomTooSmall (encoded_size layout sizes) then
    given ≡ stored_bytes layout sizes or_refused Codec InvalidNumberOfElements then
    (λ refusal. refusal ≡ Codec OutOfMemory))
