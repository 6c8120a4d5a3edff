-- A shard that is put after bytes that are there: room for its index where this stands in front, and the slices.
use Rattle.std.proofs.Common.{◌≡◌, ℕ, ◌+◌, List, ◌++◌, length, take, replicate, ap, arith, length-append}
use Rattle.std.proofs.lemmas.List.{length-replicate}
use Rattle.sharding_format.specs.Index.{data_start}
use Rattle.sharding_format.specs.declared.location.ShardingIndexLocation.{ShardingIndexLocation}
use Rattle.sharding_subchunks.proofs.AppendLemmas.{stay_themselves, stay_before, stay_through}

-- the bytes stay in front of the room and of the slices
pub stay_in_front : (old room more stored_slices : List ℕ) → room ≡ old ++ more → take (length room) stored_slices ≡ room → take (length old) stored_slices ≡ old
stay_in_front old room more stored_slices is stay = stay_through old room stored_slices (stay_before old old more room (stay_themselves old) is) stay

-- the room is as large as the index
pub room_of_index : (location : ShardingIndexLocation) (size : ℕ) (old room index : List ℕ)
    → room ≡ old ++ replicate (data_start location size) 0 → length index ≡ size → length old + data_start location (length index) ≡ length room
room_of_index location size old room index is sized =
    omega (arith, ap length is, length-append old (replicate (data_start location size) 0), length-replicate {A = ℕ} (data_start location size) 0, ap (data_start location) sized)
