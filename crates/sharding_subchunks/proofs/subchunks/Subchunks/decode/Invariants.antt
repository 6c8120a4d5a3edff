use Rattle.std.proofs.Common.{◌≡◌, ◌<◌, ℕ, length, get_or, None}
use Rattle.sharding_subchunks.specs.steps.Inner.{spec_of_subchunks}
use Rattle.sharding_format.specs.Index.{slot_at}
use Rattle.sharding_format.specs.steps.Decoding.{IsDecoded}
use Rattle.sharding_subchunks.proofs.subchunks.Subchunks.decode.Given as goal

abbrev pub invariant-loop-k : goal.invariant-loop-k
invariant-loop-k g l = let sub_g = spec_of_subchunks l.self in record {
  counted : length l.found.items ≡ l.k;
  each : (k : ℕ) → k < l.k → IsDecoded (g.I.ArrayToBytesCodecTraits.meaning l.self.codec.now sub_g).cells sub_g l.bytes (slot_at (length l.bytes) l.index.numbers.items k) (get_or l.found.items k None);
}
