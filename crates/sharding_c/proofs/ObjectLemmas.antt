-- How long the bytes of an index are, and what is refused behind a lay-out.
use Rattle.std.proofs.Common.{◌≡◌, ◌<◌, ◌≤◌, ◌+◌, ◌*◌, ◌^◌, ◌++◌, ◌∙◌, ℕ, Bool, true, false, if◌then◌else◌, List, [], ◌∷◌, length, refl, ap, inl, inr, arith, flat_map}
use Rattle.std.specs.Int.{to_le_bytes, w32}
use Rattle.std.proofs.lemmas.List.{length-append}
use Rattle.codec_checksums.specs.Castagnoli.{checksum}
use Rattle.parts_errors.specs.declared.error.CodecError.TheVariants.{InvalidNumberOfElements}
use Rattle.sharding_plans.specs.declared.packed.PackedShard.{PackedShard}
use Rattle.sharding_plans.specs.PackedShards.{IsPackedShard, slots_of_sizes}
use Rattle.sharding_c.specs.declared.layout.Layout.{Layout}
use Rattle.sharding_c.specs.declared.status.Refusal.TheVariants.{Codec, RoomTooSmall}
use Rattle.sharding_c.specs.Layouts.{IsLaidOut, index_bytes, index_place, index_size, is_set, number_bytes, subchunks_of}
use Rattle.sharding_c.specs.Encodings.{EncodeTests, encoded_size, stored_bytes}

number_long : (is_big : Bool) (n : ℕ) → length (number_bytes is_big n) ≡ 8
number_long true n = refl
number_long false n = refl

numbers_long : (is_big : Bool) (numbers : List ℕ) → length (flat_map (number_bytes is_big) numbers) ≡ 8 * length numbers
numbers_long is_big [] = refl
numbers_long is_big (n ∷ numbers) =
    length-append (number_bytes is_big n) (flat_map (number_bytes is_big) numbers) ∙ omega (arith, number_long is_big n, numbers_long is_big numbers)

-- with a checksum, if it has one
checked_long : (has : Bool) (bytes : List ℕ) (subchunks : ℕ) → length bytes ≡ 16 * subchunks
    → length (if has then bytes ++ to_le_bytes w32 (checksum bytes) else bytes) ≡ 16 * subchunks + (if has then 4 else 0)
checked_long true bytes subchunks long = length-append bytes (to_le_bytes w32 (checksum bytes)) ∙ omega (arith, long)
checked_long false bytes subchunks long = omega (arith, long)

pub index_long : (flags subchunks : ℕ) (numbers : List ℕ) → length numbers ≡ 2 * subchunks
    → length (index_bytes flags numbers) ≡ index_size flags subchunks
index_long flags subchunks numbers counted =
    checked_long (is_set flags 4) (flat_map (number_bytes (is_set flags 2)) numbers) subchunks
    (omega (arith, numbers_long (is_set flags 2) numbers, counted))

-- what an encoding refuses behind the lay-out
module _ (layout : Layout) (sizes : List ℕ) (shard : PackedShard) (given room : ℕ) (flags : layout.index < 8) (laid : IsLaidOut layout)
    (packed : IsPackedShard (index_place layout) (subchunks_of layout) (slots_of_sizes sizes) shard) (counted : length sizes ≡ subchunks_of layout) where
  small : encoded_size layout sizes + 1 < 2 ^ 64
  small = omega (arith, packed.long, packed.small)

  pub after_lay_out : room < shard.len → EncodeTests layout sizes given room (RoomTooSmall shard.len)
  after_lay_out short =
      inr (flags, inr (laid, inr ((counted, small), inl (omega (arith, packed.long, short), ap RoomTooSmall packed.long))))

  pub after_fit : shard.len ≤ room → (¬ (given ≡ stored_bytes layout sizes)) → EncodeTests layout sizes given room (Codec InvalidNumberOfElements)
  after_fit fits other = inr (flags, inr (laid, inr ((counted, small), inr (omega (arith, packed.long, fits), inl (other, refl)))))
