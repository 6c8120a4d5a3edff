-- New slices and an index, put into a shard.
use Rattle.std.proofs.Common.{◌≡◌, ℕ, ◌+◌, ◌-◌, ◌^◌, ◌<◌, ◌≤◌, inl, inr, List, Some, All, length, map, max, get_or, take, drop, refl, sym, ap, ◌∙◌, arith, length-take, length-drop, length-append}
use Rattle.std.proofs.lemmas.List.{ext_get_or, get_or-take, get_or-drop}
use Rattle.parts_errors.specs.Words.{Written}
use Rattle.storage_handles.specs.Writes.{written_at}
use Rattle.storage_handles.proofs.WriteLaws.{length-written_at, written_inside, written_outside}
use Rattle.sharding_format.specs.Index.{absent_number, data_start, element_of_number}
use Rattle.sharding_format.specs.Laying.{whole_shard, EndsBelow, IsStoredIn}
use Rattle.sharding_format.specs.Packing.{LiesInShard}
use Rattle.sharding_format.specs.declared.slot.Slot.{Slot}
use Rattle.sharding_format.specs.declared.slot.Slot.TheVariants.{Absent, InRange, Bad}
use Rattle.sharding_format.specs.declared.location.ShardingIndexLocation.{ShardingIndexLocation}
use Rattle.sharding_format.specs.declared.location.ShardingIndexLocation.TheVariants.{Start, End}
use Rattle.sharding_format.proofs.EncodingLemmas.{whole_of}
use Rattle.sharding_write.specs.Writing.{HasEntries, HasPut, IsPut, KeepsSlices, GoesTo, index_after}

no_offset : (i : ℕ) → i - 0 ≡ i
no_offset i = omega arith

-- slices of as many bytes are one where each byte is
pub same_slice : (p o n : ℕ) (xs ys : List ℕ) → p + n ≤ length xs → o + n ≤ length ys → ((i : ℕ) → i < n → get_or xs (p + i) 0 ≡ get_or ys (o + i) 0)
    → take n (drop p xs) ≡ take n (drop o ys)
same_slice p o n xs ys in_xs in_ys each =
    let long = length-take n (drop p xs) in
    let long_ys = length-take n (drop o ys) in
    let rest = length-drop p xs in
    let rest_ys = length-drop o ys in
    ext_get_or 0 (take n (drop p xs)) (take n (drop o ys)) (omega (arith, long, long_ys, rest, rest_ys, in_xs, in_ys)) (λ i lt.
    let below : i < n = omega (arith, lt, long) in
    get_or-take n (drop p xs) i 0 below ∙ get_or-drop p xs i 0 ∙ each i below ∙ sym (get_or-drop o ys i 0) ∙ sym (get_or-take n (drop o ys) i 0 below))

-- all bytes of a list are its slice from the first on
pub whole_slice : (p : ℕ) (xs ys : List ℕ) → p + length ys ≤ length xs → ((i : ℕ) → i < length ys → get_or xs (p + i) 0 ≡ get_or ys i 0) → take (length ys) (drop p xs) ≡ ys
whole_slice p xs ys inside each =
    let long = length-take (length ys) (drop p xs) in
    let rest = length-drop p xs in
    ext_get_or 0 (take (length ys) (drop p xs)) ys (omega (arith, long, rest, inside)) (λ i lt.
    let below : i < length ys = omega (arith, lt, long) in
    get_or-take (length ys) (drop p xs) i 0 below ∙ get_or-drop p xs i 0 ∙ each i below)

module _ (index_written : Written) (location : ShardingIndexLocation) (size : ℕ) (touched : List ℕ) (slots : List Slot) (slices numbers new_numbers index : List ℕ)
    (sized : length index ≡ size) (written : index_written (map element_of_number new_numbers) index) (below : All (λ n. n < 2 ^ 64) new_numbers) where
  -- a shard of just these
  pub put_anew : HasEntries touched (λ i. get_or slots i Bad) (data_start location size) numbers new_numbers (length touched) → size + length slices < absent_number
      → HasPut index_written location size touched slots slices numbers (data_start location size) (whole_shard location index slices) new_numbers
  put_anew entries small =
      let w = whole_of location size index slices sized in
      record {
        entries = entries;
        below = below;
        index = record { long_enough = omega (arith, w.len); written = rw w.index_is written };
        after_start = omega arith;
        before_end = w.inside;
        small = omega (arith, w.len, small);
        slice = w.slice;
      }

-- written after the old slices
module _ (index_written : Written) (size : ℕ) (touched : List ℕ) (slots : List Slot) (slices numbers new_numbers index old : List ℕ)
    (sized : length index ≡ size) (written : index_written (map element_of_number new_numbers) index) (below : All (λ n. n < 2 ^ 64) new_numbers) (write_offset : ℕ) where
  -- with the index at the end it goes right behind the new slices
  module _ (at : write_offset + size ≡ length old) where
    pub end_length : length (written_at (write_offset + length slices) index (written_at write_offset slices old)) ≡ length old + length slices
    end_length =
        omega (arith, length-written_at (write_offset + length slices) index (written_at write_offset slices old), length-written_at write_offset slices old, sized, at)

    end_slices : (i : ℕ) → i < length slices → get_or (written_at (write_offset + length slices) index (written_at write_offset slices old)) (write_offset + i) 0 ≡ get_or slices i 0
    end_slices i lt =
        let from : write_offset + i - write_offset ≡ i = omega arith in
        written_outside (write_offset + length slices) index (written_at write_offset slices old) (write_offset + i) (inl (omega (arith, lt)))
        ∙ written_inside write_offset slices old (write_offset + i) (omega arith) (omega (arith, lt)) ∙ ap (λ k. get_or slices k 0) from

    end_index : (i : ℕ) → i < length index → get_or (written_at (write_offset + length slices) index (written_at write_offset slices old)) (write_offset + length slices + i) 0 ≡ get_or index i 0
    end_index i lt =
        let from : write_offset + length slices + i - (write_offset + length slices) ≡ i = omega arith in
        written_inside (write_offset + length slices) index (written_at write_offset slices old) (write_offset + length slices + i) (omega arith) (omega (arith, lt)) ∙ ap (λ k. get_or index k 0) from

    end_kept : (i : ℕ) → i < write_offset → get_or (written_at (write_offset + length slices) index (written_at write_offset slices old)) i 0 ≡ get_or old i 0
    end_kept i lt =
        written_outside (write_offset + length slices) index (written_at write_offset slices old) i (inl (omega (arith, lt))) ∙ written_outside write_offset slices old i (inl lt)

    pub end_keeps : KeepsSlices 0 write_offset old (written_at (write_offset + length slices) index (written_at write_offset slices old))
    end_keeps o n from upto =
        same_slice o o n (written_at (write_offset + length slices) index (written_at write_offset slices old)) old (omega (arith, upto, at, end_length)) (omega (arith, upto, at)) (λ i lt. end_kept (o + i) (omega (arith, lt, upto)))

    pub put_end : HasEntries touched (λ i. get_or slots i Bad) write_offset numbers new_numbers (length touched) → length old + length slices < absent_number
        → HasPut index_written End size touched slots slices numbers write_offset (written_at (write_offset + length slices) index (written_at write_offset slices old)) new_numbers
    put_end entries small =
        let new = written_at (write_offset + length slices) index (written_at write_offset slices old) in
        let long : length new ≡ length old + length slices = end_length in
        let begins : length new - size ≡ write_offset + length slices = omega (arith, long, at) in
        let rest = drop (write_offset + length slices) new in
        let rest_long : length rest ≡ length index = omega (arith, length-drop (write_offset + length slices) new, long, at, sized) in
        let is : drop (length new - size) new ≡ index = ap (λ k. drop k new) begins ∙ ext_get_or 0 rest index rest_long (λ i lt.
        get_or-drop (write_offset + length slices) new i 0 ∙ end_index i (omega (arith, lt, rest_long))) in
        record {
          entries = entries;
          below = below;
          index = record { long_enough = omega (arith, long, at); written = rw is written };
          after_start = omega arith;
          before_end = omega (arith, long, at);
          small = omega (arith, long, small);
          slice = λ o n upto. same_slice (write_offset + o) o n new slices (omega (arith, upto, long, at)) upto (λ i lt.
              let here : write_offset + o + i ≡ write_offset + (o + i) = omega arith in
              ap (λ k. get_or new k 0) here ∙ end_slices (o + i) (omega (arith, lt, upto)));
        }

  -- with the index at the start it takes the place of the old one
  module _ (after : size ≤ write_offset) where
    pub start_length : size ≤ length old → length (written_at 0 index (written_at write_offset slices old)) ≡ max (length old) (write_offset + length slices)
    start_length enough = omega (arith, length-written_at 0 index (written_at write_offset slices old), length-written_at write_offset slices old, sized, enough)

    pub start_keeps : (new : List ℕ) → new ≡ written_at 0 index (written_at write_offset slices old) → size ≤ length old → write_offset ≤ length old → KeepsSlices size write_offset old new
    start_keeps new is enough inside o n from upto =
        let long = ap length is ∙ start_length enough in
        same_slice o o n new old (omega (arith, upto, inside, long)) (omega (arith, upto, inside)) (λ i lt.
        ap (λ xs. get_or xs (o + i) 0) is
        ∙ written_outside 0 index (written_at write_offset slices old) (o + i) (inr (omega (arith, from, sized))) ∙ written_outside write_offset slices old (o + i) (inl (omega (arith, lt, upto))))

    pub put_start : (new : List ℕ) → new ≡ written_at 0 index (written_at write_offset slices old) → size ≤ length old → HasEntries touched (λ i. get_or slots i Bad) write_offset numbers new_numbers (length touched)
        → max (length old) (write_offset + length slices) < absent_number → HasPut index_written Start size touched slots slices numbers write_offset new new_numbers
    put_start new is enough entries small =
        let long : length new ≡ max (length old) (write_offset + length slices) = ap length is ∙ start_length enough in
        let index_is : take size new ≡ index = ap (λ k. take k new) (sym sized) ∙ whole_slice 0 new index (omega (arith, long, enough, sized)) (λ i lt.
        let plain : 0 + i ≡ i = omega arith in
        ap (λ k. get_or new k 0) plain ∙ ap (λ xs. get_or xs i 0) is ∙ written_inside 0 index (written_at write_offset slices old) i (omega arith) (omega (arith, lt)) ∙ ap (λ k. get_or index k 0) (no_offset i)) in
        record {
          entries = entries;
          below = below;
          index = record { long_enough = omega (arith, long, enough); written = rw index_is written };
          after_start = after;
          before_end = omega (arith, long);
          small = omega (arith, long, small);
          slice = λ o n upto. same_slice (write_offset + o) o n new slices (omega (arith, upto, long)) upto (λ i lt.
              let from : write_offset + o + i - write_offset ≡ o + i = omega arith in
              ap (λ xs. get_or xs (write_offset + o + i) 0) is
              ∙ written_outside 0 index (written_at write_offset slices old) (write_offset + o + i) (inr (omega (arith, after, sized)))
              ∙ written_inside write_offset slices old (write_offset + o + i) (omega arith) (omega (arith, lt, upto)) ∙ ap (λ k. get_or slices k 0) from);
        }

-- a slot in slices that go to a place ends below the absent number
pub ends_below : (total write_offset : ℕ) (s : Slot) → LiesInShard total s → write_offset + total < absent_number → EndsBelow write_offset s
ends_below total write_offset Absent h small = tt
ends_below total write_offset (InRange offset size) h small = omega (arith, h, small)
ends_below total write_offset Bad h small = absurd h

pub start_small : (location : ShardingIndexLocation) (size : ℕ) → data_start location size ≤ size
start_small Start size = omega arith
start_small End size = omega arith

-- the length of a new shard
pub anew_length : (location : ShardingIndexLocation) (index slices : List ℕ) → length (whole_shard location index slices) ≡ length index + length slices
anew_length Start index slices = length-append index slices
anew_length End index slices = omega (arith, length-append slices index)

-- what is written after the old slices, wherever the index stands
pub put_after_all : (index_written : Written) (location : ShardingIndexLocation) (size : ℕ) (touched : List ℕ) (slots : List Slot) (slices numbers new_numbers index old : List ℕ) (write_offset len : ℕ)
    → length index ≡ size → index_written (map element_of_number new_numbers) index → All (λ n. n < 2 ^ 64) new_numbers
    → HasEntries touched (λ i. get_or slots i Bad) write_offset numbers new_numbers (length touched) → size ≤ length old → GoesTo location size (length old) write_offset (length slices) len → len < absent_number
    → IsPut index_written location size touched slots slices numbers write_offset (Some (written_at (index_after location write_offset (length slices)) index (written_at write_offset slices old))) new_numbers len
    × KeepsSlices (data_start location size) write_offset old (written_at (index_after location write_offset (length slices)) index (written_at write_offset slices old))
put_after_all index_written Start size touched slots slices numbers new_numbers index old write_offset len sized written below entries enough goes small =
    let new = written_at 0 index (written_at write_offset slices old) in (
      (
        put_start index_written size touched slots slices numbers new_numbers index old sized written below write_offset goes.0 new refl enough entries (omega (arith, goes.2, small)),
        start_length index_written size touched slots slices numbers new_numbers index old sized written below write_offset goes.0 enough ∙ sym goes.2,
      ),
      start_keeps index_written size touched slots slices numbers new_numbers index old sized written below write_offset goes.0 new refl enough goes.1,
    )
put_after_all index_written End size touched slots slices numbers new_numbers index old write_offset len sized written below entries enough goes small = (
  (
    put_end index_written size touched slots slices numbers new_numbers index old sized written below write_offset goes.0 entries (omega (arith, goes.1, small)),
    end_length index_written size touched slots slices numbers new_numbers index old sized written below write_offset goes.0 ∙ sym goes.1,
  ),
  end_keeps index_written size touched slots slices numbers new_numbers index old sized written below write_offset goes.0,
)

-- slots that are laid lie in their slices
pub stored_inside : (inner_written : Written) (fill : List ℕ) (e : List (List ℕ)) (slices : List ℕ) (s : Slot) → IsStoredIn inner_written fill e slices s → LiesInShard (length slices) s
stored_inside inner_written fill e slices Absent h = tt
stored_inside inner_written fill e slices (InRange offset size) h = h.2
stored_inside inner_written fill e slices Bad h = absurd h
