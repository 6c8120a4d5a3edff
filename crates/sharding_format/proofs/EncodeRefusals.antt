-- A refusal of an array is one that the codec laws allow, and comes in the order of the tests.
use Rattle.std.proofs.Common.{◌≡◌, ℕ, ◌+◌, ◌*◌, ◌^◌, ◌<◌, ◌≤◌, ◌⊎◌, inl, inr, Option, Some, Result, Ok, Err, IfErr, List, length, map, get_or, refl, sym, ap, ◌∙◌, subst, arith, IsPermutation}
use Rattle.std.specs.List.{All, range_with_len, sum_by}
use Rattle.std.proofs.lemmas.List.{length-map}
use Rattle.std.proofs.lemmas.List.Elements.{All-map}
use Rattle.parts_arrays.specs.ArraySpec.{IsArrayOf}
use Rattle.parts_arrays.specs.Arrays.{Array}
use Rattle.parts_row_major.specs.Numbering.{count_of}
use Rattle.parts_errors.specs.Order.{done, RefusedBy}
use Rattle.parts_arrays.specs.declared.data_type.DataTypeSize.{DataTypeSize}
use Rattle.parts_errors.specs.declared.error.CodecError.{CodecError}
use Rattle.parts_errors.specs.declared.error.CodecError.TheVariants.{OutOfMemory, TooLarge, CannotEncode}
use Rattle.parts_subsets.specs.Grid.{grid_of, subchunk}
use Rattle.codec_traits.specs.Meanings.{Meaning}
use Rattle.codec_traits.specs.Refusals.{MayRefuseEncode}
use Rattle.codec_traits.specs.Representations.{IsWithin}
use Rattle.codec_traits.specs.declared.representation.BytesRepresentation.{BytesRepresentation}
use Rattle.codec_traits.specs.declared.representation.BytesRepresentation.TheVariants.{FixedSize}
use Rattle.sharding_format.specs.Cells.{Layout}
use Rattle.sharding_format.specs.Index.{index_spec, element_of_number}
use Rattle.sharding_format.specs.Encoding.{slot_size}
use Rattle.sharding_format.specs.Laying.{IsStoredIn, IsStoredInOrder, IsIndexOf}
use Rattle.sharding_format.specs.Laws.{count-append_two}
use Rattle.sharding_format.specs.Serves.{fixed_size, ShardEncodable, ShardFits, IsStoredPart}
use Rattle.sharding_format.specs.EncodeRefusals.{RefusesToEncode, StoreRefusals, SomeTotal, RefusesIndex, EncodeRefusals}
use Rattle.sharding_format.specs.Packing.{slice_of}
use Rattle.sharding_format.proofs.LayingLemmas.{sum_same, sum_of_order, stored_number, encoding_stored, length_stored}
use Rattle.sharding_format.specs.declared.slot.Slot.{Slot}
use Rattle.sharding_format.specs.declared.slot.Slot.TheVariants.{Bad}

-- another codec's refusal to encode, save for memory
pub refuses_to_encode : (codec : Meaning) (elements : List (List ℕ)) (e : CodecError) → MayRefuseEncode codec elements e → (e ≡ OutOfMemory) ⊎ RefusesToEncode (codec.encodable elements) (codec.fits elements) e
refuses_to_encode codec elements OutOfMemory h = inl refl
refuses_to_encode codec elements CannotEncode h = inr (inl (refl, h))
refuses_to_encode codec elements TooLarge h = inr (inr (refl, h))
refuses_to_encode codec elements _ h = absurd h

-- such a refusal, where the whole cannot be encoded or does not fit because the part cannot
part_refused : (Encodable Fits : Type 0) (codec : Meaning) (whole : List (List ℕ)) (e : CodecError) → (codec.encodable whole → Encodable) → (codec.fits whole → Fits) → RefusesToEncode Encodable Fits e → MayRefuseEncode codec whole e
part_refused Encodable Fits codec whole e can fits h =
    elim h [
      | inl cannot ↦ rw cannot.0 (λ w. cannot.1 (can w))
      | inr large ↦ rw large.0 (λ w. large.1 (fits w))
    ]

module _ (inner index : Meaning) (l : Layout) (kind : DataTypeSize) (array : Array) where
  -- a refusal by the tests is one that the codec laws allow
  pub may_refuse_encode : (whole : Meaning) (e : CodecError) → (whole.encodable array.elements → ShardEncodable inner index l array.elements) → (whole.fits array.elements → ShardFits inner index l array.elements) → array.kind ≡ kind → length array.elements ≡ count_of l.shape
      → RefusedBy (EncodeRefusals inner index l kind array) e
      → MayRefuseEncode whole array.elements e
  may_refuse_encode whole e can fits same counted h =
      elim h [
        | inl memory ↦ rw memory tt
        | inr refusals ↦ elim refusals [
          | inl wrong ↦ absurd (wrong.0 same)
          | inr after_kind ↦ elim after_kind.1 [
            | inl few ↦ absurd (few.0 counted)
            | inr after_count ↦ elim after_count.1 [
              | inl one ↦ part_refused _ _ whole array.elements e (λ w. (can w).subchunks one.0 one.1.0 one.1.2.0) (λ w. (fits w).subchunks one.0 one.1.0 one.1.2.0) one.1.2.1
              | inr after_subchunks ↦ elim after_subchunks.1 [
                | inl large ↦ rw large.0 (λ w. omega (arith, (fits w).total large.1.parts large.1.each, large.1.total))
                | inr after_total ↦
                    let i = after_total.1 in
                    part_refused _ _ whole array.elements e (λ w. (can w).index i.numbers i.counted i.below) (λ w. (fits w).index i.numbers i.counted i.below) i.refuses
              ]
            ]
          ]
        ]
      ]

  -- the tests of the subchunks come after those of the array
  pub store_next : (e : CodecError) → array.kind ≡ kind → length array.elements ≡ count_of l.shape
      → RefusedBy (StoreRefusals inner l.fill (subchunk l.shape l.sub array.elements) (count_of (grid_of l.shape l.sub)) done) e
      → RefusedBy (EncodeRefusals inner index l kind array) e
  store_next e same counted h =
      elim h [
        | inl memory ↦ inl memory
        | inr refusals ↦ inr (inr (same, inr (counted, elim refusals [ inl one ↦ inl one | inr nothing ↦ absurd nothing.1 ])))
      ]

  module _ (bytes : List ℕ) (slots : List Slot) (order : List ℕ) (permutes : IsPermutation (range_with_len 0 (count_of (grid_of l.shape l.sub))) order)
      (stored_slices : IsStoredInOrder inner.written l.fill l.shape l.sub array.elements bytes slots order (count_of (grid_of l.shape l.sub))) where
    abbrev many : ℕ
    many = count_of (grid_of l.shape l.sub)

    stored_slice_at : (k : ℕ) → k < many → IsStoredIn inner.written l.fill (subchunk l.shape l.sub array.elements k) bytes (get_or slots k Bad)
    stored_slice_at k below = stored_number inner.written l.fill l.shape l.sub array.elements bytes slots order many k permutes stored_slices below

    abbrev part_at : ℕ → List ℕ
    part_at k = slice_of bytes (get_or slots k Bad)

    encoding_at : (k : ℕ) → k < count_of (grid_of l.shape l.sub) → IsStoredPart inner.written l.fill (subchunk l.shape l.sub array.elements k) (part_at k)
    encoding_at k below = encoding_stored inner.written l.fill (subchunk l.shape l.sub array.elements k) (get_or slots k Bad) bytes (stored_slice_at k below)

    total_at : sum_by (λ k. length (part_at k)) (range_with_len 0 (count_of (grid_of l.shape l.sub))) ≡ length bytes
    total_at =
        sum_same (λ k. length (part_at k)) (λ k. slot_size (get_or slots k Bad)) (count_of (grid_of l.shape l.sub))
        (λ k below. length_stored inner.written l.fill (subchunk l.shape l.sub array.elements k) (get_or slots k Bad) bytes (stored_slice_at k below))
        ∙ sym (sum_of_order (λ k. slot_size (get_or slots k Bad)) many order permutes)
        ∙ stored_slices.filled

    some_total : (P : ℕ → Type 0) → P (l.index_size + length bytes) → SomeTotal inner.written l array.elements P
    some_total P h = record {
      parts = part_at;
      each = encoding_at;
      total = subst (λ n. P (l.index_size + n)) (sym total_at) h;
    }

    -- then that of the length
    pub total_next : array.kind ≡ kind → length array.elements ≡ count_of l.shape → 2 ^ 64 ≤ l.index_size + length bytes + 1
        → EncodeRefusals inner index l kind array TooLarge
    total_next same counted large =
        inr (same, inr (counted, inr ((λ k below. (part_at k, encoding_at k below)), inl (refl, some_total (λ n. 2 ^ 64 ≤ n + 1) large))))

    -- and that of the index
    pub index_next : (e : CodecError) → array.kind ≡ kind → length array.elements ≡ count_of l.shape → l.index_size + length bytes + 1 < 2 ^ 64
        → RefusedBy (RefusesIndex index (count_of (grid_of l.shape l.sub))) e
        → RefusedBy (EncodeRefusals inner index l kind array) e
    index_next e same counted small h =
        elim h [
          | inl memory ↦ inl memory
          | inr refused ↦ inr (inr (same, inr (counted, inr ((λ k below. (part_at k, encoding_at k below)), inr (some_total (λ n. n + 1 < 2 ^ 64) small, refused)))))
        ]

-- the elements of an index are an array of its array spec
pub array_of_index : (grid numbers : List ℕ) → length numbers ≡ 2 * count_of grid → IsArrayOf (index_spec grid) (map element_of_number numbers)
array_of_index grid numbers counted = record {
  counted = length-map numbers element_of_number ∙ counted ∙ sym (count-append_two grid);
  fitting = All-map (λ e. length e ≡ 8) element_of_number numbers (λ k d below. refl);
}

-- the refusal of an index
pub index_refused : (index : Meaning) (subchunks : ℕ) (numbers : List ℕ) (e : CodecError)
    → length numbers ≡ 2 * subchunks → All (λ n. n < 2 ^ 64) numbers
    → MayRefuseEncode index (map element_of_number numbers) e → RefusedBy (RefusesIndex index subchunks) e
index_refused index subchunks numbers e counted below h =
    elim (refuses_to_encode index (map element_of_number numbers) e h) [
      | inl memory ↦ inl memory
      | inr refuses ↦ inr (record { numbers = numbers; counted = counted; below = below; refuses = refuses })
    ]

-- where there is a size that is fixed
pub size_within : (told : Option BytesRepresentation) (n len : ℕ) → told ≡ Some (FixedSize n) → IsWithin told len → len ≡ n
size_within told n len is h = rw is at h

-- the index has the length that the index codec tells
pub index_length : (index_written : List (List ℕ) → List ℕ → Type 0) (told : Option BytesRepresentation) (grid : List ℕ) (start : ℕ) (slots : List Slot) (index : List ℕ)
    → length slots ≡ count_of grid → told ≡ Some (FixedSize (fixed_size told))
    → ((e : List (List ℕ)) (b : List ℕ) → IsArrayOf (index_spec grid) e → index_written e b → IsWithin told (length b))
    → IsIndexOf index_written start slots index → length index ≡ fixed_size told
index_length index_written told grid start slots index counted fixed law i =
    size_within told (fixed_size told) (length index) fixed
    (law (map element_of_number i.numbers) index (array_of_index grid i.numbers (i.are.counted ∙ ap (λ n. 2 * n) counted)) i.written)

-- a refusal as it is told another way
pub refused_as : {T : Type 0} (r : Result T CodecError) (P Q : CodecError → Type 0) → ((e : CodecError) → P e → Q e) → IfErr r P → IfErr r Q
refused_as (Ok x) P Q transparent h = tt
refused_as (Err e) P Q transparent h = transparent e h
