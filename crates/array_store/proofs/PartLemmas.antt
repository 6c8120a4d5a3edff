-- The part of a subset that lies in one chunk, which is written.
use Rattle.std.proofs.Common.{◌≡◌, ◌≢◌, ℕ, ◌<◌, Bool, true, false, true≢false, IsTrue, List, [], inl, inr, ◌⊎◌, get_or, refl, sym, ap, subst, ◌∙◌, arith}
use Rattle.std.proofs.lemmas.List.FromFn.{get_or-map-range_with_len, length-map-range_with_len}
use Rattle.std.proofs.lemmas.List.{get_or-map}
use Rattle.std.proofs.lemmas.Slice.Eq.{bytes_eq-Decides}
use Rattle.std.specs.Str.{bytes_eq}
use Rattle.parts_errors.specs.Words.{Bytes}
use Rattle.parts_row_major.specs.Numbering.{count_of, point_of}
use Rattle.parts_row_major.specs.Subsets.{Subset, LiesIn, number_in, numbers_in}
use Rattle.parts_subsets.specs.Grid.{grid_of}
use Rattle.parts_subsets.specs.Touched.{AreTouched}
use Rattle.parts_arrays.specs.Arrays.{Array, element_of, extracted}
use Rattle.codec_traits.specs.Meanings.{Meaning}
use Rattle.array_fields.specs.ChunkKeys.{chunk_key}
use Rattle.array_grid.specs.Parts.{IsPartAt, SubsetInArray}
use Rattle.array_grid.specs.declared.parts.ShardPart.{ShardPart}
use Rattle.array_store.specs.ArrayElements.{cell_of, element_at}
use Rattle.array_store.specs.ArrayWrites.{IsFaultAt}
use Rattle.array_store.specs.ChunkWrites.{IsUpdatedObject, IsChunkRefusal}
use Rattle.array_store.specs.Stores.{StoreState, AreKept}
use Rattle.array_store.specs.declared.error.ArrayError.{ArrayError}
use Rattle.array_store.specs.declared.error.ArrayError.TheVariants.{Whole, Chunk}
use Rattle.array_store.specs.declared.format.ArrayFormat.{ArrayFormat}
use Rattle.array_store.specs.steps.Writing.{ArePartsOf, AreOtherChunksKept, IsChunkWritten, touched_key, whole_of}
use Rattle.array_store.proofs.PlaceLemmas.{touched_same}
use Rattle.array_store.specs.ReadRefusals.{IsCut, IsRefusalIn, IsReadRefusal}
use Rattle.array_store.specs.steps.Reading.{IsRefusalAt}
use Rattle.array_store.proofs.ProgressLemmas.{touched_point}
use Rattle.array_store.proofs.WriteLemmas.{chunk_written}

-- two keys are the same, or they are not
same_by : (a b : Bytes) (t : Bool) → bytes_eq a b ≡ t → (a ≡ b) ⊎ (a ≢ b)
same_by a b true is = inl ((bytes_eq-Decides a b).0 is)
same_by a b false is = inr (λ same. true≢false (sym ((bytes_eq-Decides a b).1 same) ∙ is))

same_or_not : (a b : Bytes) → (a ≡ b) ⊎ (a ≢ b)
same_or_not a b = same_by a b (bytes_eq a b) refl

-- a refusal at a chunk leaves what stands under each key at which it is no fault
pub kept_but : (old new : StoreState) (key : Bytes) (error : ArrayError) → IsChunkRefusal old new key error → AreKept old new key → IsTrue old.transparent
    → (other : Bytes) → ¬ IsFaultAt error other → new.contents other ≡ old.contents other
kept_but old new key (Whole e) refused kept t other sound = elim (same_or_not other key) [
  | inl is ↦ subst (λ k. new.contents k ≡ old.contents k) (sym is) (refused.1 t)
  | inr apart ↦ kept.others t other apart
]
kept_but old new key (Chunk named e) refused kept t other sound = elim (same_or_not other key) [
  | inl is ↦ elim refused.1 [
    | inl fault ↦ absurd (sound (fault, refused.0 ∙ sym is))
    | inr stays ↦ subst (λ k. new.contents k ≡ old.contents k) (sym is) (stays t)
  ]
  | inr apart ↦ kept.others t other apart
]

-- the elements of a part, as those of the subset
part_elements : (array part : Array) (in_subset : Subset) (shape : List ℕ) (r : ℕ) → part ≡ extracted array in_subset shape → r < count_of in_subset.shape
    → element_of part r ≡ element_of array (number_in in_subset shape r)
part_elements array part in_subset shape r is few =
    ap (λ (a : Array). get_or a.elements r []) is
    ∙ get_or-map (element_of array) (numbers_in in_subset shape) r 0 [] (omega (arith, few, length-map-range_with_len (number_in in_subset shape) 0 (count_of in_subset.shape)))
    ∙ ap (element_of array) (get_or-map-range_with_len (number_in in_subset shape) 0 (count_of in_subset.shape) r r 0 few (omega arith))

module _ (format : ArrayFormat) (m : Meaning) (subset : Subset) (parts : SubsetInArray) (place : ℕ) (part : ShardPart) (ready : ArePartsOf format subset parts)
    (at : IsPartAt (record { shape = format.shape.now; shard = format.chunk.now }) subset parts.count place part) where
  -- its number is the one at its place among the chunks that the subset touches
  pub number_is : (touched : List ℕ) → AreTouched (whole_of format) format.chunk.now subset touched → get_or touched place 0 ≡ part.shard
  number_is touched are = ap (λ xs. get_or xs place 0) (sym (touched_same (whole_of format) format.chunk.now subset at.shards touched at.touched are)) ∙ at.here

  key_is : (touched : List ℕ) → AreTouched (whole_of format) format.chunk.now subset touched → chunk_key format.keys part.coordinates.items ≡ touched_key format touched place
  key_is touched are = ap (chunk_key format.keys) (at.coordinates.1 ∙ ap (λ n. point_of n (grid_of (whole_of format) format.chunk.now)) (sym (number_is touched are)))

  -- a refusal for its chunk
  pub refusal_in : place < parts.count → (error : ArrayError) → IsRefusalAt (chunk_key format.keys part.coordinates.items) error → IsRefusalIn format subset error
  refusal_in below (Whole e) refused = refused
  refusal_in below (Chunk named e) refused =
      let found = touched_point format m subset ready.axes ready.some ready.inside ready.small at.shards at.touched place (omega (arith, below, at.counted)) in
      (found.0, found.1, refused ∙ key_is at.shards at.touched ∙ found.2)

  pub other_chunks : (old new : StoreState) → AreKept old new (chunk_key format.keys part.coordinates.items) → IsTrue old.transparent
      → AreOtherChunksKept format subset place old.contents new.contents
  other_chunks old new kept t touched are key apart = kept.others t key (λ is. apart (is ∙ key_is touched are))

  pub part_written : (array here : Array) (old new : StoreState) → here ≡ extracted array part.in_subset subset.shape
      → AreKept old new (chunk_key format.keys part.coordinates.items) → IsTrue old.transparent
      → IsUpdatedObject m format.chunk.now part.in_shard (element_of here) (cell_of m.cells format.fill_value.now (old.contents (chunk_key format.keys part.coordinates.items)))
      (new.contents (chunk_key format.keys part.coordinates.items))
      → IsChunkWritten format subset (element_of array) part.shard (element_at old.contents format m.cells) (element_at new.contents format m.cells)
  part_written array here old new is kept t updated =
      chunk_written format m subset ready.axes ready.some ready.inside ready.small part.shard part.in_shard part.in_subset (element_of here) (element_of array) old.contents new.contents at.coordinates.0.0
      at.meets (λ r few. part_elements array here part.in_subset subset.shape r is (omega (arith, few, ap count_of at.meets.same_shape)))
      (rw (at.coordinates.1) at updated) (λ key apart. kept.others t key (λ same. apart (same ∙ ap (chunk_key format.keys) (at.coordinates.1))))

-- a refusal for a chunk, as one of a read
pub read_refused : (format : ArrayFormat) (subset : Subset) (error : ArrayError) → IsCut format → LiesIn subset format.shape.now → IsRefusalIn format subset error
    → IsReadRefusal format subset error
read_refused format subset (Whole e) cut lies refused = inr (inr (cut, lies, inl refused))
read_refused format subset (Chunk named e) cut lies refused = (cut, lies, refused)
