-- A subset that is read chunk by chunk.
use Rattle.std.proofs.Common.{◌≡◌, ◌≢◌, ℕ, ◌+◌, ◌<◌, List, [], Option, Some, None, Result, Ok, Err, OnOk, IsTrue, inl, inr, length, map, get_or, refl, sym, ap, subst, take_all, ◌∙◌, arith}
use Rattle.std.proofs.lemmas.Bool.{cases_lt}
use Rattle.std.proofs.lemmas.List.{length-map, get_or-map}
use Rattle.std.specs.Option.{option_map}
use Rattle.parts_errors.specs.Words.{Bytes, CellsOf, CellList, Elements}
use Rattle.parts_row_major.specs.Numbering.{count_of, number_of}
use Rattle.parts_row_major.specs.Pieces.{piece}
use Rattle.parts_row_major.specs.Subsets.{Subset, LiesIn, number_in, points_of}
use Rattle.parts_row_major.proofs.PieceLaws.{number_in_below}
use Rattle.parts_row_major.proofs.SubsetLaws.{length-points_of, point_of-points_of}
use Rattle.parts_subsets.specs.Grid.{Divides, grid_of, position_number, cell_number}
use Rattle.parts_subsets.proofs.GridLaws.{position_number-below, cell_number-located, subchunk_number-cell_number}
use Rattle.parts_errors.specs.declared.error.CodecError.{CodecError}
use Rattle.storage_handles.specs.Handles.{HandleState, IsRead}
use Rattle.storage_handles.specs.Objects.{interval_part, HasInterval}
use Rattle.parts_subsets.specs.Touched.{AreTouched}
use Rattle.codec_traits.specs.Reads.{cells_at}
use Rattle.sharding_gather.specs.SubchunkOverlaps.{IsSubchunkOverlap}
use Rattle.array_grid.specs.Cells.{CellsOfSubset, IsPartDecoded}
use Rattle.array_store.specs.ArrayElements.{cell_of}
use Rattle.array_store.specs.Stores.{StoreState, IsOpened}
use Rattle.array_store.specs.steps.Reading.{IsPartPut, chunk_at, IsChunkRead, AreReadTo}

-- an element that was read of a part
pub element_read : (cells : CellList) (chunk : List ℕ) (part : Subset) (elements : Elements) (r : ℕ) → cells_at cells chunk (points_of part) ≡ map Some elements
    → r < count_of part.shape → get_or cells (number_in part chunk r) None ≡ Some (get_or elements r [])
element_read cells chunk part elements r read few =
    let counted : length (points_of part) ≡ length elements =
    sym (length-map (points_of part) (λ point. get_or cells (number_of point chunk) None)) ∙ ap length read ∙ length-map elements Some in
    let below : r < length elements = omega (arith, counted, length-points_of part, few) in
    ap (λ point. get_or cells (number_of point chunk) None) (sym (point_of-points_of part r few))
    ∙ sym (get_or-map (λ point. get_or cells (number_of point chunk) None) (points_of part) r [] None (omega (arith, counted, below)))
    ∙ ap (λ xs. get_or xs r None) read
    ∙ get_or-map Some elements r [] None below

-- what is read of a part of a chunk is put at its points
decoded_put : (cells : CellsOf) (fill bytes : Bytes) (chunk : List ℕ) (in_chunk in_subset : Subset) (old new : CellsOfSubset)
    → IsPartDecoded (cells bytes) chunk in_chunk in_subset old.element_size old.shape old.bytes new.bytes → count_of in_subset.shape ≡ count_of in_chunk.shape
    → IsPartPut (cell_of cells fill (Some bytes)) chunk in_chunk in_subset old new
decoded_put cells fill bytes chunk in_chunk in_subset old new decoded counted = record {
  inside = λ k lt. ap Some (decoded.written.inside k lt) ∙ sym (element_read (cells bytes) chunk in_chunk decoded.elements k decoded.there (omega (arith, lt, counted)));
  outside = λ i off. ap Some (decoded.written.outside i off);
}

same_length : (size n : ℕ) → Some size ≡ Some n → size ≡ n
same_length size n is = cc

-- the bytes of an object that are all of it
whole_part : (object : Option Bytes) (size : ℕ) → Some size ≡ option_map length object → (bytes : Bytes) × (object ≡ Some bytes) × (interval_part (record { offset = 0; size = size }) object ≡ bytes)
whole_part None size is = cc
whole_part (Some bytes) size is = (bytes, refl, take_all size bytes (omega (arith, same_length size (length bytes) is)))

pub read_put : {T : Type 0} (r : Result T CodecError) (cells : CellsOf) (fill : Bytes) (store : StoreState) (key : Bytes) (handle later : HandleState) (chunk : List ℕ) (size : ℕ)
    (in_chunk in_subset : Subset) (old new : CellsOfSubset) → IsOpened store key handle → IsRead handle later
    → (IsTrue handle.transparent → Some size ≡ option_map length handle.contents)
    → OnOk r (IsTrue later.transparent → HasInterval (record { offset = 0; size = size }) later.contents
    × IsPartDecoded (cells (interval_part (record { offset = 0; size = size }) later.contents)) chunk in_chunk in_subset old.element_size old.shape old.bytes new.bytes)
    → OnOk r (count_of in_subset.shape ≡ count_of in_chunk.shape)
    → OnOk r (IsTrue store.transparent → IsPartPut (cell_of cells fill (store.contents key)) chunk in_chunk in_subset old new)
read_put (Err e) cells fill store key handle later chunk size in_chunk in_subset old new opened read told decoded counted = tt
read_put (Ok x) cells fill store key handle later chunk size in_chunk in_subset old new opened read told decoded counted = λ t.
    let seen : IsTrue handle.transparent = subst IsTrue (sym opened.transparent_same) t in
    let object : handle.contents ≡ store.contents key = opened.contents_same t in
    let found = whole_part handle.contents size (told seen) in
    let same : interval_part (record { offset = 0; size = size }) later.contents ≡ found.0 =
    ap (interval_part (record { offset = 0; size = size })) read.contents_same ∙ found.2 in
    let one = (decoded (subst IsTrue (sym read.transparent_same) seen)).1 in
    let two : IsPartDecoded (cells found.0) chunk in_chunk in_subset old.element_size old.shape old.bytes new.bytes =
    subst (λ (b : Bytes). IsPartDecoded (cells b) chunk in_chunk in_subset old.element_size old.shape old.bytes new.bytes) same one in
    subst (λ o. IsPartPut (cell_of cells fill o) chunk in_chunk in_subset old new) (sym found.1 ∙ object) (decoded_put cells fill found.0 chunk in_chunk in_subset old new two counted)

-- a chunk of which a part has been put among the elements of a subset
module _ (cell : ℕ → Option Bytes) (whole chunk : List ℕ) (subset : Subset) (k : ℕ) (in_chunk in_subset : Subset) (old new : CellsOfSubset)
    (divides : Divides chunk whole) (inside : LiesIn subset whole) (below : k < count_of (grid_of whole chunk))
    (m : IsSubchunkOverlap whole chunk subset k in_chunk in_subset) (around : old.shape ≡ subset.shape) (put : IsPartPut cell chunk in_chunk in_subset old new) where
  -- a point of the part is one of the chunk
  part_of_chunk : (r : ℕ) → r < count_of in_chunk.shape → chunk_at whole chunk subset (number_in in_subset subset.shape r) ≡ k
  part_of_chunk r few = rw (← m.one_cell r few)
      (subchunk_number-cell_number whole chunk divides k (number_in in_chunk chunk r) below (number_in_below in_chunk chunk r m.sub_inside few))

  put_here : (q : ℕ) → q < count_of subset.shape → chunk_at whole chunk subset q ≡ k
      → cell (position_number whole chunk (number_in subset whole q)) ≡ Some (piece old.element_size new.bytes q)
  put_here q few at =
      let i = number_in subset whole q in
      let small = number_in_below subset whole q inside few in
      let located : cell_number whole chunk k (position_number whole chunk i) ≡ i =
      ap (λ s. cell_number whole chunk s (position_number whole chunk i)) (sym at) ∙ cell_number-located whole chunk divides i small in
      let met = m.met (position_number whole chunk i) q (position_number-below whole chunk divides i small) few located in
      let there : number_in in_subset old.shape met.0 ≡ q = ap (λ shape. number_in in_subset shape met.0) around ∙ met.3 in
      ap cell (sym met.2)
      ∙ sym (put.inside met.0 (omega (arith, met.1, ap count_of m.same_shape)))
      ∙ ap (λ n. Some (piece old.element_size new.bytes n)) there

  put_others : (q : ℕ) → chunk_at whole chunk subset q ≢ k → Some (piece old.element_size new.bytes q) ≡ Some (piece old.element_size old.bytes q)
  put_others q other = put.outside q (λ r few at.
      let small : r < count_of in_chunk.shape = omega (arith, few, ap count_of m.same_shape) in
      let there : number_in in_subset subset.shape r ≡ q = ap (λ shape. number_in in_subset shape r) (sym around) ∙ at in
      other (ap (chunk_at whole chunk subset) (sym there) ∙ part_of_chunk r small))

  pub chunk_read : (element : ℕ → Option Bytes)
      → ((q : ℕ) → q < count_of subset.shape → chunk_at whole chunk subset q ≡ k → element q ≡ cell (position_number whole chunk (number_in subset whole q)))
      → IsChunkRead element (chunk_at whole chunk subset) (count_of subset.shape) k (piece old.element_size old.bytes) (piece old.element_size new.bytes)
  chunk_read element is = record {
    here = λ q few at. is q few at ∙ put_here q few at;
    others = λ q few other.
        let same = put_others q other in
        cc;
  }

-- chunks that have been read, one after the other
pub read_more : (element : ℕ → Option Bytes) (chunk_of : ℕ → ℕ) (count : ℕ) (touched : List ℕ)
    → ((i j : ℕ) → i < j → j < length touched → get_or touched i 0 < get_or touched j 0)
    → (j : ℕ) (old new : ℕ → Bytes) → j < length touched → AreReadTo element chunk_of count touched j old
    → IsChunkRead element chunk_of count (get_or touched j 0) old new → AreReadTo element chunk_of count touched (j + 1) new
read_more element chunk_of count touched rising j old new below known read = λ i q lt li few at. elim (cases_lt i j) [
  | inl before ↦ known i q before li few at ∙ ap Some (sym (read.others q few (λ e. omega (arith, rising i j before below, at, e))))
  | inr after ↦
      let this : i ≡ j = omega (arith, lt, after) in
      read.here q few (at ∙ ap (λ n. get_or touched n 0) this)
]

-- when all have been read, the elements stand at all points
pub read_all : (whole chunk : List ℕ) (subset : Subset) (element : ℕ → Option Bytes) (touched : List ℕ) (count : ℕ) (bytes : ℕ → Bytes)
    → AreTouched whole chunk subset touched → length touched ≡ count → AreReadTo element (chunk_at whole chunk subset) (count_of subset.shape) touched count bytes
    → (q : ℕ) → q < count_of subset.shape → element q ≡ Some (bytes q)
read_all whole chunk subset element touched count bytes are counted known q few =
    let found = are.all (chunk_at whole chunk subset q) (q, few, refl) in
    known found.0 q (omega (arith, found.1, counted)) found.1 few (sym found.2)
