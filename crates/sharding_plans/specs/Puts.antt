-- Parts of a subset put into an answer, one after the other in any order.
use Rattle.std.specs.Prelude.{◌≡◌, ◌≢◌, ◌<◌, ◌*◌, ◌⊎◌, ℕ, List, [], ◌∷◌, Some, length}
use Rattle.parts_errors.specs.Words.{Bytes, CellsOf, Refusals}
use Rattle.parts_errors.specs.Order.{◌or◌then◌, done}
use Rattle.parts_errors.specs.declared.error.CodecError.TheVariants.{InvalidNumberOfElements, WrongElementKind, Damaged}
use Rattle.parts_row_major.specs.Numbering.{count_of}
use Rattle.parts_row_major.specs.Subsets.{Subset, IsTarget, number_in}
use Rattle.parts_row_major.specs.Pieces.{piece, IsUpdated}
use Rattle.parts_subsets.specs.Grid.{grid_of, subchunk_number, position_number}
use Rattle.parts_subsets.specs.SubsetRefusals.{SubsetRefusals}
use Rattle.parts_subsets.specs.Touched.{Touches}
use Rattle.sharding_format.specs.Index.{slot_at}
use Rattle.sharding_format.specs.Cells.{cell_in, indexed_cell}
use Rattle.sharding_gather.specs.SubchunkOverlaps.{IsSubchunkOverlap}

-- the elements of a part of an array stand in a part of an answer, both in row-major order; all others there are as before
abbrev pub IsPut : (size : ℕ) (from : Subset) (sub : List ℕ) (into : Subset) (shape : List ℕ) (decoded old new : Bytes) → Type 0
IsPut size from sub into shape decoded old new =
    IsUpdated (count_of into.shape) (number_in into shape) (piece size old) (λ k. piece size decoded (number_in from sub k))
    (piece size new)

-- the element stands everywhere in a part of an answer; all others of the answer are as before
abbrev pub IsFilled : (element : Bytes) (into : Subset) (shape : List ℕ) (old new : Bytes) → Type 0
IsFilled element into shape old new =
    IsUpdated (count_of into.shape) (number_in into shape) (piece (length element) old) (λ k. element) (piece (length element) new)

-- what a put has passed
pub record CanBePut (size : ℕ) (from : Subset) (sub : List ℕ) (into : Subset) (shape : List ℕ) (decoded answer : ℕ) : Type 0 where
  pub decoded_target : IsTarget decoded size sub from
  pub answer_target : IsTarget answer size shape into
  pub same_shape : from.shape ≡ into.shape

-- the tests of a put, by how many bytes the decoded elements and the answer have
abbrev pub PutRefusals : (size : ℕ) (from : Subset) (sub : List ℕ) (into : Subset) (shape : List ℕ) (decoded answer : ℕ) → Refusals
PutRefusals size from sub into shape decoded answer =
    SubsetRefusals from sub (
    SubsetRefusals into shape (
    from.shape ≡ into.shape or InvalidNumberOfElements then
    0 < size or WrongElementKind then
    decoded ≡ count_of sub * size or Damaged then
    answer ≡ count_of shape * size or InvalidNumberOfElements then
    done))

-- the tests of filling a part
abbrev pub FillRefusals : (size : ℕ) (into : Subset) (shape : List ℕ) (answer : ℕ) → Refusals
FillRefusals size into shape answer =
    SubsetRefusals into shape (
    0 < size or WrongElementKind then
    answer ≡ count_of shape * size or InvalidNumberOfElements then
    done)

-- a subchunk is one of those that were put
abbrev pub IsAmong : List ℕ → ℕ → Type 0
IsAmong [] k = ⊥
IsAmong (put ∷ more) k = (k ≡ put) ⊎ IsAmong more k

-- the element of a subset's point, by the subchunk in which the point lies and its position there
abbrev pub element_of : (shape sub : List ℕ) → Subset → (ℕ → ℕ → Bytes) → ℕ → Bytes
element_of shape sub subset element q =
    element (subchunk_number shape sub (number_in subset shape q)) (position_number shape sub (number_in subset shape q))

-- of the elements of a subset those that lie in some subchunks stand where `place` says; what is no place of the subset is as before
pub record ArePut (shape sub : List ℕ) (subset : Subset) (place : ℕ → ℕ) (element : ℕ → ℕ → Bytes) (puts : List ℕ)
    (first new : ℕ → Bytes) : Type 0 where
  pub inside : (q : ℕ) → q < count_of subset.shape → IsAmong puts (subchunk_number shape sub (number_in subset shape q))
      → new (place q) ≡ element_of shape sub subset element q
  pub outside : (i : ℕ) → ((q : ℕ) → q < count_of subset.shape → place q ≢ i) → new i ≡ first i

-- two points of a subset have two places
abbrev pub AreApart : Subset → (ℕ → ℕ) → Type 0
AreApart subset place = (p q : ℕ) → p < count_of subset.shape → q < count_of subset.shape → place p ≡ place q → p ≡ q

-- each touched subchunk was put
abbrev pub AllArePut : (shape sub : List ℕ) → Subset → List ℕ → Type 0
AllArePut shape sub subset puts = (k : ℕ) → Touches shape sub subset k → IsAmong puts k

-- the elements of each touched subchunk are what the shard that an object is has there, by the numbers of its index
abbrev pub AreDecoded : CellsOf → (shape sub : List ℕ) → Subset → (fill object numbers : List ℕ) → (ℕ → ℕ → Bytes) → Type 0
AreDecoded inner_cells shape sub subset fill object numbers element =
    (k p : ℕ) → Touches shape sub subset k → p < count_of sub
    → cell_in inner_cells fill object (slot_at (length object) numbers k) p ≡ Some (element k p)

-- Parts put one after the other, whatever the order, and again: what stands there is known by which were put. Once all are, the subset was
-- overwritten by its elements; and these are the cells that a read of the shard gives.
pub record PutLaw (shape sub : List ℕ) (subset : Subset) : Type 0 where
  pub none : (place : ℕ → ℕ) (element : ℕ → ℕ → Bytes) (first : ℕ → Bytes) → ArePut shape sub subset place element [] first first
  pub more : (place : ℕ → ℕ) (element : ℕ → ℕ → Bytes) (puts : List ℕ) (first old new : ℕ → Bytes) (k : ℕ) (in_subchunk in_subset : Subset)
      → AreApart subset place → k < count_of (grid_of shape sub) → IsSubchunkOverlap shape sub subset k in_subchunk in_subset
      → IsUpdated (count_of in_subchunk.shape) (λ r. place (number_in in_subset subset.shape r)) old
      (λ r. element k (number_in in_subchunk sub r)) new
      → ArePut shape sub subset place element puts first old → ArePut shape sub subset place element (k ∷ puts) first new
  pub all : (place : ℕ → ℕ) (element : ℕ → ℕ → Bytes) (puts : List ℕ) (first new : ℕ → Bytes)
      → AllArePut shape sub subset puts → ArePut shape sub subset place element puts first new
      → IsUpdated (count_of subset.shape) place first (element_of shape sub subset element) new
  pub read : (inner_cells : CellsOf) (fill object numbers : List ℕ) (place : ℕ → ℕ) (element : ℕ → ℕ → Bytes) (puts : List ℕ)
      (first new : ℕ → Bytes) → AllArePut shape sub subset puts → AreDecoded inner_cells shape sub subset fill object numbers element
      → ArePut shape sub subset place element puts first new
      → (q : ℕ) → q < count_of subset.shape
      → indexed_cell inner_cells shape sub fill object numbers (number_in subset shape q) ≡ Some (new (place q))
