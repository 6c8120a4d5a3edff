-- Why a write may be refused: the tests of its steps, in their order.
use Rattle.std.specs.Prelude.{◌≡◌, ◌≤◌, ◌<◌, ◌^◌, ℕ, ◌+◌, List, length, slice_index}
use Rattle.std.specs.List.{range_with_len, sum_by}
use Rattle.parts_errors.specs.Words.{Bytes, Elements, Refusals}
use Rattle.parts_errors.specs.Order.{◌or_as◌then◌, EachAs}
use Rattle.parts_row_major.specs.Numbering.{count_of}
use Rattle.parts_row_major.specs.Subsets.{Subset}
use Rattle.parts_subsets.specs.Grid.{grid_of}
use Rattle.parts_subsets.specs.Touched.{Touches, AreTouched}
use Rattle.parts_arrays.specs.ArraySpec.{ArraySpec}
use Rattle.parts_errors.specs.declared.error.CodecError.{CodecError}
use Rattle.parts_errors.specs.declared.error.CodecError.TheVariants.{TooLarge}
use Rattle.codec_traits.specs.Meanings.{Meaning}
use Rattle.sharding_format.specs.Index.{slot_at}
use Rattle.sharding_format.specs.Cells.{Layout}
use Rattle.sharding_format.specs.Serves.{IsStoredPart}
use Rattle.sharding_format.specs.DecodeRefusals.{HasArray}
use Rattle.sharding_format.specs.EncodeRefusals.{RefusesToStore, HasPart, RefusesIndex}
pub use Rattle.sharding_write.specs.OldCells.{RefusesOld}
use Rattle.sharding_write.specs.Writing.{IsUncovered, AreNewCells, cells_in, ArePlaced}

-- the subset touches subchunk k and leaves a cell of it
pub record Straddles (shape sub : List ℕ) (subset : Subset) (k : ℕ) : Type 0 where
  pub touches : Touches shape sub subset k
  pub position : ℕ
  pub inside : position < count_of sub
  pub uncovered : IsUncovered shape sub subset k position

-- where the subset straddles the edge of subchunk k, its old cells are there
abbrev pub HasOldCells : (inner : Meaning) → (shape sub : List ℕ) → Subset → (bytes numbers : List ℕ) → (k : ℕ) → Type 0
HasOldCells inner shape sub subset bytes numbers k =
    Straddles shape sub subset k → HasArray inner.cells bytes (slot_at (length bytes) numbers k)

-- the tests of the straddling subchunks, ascending: the first that is refused gives the refusal
abbrev pub OldRefusals : (inner : Meaning) → (shape sub fill : List ℕ) → Subset → (bytes numbers : List ℕ) → Refusals → CodecError → Type 0
OldRefusals inner shape sub fill subset bytes numbers later =
    EachAs (count_of (grid_of shape sub))
    (HasOldCells inner shape sub subset bytes numbers)
    (λ k e. Straddles shape sub subset k × RefusesOld inner (count_of sub) fill bytes (slot_at (length bytes) numbers k) k e)
    later

-- new cells of subchunk k, with P
pub record SomeNewCells (inner : Meaning) (l : Layout) (sub_g : ArraySpec) (subset : Subset) (update : Elements) (bytes numbers : List ℕ)
    (k : ℕ)
    (P : Elements → Type 0) : Type 0 where
  pub elements : Elements
  pub cells : AreNewCells l.shape sub_g subset update (cells_in inner.cells l.fill bytes numbers k) k elements
  pub holds : P elements

-- encodings of the new cells of the touched subchunks, with P of the length that the object has with them
pub record SomeLength (inner : Meaning) (l : Layout) (sub_g : ArraySpec) (subset : Subset) (update : Elements) (bytes numbers : List ℕ)
    (P : ℕ → Type 0) : Type 0 where
  pub touched : List ℕ
  pub are_touched : AreTouched l.shape l.sub subset touched
  pub parts : ℕ → Bytes
  pub each : (j : ℕ) → j < length touched → SomeNewCells inner l sub_g subset update bytes numbers (slice_index touched j)
      (λ elements. IsStoredPart inner.written l.fill elements (parts j))
  pub write_offset : ℕ
  pub long : ℕ
  pub placed : ArePlaced l subset (length bytes) numbers (sum_by (λ j. length (parts j)) (range_with_len 0 (length touched))) write_offset
      long
  pub holds : P long

-- the tests of the new subchunks, ascending
abbrev pub NewRefusals : (inner : Meaning) → Layout → ArraySpec → Subset → Elements → (bytes numbers : List ℕ) → Refusals → CodecError
    → Type 0
NewRefusals inner l sub_g subset update bytes numbers later =
    EachAs (count_of (grid_of l.shape l.sub))
    (λ k. Touches l.shape l.sub subset k
    → SomeNewCells inner l sub_g subset update bytes numbers k (λ elements. HasPart inner.written l.fill elements))
    (λ k e. Touches l.shape l.sub subset k
    × SomeNewCells inner l sub_g subset update bytes numbers k (λ elements. RefusesToStore inner.encodable inner.fits l.fill elements e))
    later

-- the tests of a write of an update over the cells of a subset, after those of the arguments: the straddling subchunks that are stored; the
-- new ones; the length; and the index
abbrev pub WriteRefusals : (inner index : Meaning) → Layout → ArraySpec → Subset → Elements → (bytes numbers : List ℕ) → CodecError → Type 0
WriteRefusals inner index l sub_g subset update bytes numbers =
    OldRefusals inner l.shape l.sub l.fill subset bytes numbers (
    NewRefusals inner l sub_g subset update bytes numbers (
    SomeLength inner l sub_g subset update bytes numbers (λ n. n + 1 < 2 ^ 64) or_as
    (λ e. (e ≡ TooLarge) × SomeLength inner l sub_g subset update bytes numbers (λ n. 2 ^ 64 ≤ n + 1)) then
    RefusesIndex index (count_of (grid_of l.shape l.sub))))
