-- Laws of codecs whose bytes are a whole array or none.
use Rattle.std.proofs.Common.{◌≡◌, ℕ, zero, suc, ◌<◌, List, [], Option, Some, None, IfSome, IsSome, IsTrue, ◌⊎◌, length, map, replicate, get_or, refl, ap, ◌∙◌, arith, inl, inr}
use Rattle.std.proofs.lemmas.List.{length-map, length-replicate, get_or-map, get_or-replicate}
use Rattle.std.specs.List.{All}
use Rattle.parts_errors.specs.Words.{Bytes, Elements}
use Rattle.parts_errors.specs.Order.{◌or◌then◌, done, RefusedBy}
use Rattle.parts_errors.specs.declared.error.CodecError.{CodecError}
use Rattle.parts_errors.specs.declared.error.CodecError.TheVariants.{OutOfBounds, OutOfMemory, Fault}
use Rattle.parts_row_major.specs.Numbering.{count_of, number_of, IsInside}
use Rattle.parts_arrays.specs.Arrays.{Array, element_of}
use Rattle.storage_handles.specs.declared.bytes.Interval.{Interval}
use Rattle.storage_handles.specs.Objects.{interval_part, HasInterval, ObjectRefusals}
use Rattle.storage_handles.specs.Handles.{HandleState, IsRead, IsCounted, MayFault, MayRefuseRange, RefusesRead}
use Rattle.storage_handles.specs.declared.bytes.ByteRange.TheVariants.{FromStart}
use Rattle.codec_traits.specs.Cells.{all_there}
use Rattle.codec_traits.specs.Refusals.{MayRefuseDecode}
use Rattle.codec_traits.specs.Reads.{MayRefuseRead, IsReadOf, cells_at}
use Rattle.codec_traits.proofs.ReadLemmas.{elements_at}
use Rattle.codec_traits.specs.WholeArrays.{whole_cells, WholeRefusals}

-- as many cells as the array has elements, whether there is one or not
pub length-whole_cells : (count : ℕ) (array : Option Elements) → IfSome array (λ es. length es ≡ count) → length (whole_cells count array) ≡ count
length-whole_cells count None h = length-replicate count None
length-whole_cells count (Some es) h = length-map es Some ∙ h

-- what holds of each element holds of each cell that is there
pub whole_cells-each : (P : Bytes → Type 0) (count i : ℕ) (array : Option Elements) → i < count → IfSome array (λ es. length es ≡ count)
    → IfSome array (All P) → IfSome (get_or (whole_cells count array) i None) P
whole_cells-each P count i None below counted h = rw (get_or-replicate {A = Option (List ℕ)} count i None None below) tt
whole_cells-each P count i (Some es) below counted h =
    let lt : i < length es = omega (arith, counted) in
    rw (get_or-map Some es i [] None lt) (h i [] lt)

-- no cell of some is not all of them
all_there-none : (n : ℕ) → 0 < n → all_there {A = List ℕ} (replicate n None) ≡ None
all_there-none zero h = absurd (omega arith)
all_there-none (suc n) h = refl

-- where there is no array, cells are missing
pub whole_damaged : (count : ℕ) (array : Option Elements) → 0 < count → ¬ (IsSome array) → all_there (whole_cells count array) ≡ None
whole_damaged count None some h = all_there-none count some
whole_damaged count (Some es) some h = absurd (h refl)

-- what is refused of bytes that are to be an array, `decode` may refuse
pub refused_whole : (count : ℕ) (array : Option Elements) (e : CodecError) → 0 < count → RefusedBy (WholeRefusals array) e → MayRefuseDecode (whole_cells count array) e
refused_whole count array e some (inl memory) = rw memory tt
refused_whole count array e some (inr (inl none)) = rw none.1 (whole_damaged count array some none.0)
refused_whole count array e some (inr (inr never)) = absurd never.1

-- and a read of some cells
pub refused_whole_read : (decoding : Bytes → Option Elements) (count : ℕ) (b part : Bytes) (shape : List ℕ) (points : List (List ℕ)) (e : CodecError) → 0 < count → b ≡ part
    → RefusedBy (WholeRefusals (decoding b)) e → MayRefuseRead (whole_cells count (decoding part)) (cells_at (whole_cells count (decoding part)) shape points) e
refused_whole_read decoding count b part shape points e some same (inl memory) = rw memory tt
refused_whole_read decoding count b part shape points e some same (inr (inl none)) =
    rw none.1 (rw (← same) (whole_damaged count (decoding b) some none.0))
refused_whole_read decoding count b part shape points e some same (inr (inr never)) = absurd never.1

-- the requested elements of an array are a read of the interval that it was decoded of
pub whole_read : (decoding : Bytes → Option Elements) (shape : List ℕ) (i : Interval) (contents : Option Bytes) (points : List (List ℕ)) (b : Bytes) (a requested : Array)
    → decoding b ≡ Some a.elements → b ≡ interval_part i contents → HasInterval i contents → length a.elements ≡ count_of shape → All (λ point. IsInside point shape) points
    → requested ≡ record { kind = a.kind; elements = map (element_of a) (map (λ point. number_of point shape) points) }
    → IsReadOf (λ x. whole_cells (count_of shape) (decoding x)) i contents shape points requested.elements
whole_read decoding shape i contents points b a requested decoded same has counted inside is =
    let cells : whole_cells (count_of shape) (decoding b) ≡ map Some a.elements = ap (whole_cells (count_of shape)) decoded in
    record {
      inside = has;
      read = rw (← same, is) (elements_at (whole_cells (count_of shape) (decoding b)) a.elements shape points cells counted inside);
    }

-- an interval that is there is refused for a fault alone
pub refused_interval : (old new : HandleState) (i : Interval) (P : CodecError → Type 0) (e : CodecError)
    → ObjectRefusals old new (HasInterval i old.contents or OutOfBounds then done) e → IsTrue old.transparent → HasInterval i old.contents → MayFault old new e ⊎ P e
refused_interval old new i P e h transparent has = elim (h transparent) as (λ _. MayFault old new e ⊎ P e) [
  | inl fault ↦ inl fault
  | inr other ↦ elim other as (λ _. MayFault old new e ⊎ P e) [ inl outside ↦ absurd (outside.0 has) | inr none ↦ absurd none.1 ]
]

-- and so is a read of its bytes, but for memory
module _ (old mid new : HandleState) (i : Interval) (P : CodecError → Type 0) (memory : P OutOfMemory) (read : IsRead old mid) where
  allowed : (contents : Option Bytes) (e : CodecError) → HasInterval i contents → IsCounted mid new e
      → MayRefuseRange (FromStart i.offset (Some i.size)) contents e → MayFault old new e ⊎ P e
  allowed contents OutOfMemory has counted may = inr memory
  allowed contents Fault has counted may = inl (refl, omega (arith, read.faults_kept, counted))
  allowed None e has counted may = absurd has
  allowed (Some bytes) OutOfBounds has counted may = absurd (may has)
  allowed (Some bytes) _ has counted may = absurd may

  pub refused_range : (e : CodecError) → IsTrue old.transparent → HasInterval i old.contents
      → RefusesRead (FromStart i.offset (Some i.size)) mid new e → MayFault old new e ⊎ P e
  refused_range e transparent has h = allowed old.contents e has h.0 (rw read.contents_same at (h.1 (rw read.transparent_same transparent)))
