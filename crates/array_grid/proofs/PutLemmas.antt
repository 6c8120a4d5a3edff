-- A part that is put into a subset, and what refuses it.
use Rattle.std.proofs.Common.{◌≡◌, ℕ, List, Result, Ok, Err, IfErr, OnOk, [], get_or, length, inr}
use Rattle.parts_errors.specs.Order.{◌or◌then◌, ◌or_as◌then◌, done, RefusedBy}
use Rattle.parts_errors.specs.Words.{CellList, Refusals}
use Rattle.parts_row_major.specs.Numbering.{count_of}
use Rattle.parts_row_major.specs.Pieces.{piece, IsUpdated}
use Rattle.parts_row_major.specs.Subsets.{Subset, LiesIn, number_in, points_of}
use Rattle.parts_arrays.specs.Arrays.{Array}
use Rattle.parts_arrays.specs.Targets.{target_element_size, target_shape, target_subset}
use Rattle.parts_arrays.specs.declared.target.FixedTarget.{FixedTarget}
use Rattle.parts_arrays.specs.declared.data_type.DataTypeSize.{DataTypeSize}
use Rattle.codec_traits.specs.Reads.{cells_at, IsDecodedInto}
use Rattle.parts_arrays.specs.declared.data_type.DataTypeSize.TheVariants.{Fixed}
use Rattle.parts_errors.specs.declared.error.CodecError.{CodecError}
use Rattle.parts_errors.specs.declared.error.CodecError.TheVariants.{WrongElementKind, InvalidNumberOfElements}
use Rattle.array_grid.specs.Cells.{IsPartDecoded, PartRefusals, PutRefusals}

-- as a target of this size and subset refuses it, where the part lies in the subset
pub put_refused : {T : Type 0} (r : Result T CodecError) (target_size size : ℕ) (target_subset in_subset : Subset) (shape : List ℕ) (part : Array)
    → target_size ≡ size → target_subset ≡ in_subset → length in_subset.start ≡ length shape → LiesIn in_subset shape
    → IfErr r (part.kind ≡ Fixed target_size or WrongElementKind then count_of target_subset.shape ≡ length part.elements or InvalidNumberOfElements then done)
    → IfErr r (PutRefusals size shape in_subset part)
put_refused (Ok x) target_size size target_subset in_subset shape part same_size same_subset same_axes lies h = tt
put_refused (Err e) target_size size target_subset in_subset shape part same_size same_subset same_axes lies h =
    inr (same_axes, inr (lies, rw (same_size, same_subset) at h))

-- as what refuses it where it lies in the subset
pub placed_refused : {T : Type 0} (r : Result T CodecError) (in_subset : Subset) (shape : List ℕ) (later : Refusals) → length in_subset.start ≡ length shape → LiesIn in_subset shape
    → IfErr r later → IfErr r (PartRefusals shape in_subset later)
placed_refused (Ok x) in_subset shape later same_axes lies h = tt
placed_refused (Err e) in_subset shape later same_axes lies h = inr (same_axes, inr (lies, h))

updated_same : (size other_size : ℕ) (shape other_shape : List ℕ) (subset other_subset : Subset) (old other_old new other_new : List ℕ) (update : ℕ → List ℕ)
    → other_size ≡ size → other_shape ≡ shape → other_subset ≡ subset → other_old ≡ old → other_new ≡ new
    → IsUpdated (count_of other_subset.shape) (number_in other_subset other_shape) (piece other_size other_old) update (piece other_size other_new)
    → IsUpdated (count_of subset.shape) (number_in subset shape) (piece size old) update (piece size new)
updated_same size other_size shape other_shape subset other_subset old other_old new other_new update same_size same_shape same_subset same_old same_new h =
    rw (same_size, same_shape, same_subset, same_old, same_new) at h

-- what a codec decodes to a target over bytes
pub part_decoded : {T : Type 0} (r : Result T CodecError) (Has transparent : Type 0) (cells : CellList) (stored_shape : List ℕ) (in_stored in_subset : Subset) (size : ℕ) (shape : List ℕ)
    (before after : List ℕ) (old new : FixedTarget) → target_element_size old ≡ size → target_shape old ≡ shape → target_subset old ≡ in_subset
    → old.bytes.now ≡ before → new.bytes.now ≡ after
    → OnOk r (transparent → Has × IsDecodedInto old new (cells_at cells stored_shape (points_of in_stored)))
    → OnOk r (transparent → Has × IsPartDecoded cells stored_shape in_stored in_subset size shape before after)
part_decoded (Err e) Has transparent cells stored_shape in_stored in_subset size shape before after old new same_size same_shape same_subset same_before same_after h = tt
part_decoded (Ok x) Has transparent cells stored_shape in_stored in_subset size shape before after old new same_size same_shape same_subset same_before same_after h = λ t.
    let decoded = (h t).1 in (
      (h t).0,
      record {
        elements = decoded.elements;
        there = decoded.there;
        written = updated_same size old.element_size shape old.shape.now in_subset old.subset.now before old.bytes.now after new.bytes.now (λ k. get_or decoded.elements k [])
            same_size same_shape same_subset same_before same_after decoded.written.elements;
      },
    )

-- how a read to a target of a size, whose subset is that of a part, is refused, by where the part lies
pub part_refused : {T : Type 0} (r : Result T CodecError) (serves : Type 0) (unserved : Refusals) (kind : DataTypeSize) (count target_size size : ℕ)
    (target_in in_subset : Subset) (shape : List ℕ) (later : Refusals) → target_size ≡ size → target_in ≡ in_subset
    → length in_subset.start ≡ length shape → LiesIn in_subset shape
    → IfErr r (RefusedBy (serves or_as unserved then kind ≡ Fixed target_size or WrongElementKind then count_of target_in.shape ≡ count or InvalidNumberOfElements then later))
    → IfErr r (PartRefusals shape in_subset (RefusedBy (
    serves or_as unserved then kind ≡ Fixed size or WrongElementKind then count_of in_subset.shape ≡ count or InvalidNumberOfElements then later)))
part_refused (Ok x) serves unserved kind count target_size size target_in in_subset shape later same_size same_subset same_axes lies h = tt
part_refused (Err e) serves unserved kind count target_size size target_in in_subset shape later same_size same_subset same_axes lies h =
    inr (same_axes, inr (lies, rw (same_size, same_subset) at h))
