-- Reads into a target that fits what is read.
use Rattle.std.proofs.Common.{◌≡◌, ◌∙◌, ℕ, ◌<◌, List, [], Option, Some, length, get_or, map, replicate, inl, inr, ap, sym, arith}
use Rattle.std.proofs.lemmas.List.{ext_get_or, length-map}
use Rattle.parts_errors.specs.Order.{◌or◌then◌, ◌or_as◌then◌, RefusedBy}
use Rattle.parts_errors.specs.Words.{Bytes, CellsOf, Refusals}
use Rattle.parts_row_major.specs.Numbering.{count_of}
use Rattle.parts_row_major.specs.Subsets.{Subset, number_in}
use Rattle.parts_row_major.specs.Pieces.{piece, pieces}
use Rattle.parts_row_major.proofs.PieceLaws.{length-pieces, piece_of-pieces}
use Rattle.parts_errors.specs.declared.error.CodecError.{CodecError}
use Rattle.parts_arrays.specs.declared.data_type.DataTypeSize.{DataTypeSize}
use Rattle.parts_arrays.specs.declared.data_type.DataTypeSize.TheVariants.{Fixed}
use Rattle.parts_arrays.specs.declared.target.FixedTarget.{FixedTarget}
use Rattle.parts_arrays.specs.Targets.{target_bytes, target_element_size, target_shape, target_subset, IsWritten, TargetRefusals}
use Rattle.codec_traits.specs.Reads.{IsDecodedInto}
use Rattle.sharding_gather.proofs.PlacingLemmas.{number_in-whole}
use Rattle.sharding_format.specs.steps.Reading.{IsReadAt}
use Rattle.sharding_format.specs.declared.slot.Slot.{Slot}
use Rattle.sharding_subchunks.specs.Reads.{IsReadInto}

-- a target that fits refuses nothing
pub fitting_target : (P : Type 0) (R : Refusals) (kind : DataTypeSize) (n : ℕ) (target : FixedTarget) (later : Refusals) (e : CodecError)
    → kind ≡ Fixed (target_element_size target) → count_of (target_subset target).shape ≡ n
    → RefusedBy (P or_as R then TargetRefusals kind n target later) e → RefusedBy (P or_as R then later) e
fitting_target P R kind n target later e same counted refused =
    elim refused [
      | inl memory ↦ inl memory
      | inr checked ↦ inr (elim checked [
        | inl unserved ↦ inl unserved
        | inr refusals ↦ inr (
          refusals.0,
          elim refusals.1 [
            | inl wrong ↦ absurd (wrong.0 same)
            | inr fits ↦ elim fits.1 [
              | inl other ↦ absurd (other.0 counted)
              | inr rest ↦ rest.1
            ]
          ],
        )
      ])
    ]

-- what was read into a target over bytes is read to its places there
pub read_through : (inner_cells : CellsOf) (b : Bytes) (slot : Slot) (positions : List ℕ) (subset : Subset) (axes : List ℕ) (size : ℕ) (kind : DataTypeSize) (elements : List (List ℕ)) (old new : FixedTarget) (before after : Bytes)
    → target_element_size old ≡ size → target_shape old ≡ axes → target_subset old ≡ subset → (target_bytes old).now ≡ before → (target_bytes new).now ≡ after → length positions ≡ count_of subset.shape
    → IsReadAt inner_cells b slot positions (Some (record { kind = kind; elements = elements })) → IsWritten old new (λ k. get_or elements k [])
    → IsReadInto inner_cells b slot positions (number_in subset axes) (piece size before) (piece size after)
read_through inner_cells b slot positions subset axes size kind elements old new before after sized shaped by_subset first last counted read wrote = record {
  part = Some (record { kind = kind; elements = elements });
  read = read;
  written = rw (← sized, ← shaped, ← first, ← last, counted, ← by_subset) wrote.elements;
}

-- what was decoded into all of a target's array are its elements
pub whole_decoded : (cells : List (Option (List ℕ))) (axes : List ℕ) (size count : ℕ) (old new : FixedTarget) (after : Bytes) → target_element_size old ≡ size → target_shape old ≡ axes
    → target_subset old ≡ record { start = replicate (length axes) 0; shape = axes } → (target_bytes new).now ≡ after → count ≡ count_of axes → length cells ≡ count → IsDecodedInto old new cells
    → cells ≡ map Some (pieces size count after)
whole_decoded cells axes size count old new after sized shaped by_subset last counted many decoded =
    let long : length decoded.elements ≡ count = sym (length-map decoded.elements Some) ∙ (ap length (sym decoded.there) ∙ many) in
    let wrote = rw (sized, shaped, by_subset, last) at decoded.written.elements in
    let same : decoded.elements ≡ pieces size count after =
    ext_get_or [] decoded.elements (pieces size count after) (long ∙ sym (length-pieces size count after)) (λ k lt.
    let small : k < count = omega (arith, lt, long) in
    let below : k < count_of axes = omega (arith, small, counted) in
    sym (wrote.inside k below) ∙ (ap (piece size after) (number_in-whole axes k below) ∙ sym (piece_of-pieces size count after k small))) in
    decoded.there ∙ ap (map Some) same
