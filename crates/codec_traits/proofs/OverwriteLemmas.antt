-- Targets that are overwritten by some elements, and once more.
use Rattle.std.proofs.Common.{◌≡◌, ℕ, ◌∙◌, List, [], map, refl, sym, subst, arith}
use Rattle.std.proofs.lemmas.List.FromFn.{get_or-map-range_with_len}
use Rattle.std.specs.Prelude.{OnOk, OnErr}
use Rattle.std.specs.List.{range_with_len}
use Rattle.std.specs.declared.result.Result.{Result}
use Rattle.std.specs.declared.result.Result.TheVariants.{Ok, Err}
use Rattle.parts_row_major.specs.Numbering.{count_of}
use Rattle.parts_row_major.specs.Subsets.{number_in}
use Rattle.parts_row_major.specs.Pieces.{piece, IsUpdated}
use Rattle.parts_arrays.specs.declared.target.FixedTarget.{FixedTarget}
use Rattle.parts_arrays.specs.Targets.{target_bytes, target_element_size, target_shape, target_subset, IsWritten}
use Rattle.codec_traits.specs.Reads.{IsOverwritten}

-- a target that is as it was has the elements that it had
pub untouched : (target : FixedTarget) → IsOverwritten target target
untouched target =
    let many = count_of (target_subset target).shape in
    let at : ℕ → List ℕ = λ k. piece (target_element_size target) (target_bytes target).now (number_in (target_subset target) (target_shape target) k) in (
      map at (range_with_len 0 many),
      record {
        reference = refl;
        element_size = refl;
        shape = refl;
        subset = refl;
        length = refl;
        elements = record {
          inside = λ k lt. sym (get_or-map-range_with_len at 0 many k k [] lt (omega arith));
          outside = λ i none. refl;
        };
      },
    )

-- a target that is written where a call is accepted, and else as it was
pub written_or_kept : {T E : Type 0} (r : Result T E) (old new : FixedTarget) → OnOk r (IsOverwritten old new) → OnErr r (new ≡ old) → IsOverwritten old new
written_or_kept (Ok x) old new wrote kept = wrote
written_or_kept (Err e) old new wrote kept = subst (λ t. IsOverwritten old t) (sym kept) (untouched old)

-- what is written after other elements were
pub written_after : (old mid new : FixedTarget) (element : ℕ → List ℕ) → IsOverwritten old mid → IsWritten mid new element → IsWritten old new element
written_after old mid new element before wrote =
    let first = before.1 in
    let then : IsUpdated (count_of (target_subset old).shape) (number_in (target_subset old) (target_shape old)) (piece (target_element_size old) (target_bytes mid).now) element (piece (target_element_size old) (target_bytes new).now) =
    rw (first.element_size, first.shape, first.subset) at wrote.elements in
    record {
      reference = wrote.reference ∙ first.reference;
      element_size = wrote.element_size ∙ first.element_size;
      shape = wrote.shape ∙ first.shape;
      subset = wrote.subset ∙ first.subset;
      length = wrote.length ∙ first.length;
      elements = record {
        inside = then.inside;
        outside = λ i none. then.outside i none ∙ first.elements.outside i none;
      };
    }
