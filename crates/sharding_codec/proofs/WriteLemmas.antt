-- A write into a session passes its tests.
use Rattle.std.proofs.Common.{◌≡◌, ℕ, Bool, false, List, inl, inr}
use Rattle.parts_errors.specs.declared.error.CodecError.{CodecError}
use Rattle.parts_errors.specs.declared.error.CodecError.TheVariants.{SessionFailed}
use Rattle.parts_errors.specs.Order.{◌or◌then◌, RefusedBy}
use Rattle.parts_row_major.specs.Subsets.{Subset}
use Rattle.parts_arrays.specs.Arrays.{Array}
use Rattle.parts_subsets.specs.Selections.{Selection, subset_selection}
use Rattle.parts_arrays.specs.declared.data_type.DataType.{DataType}
use Rattle.storage_handles.specs.Handles.{HandleState}
use Rattle.storage_handles.specs.Objects.{ObjectRefusals}
use Rattle.sharding_gather.specs.Updates.{UpdateRefusals, IsUpdateOf}
use Rattle.sharding_codec.specs.SessionWrites.{SubsetIndexerRefusals}

-- what is written passes its tests
pub update_refused : (failed : Bool) (shape : List ℕ) (data_type : DataType) (selection : Selection) (subset : Subset) (update : Array) (old new : HandleState)
    (refusals : Subset → CodecError → Type 0) (e : CodecError) → failed ≡ false → IsUpdateOf shape data_type selection update → selection ≡ subset_selection subset
    → RefusedBy (ObjectRefusals old new (refusals subset)) e
    → RefusedBy (failed ≡ false or SessionFailed then UpdateRefusals shape data_type selection update (ObjectRefusals old new (SubsetIndexerRefusals selection.subset refusals))) e
update_refused failed shape data_type selection subset update old new refusals e usable u same h =
    elim h [
      | inl memory ↦ inl memory
      | inr refused ↦ inr (inr (
        usable,
        inr (
          u.is_subset,
          inr (
            u.axes,
            inr (
              u.within,
              inr (
                u.kind,
                inr (
                  u.counted,
                  λ t. elim (refused t) [
                    | inl fault ↦ inl fault
                    | inr r ↦ inr (rw same r)
                  ],
                ),
              ),
            ),
          ),
        ),
      ))
    ]
