-- What always holds of an update has one proof at most, so that a struct can keep it.
use Rattle.std.specs.Prelude.{◌<◌, ◌+◌, ◌^◌, ℕ, List}
use Rattle.std.specs.List.{All}
use Rattle.std.specs.Coded.{Π_prop, le_prop}
use Rattle.parts_row_major.specs.Subsets.{IsSubset}
use Rattle.parts_arrays.specs.Types.{FitsKind}
use Rattle.parts_arrays.specs.declared.data_type.DataTypeSize.{DataTypeSize}
use Rattle.sharding_subchunks.specs.ShardLaws.{all_zip-prop, fits_kind-prop}

pub is_subset-prop : (start shape : List ℕ) → IsProp (IsSubset start shape)
is_subset-prop start shape = all_zip-prop (λ first len. first + len < 2 ^ 64) (λ first len. le_prop) start shape

pub all_fit_kind-prop : (kind : DataTypeSize) (elements : List (List ℕ)) → IsProp (All (FitsKind kind) elements)
all_fit_kind-prop kind elements = Π_prop (λ k. Π_prop (λ d. Π_prop (λ below. fits_kind-prop kind _)))
