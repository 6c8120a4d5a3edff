-- Where two subsets meet, and a subset seen from another origin.
use Rattle.std.specs.Prelude.{◌≡◌, ℕ, ◌-◌, ◌≤◌, max, min, List, length}
use Rattle.std.specs.List.{AllZip}
use Rattle.parts_errors.specs.Words.{Refusals}
use Rattle.parts_errors.specs.Order.{◌or◌then◌}
use Rattle.parts_row_major.specs.Numbering.{zip_with}
use Rattle.parts_row_major.specs.Subsets.{Subset, end_of}
use Rattle.parts_errors.specs.declared.error.CodecError.TheVariants.{IncompatibleDimensionality, OutOfBounds}

-- where two subsets meet: from the larger start to the smaller end along each axis, and of length 0 where that end comes no later
abbrev pub overlap_of : Subset → Subset → Subset
overlap_of subset other =
    let start = zip_with max subset.start other.start in
    record { start = start; shape = zip_with ◌-◌ (zip_with min (end_of subset) (end_of other)) start }

-- a subset with its coordinates counted from an origin
abbrev pub relative_subset : Subset → List ℕ → Subset
relative_subset subset origin = record { start = zip_with ◌-◌ subset.start origin; shape = subset.shape }

-- the tests of an origin that a subset's coordinates are to be counted from
abbrev pub OriginRefusals : Subset → List ℕ → Refusals → Refusals
OriginRefusals subset origin later =
    length subset.start ≡ length origin or IncompatibleDimensionality then
    AllZip ◌≤◌ origin subset.start or OutOfBounds then
    later
