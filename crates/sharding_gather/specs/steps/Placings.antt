-- Subsets of subsets.
use Rattle.std.specs.Prelude.{◌+◌, []}
use Rattle.parts_row_major.specs.Numbering.{zip_with}
use Rattle.parts_row_major.specs.Subsets.{Subset}

-- a subset of an array that is itself a subset of another array, as a subset of this one
abbrev pub shifted_subset : (outer inner : Subset) → Subset
shifted_subset outer inner = record { start = zip_with ◌+◌ outer.start inner.start; shape = inner.shape }

-- no subset at all
abbrev pub no_subset : Subset
no_subset = record { start = []; shape = [] }
