-- What a shard's plan says: its grid and its subchunks are not empty.
use Rattle.std.proofs.Common.{ℕ, ◌<◌, List, sym}
use Rattle.parts_row_major.specs.Numbering.{count_of, AllPositive}
use Rattle.parts_subsets.specs.Grid.{grid_of, Divides}
use Rattle.parts_subsets.proofs.GridLaws.{count-positive, count-grid, grid_positive, positive_factor}

pub some_subchunks : (shape sub : List ℕ) → AllPositive shape → Divides sub shape → 0 < count_of (grid_of shape sub)
some_subchunks shape sub positive divides = count-positive (grid_of shape sub) (grid_positive shape sub positive divides)

pub some_positions : (shape sub : List ℕ) → AllPositive shape → Divides sub shape → 0 < count_of sub
some_positions shape sub positive divides =
    positive_factor (count_of (grid_of shape sub)) (count_of sub) (count_of shape) (count-positive shape positive) (sym (count-grid shape sub divides))
