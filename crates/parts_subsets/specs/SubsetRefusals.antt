-- Which tests the calls on subsets make, in their order.
use Rattle.std.specs.Prelude.{◌≡◌, ℕ, ◌^◌, ◌<◌, List, length}
use Rattle.parts_errors.specs.Words.{Refusals}
use Rattle.parts_errors.specs.Order.{◌or◌then◌}
use Rattle.parts_row_major.specs.Numbering.{count_of}
use Rattle.parts_row_major.specs.Subsets.{Subset, LiesIn}
use Rattle.parts_errors.specs.declared.error.CodecError.TheVariants.{TooLarge, IncompatibleDimensionality, OutOfBounds}

-- the tests of a subset in a shape
abbrev pub SubsetRefusals : Subset → List ℕ → Refusals → Refusals
SubsetRefusals subset shape later =
    length subset.start ≡ length shape or IncompatibleDimensionality then
    LiesIn subset shape or OutOfBounds then
    count_of shape < 2 ^ 64 or TooLarge then
    later
