-- A list of numbers that is not held where it ascends.
use Rattle.std.specs.Prelude.{ℕ, Bool, true, false, List}
use Rattle.std.specs.List.{range_with_len}

abbrev pub numbers_of : Bool → ℕ → List ℕ → List ℕ
numbers_of true count listed = range_with_len 0 count
numbers_of false count listed = listed
