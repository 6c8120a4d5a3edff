-- Intervals of an object, and tests that look at an object.
use Rattle.std.specs.Prelude.{◌≤◌, ◌⊎◌, ℕ, ◌+◌, IsTrue, Option, Some, None, List, [], length, take, drop}
use Rattle.parts_errors.specs.Order.{◌or◌then◌}
use Rattle.parts_errors.specs.declared.error.CodecError.{CodecError}
use Rattle.parts_errors.specs.declared.error.CodecError.TheVariants.{OutOfBounds}
use Rattle.storage_handles.specs.declared.bytes.Interval.{Interval}
use Rattle.storage_handles.specs.Handles.{HandleState, MayFault}

-- the bytes of an interval of an object; none where there is no object
abbrev pub interval_part : Interval → Option (List ℕ) → List ℕ
interval_part interval None = []
interval_part interval (Some bytes) = take interval.size (drop interval.offset bytes)

-- the interval lies in an object, which is there
abbrev pub HasInterval : Interval → Option (List ℕ) → Type 0
HasInterval interval None = ⊥
HasInterval interval (Some bytes) = interval.offset + interval.size ≤ length bytes

-- the tests of an interval of an object, which refuse it where there is no object, and of its bytes
abbrev pub IntervalRefusals : Interval → Option (List ℕ) → (List ℕ → CodecError → Type 0) → CodecError → Type 0
IntervalRefusals interval contents refusals =
    HasInterval interval contents or OutOfBounds then
    refusals (interval_part interval contents)

-- tests that look at an object: a fault that was counted may come at each of them; of an object that the handle does not tell nothing
-- is said
abbrev pub ObjectRefusals : HandleState → HandleState → (CodecError → Type 0) → CodecError → Type 0
ObjectRefusals old new refusals = λ e. IsTrue old.transparent → MayFault old new e ⊎ refusals e
