-- What a handle over a file is, and the intervals that it reads.
use Rattle.std.specs.Prelude.{◌≡◌, ◌≤◌, ⊤, ℕ, ◌+◌, ◌-◌, false, true, Some, None}
use Rattle.storage_handles.specs.Handles.{HandleState}
use Rattle.storage_handles.specs.declared.bytes.Interval.{Interval}
use Rattle.storage_handles.specs.declared.bytes.ByteRange.{ByteRange}
use Rattle.storage_handles.specs.declared.bytes.ByteRange.TheVariants.{FromStart, Suffix}

-- how often a call of the system failed, and how many bytes are held: those that were read last
pub record FileUse : Type 0 where
  pub faults : ℕ
  pub cached : ℕ

-- a handle that never tells what its file holds
abbrev pub untold : FileUse → HandleState
untold used = record {
  transparent = false;
  contents = None;
  faults = used.faults;
  cached = used.cached;
  supports = record { decode = true; encode = true };
}

-- a range lies in an object of so many bytes
abbrev pub RangeFits : ByteRange → ℕ → Type 0
RangeFits (FromStart offset None) length = offset ≤ length
RangeFits (FromStart offset (Some size)) length = offset + size ≤ length
RangeFits (Suffix size) length = size ≤ length

-- its interval there
abbrev pub range_interval : ByteRange → ℕ → Interval
range_interval (FromStart offset None) length = record { offset = offset; size = length - offset }
range_interval (FromStart offset (Some size)) length = record { offset = offset; size = size }
range_interval (Suffix size) length = record { offset = length - size; size = size }

-- so many bytes are as many as were asked, where a number was asked
abbrev pub IsRequestedSize : ByteRange → ℕ → Type 0
IsRequestedSize (FromStart offset None) size = ⊤
IsRequestedSize (FromStart offset (Some requested)) size = size ≡ requested
IsRequestedSize (Suffix requested) size = size ≡ requested
