-- The numbers of the pieces so far.
use Rattle.std.proofs.Common.{◌≡◌, ◌*◌, IsTrue, min, length, map}
use Rattle.parts_row_major.specs.Pieces.{pieces}
use Rattle.storage_handles.specs.Handles.{IsRead}
use Rattle.storage_handles.specs.Objects.{interval_part}
use Rattle.sharding_format.specs.Index.{number_of_element}
use Rattle.sharding_index.proofs.pieces.read_numbers.Given as goal

abbrev pub invariant-loop-piece : goal.invariant-loop-piece
invariant-loop-piece g l = let h = g.H.BytesPartialDecoderTraits in record {
  read : IsRead (h.state l.fn.handle) (h.state l.handle);
  counted : length l.numbers.items ≡ min (l.piece * 8192) l.count;
  so_far : IsTrue (h.state l.fn.handle).transparent
      → l.numbers.items ≡ map number_of_element (pieces 8 (min (l.piece * 8192) l.count) (interval_part l.interval (h.state l.fn.handle).contents));
}
