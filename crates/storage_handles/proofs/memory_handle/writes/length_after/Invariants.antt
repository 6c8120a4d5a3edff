use Rattle.std.proofs.Common.{◌≡◌, length, take}
use Rattle.storage_handles.specs.Writes.{written_all}
use Rattle.storage_handles.proofs.memory_handle.writes.length_after.Given as goal

-- the length once the pieces so far are written
abbrev pub invariant-loop-piece : goal.invariant-loop-piece
invariant-loop-piece l = l.length ≡ length (written_all (take l.piece-index l.pieces) l.bytes)
