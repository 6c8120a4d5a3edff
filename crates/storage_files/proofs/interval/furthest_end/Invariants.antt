use Rattle.std.proofs.Common.{◌≡◌, [], length, take}
use Rattle.storage_handles.specs.Writes.{written_all}
use Rattle.storage_files.proofs.interval.furthest_end.Given as goal

-- the furthest end of the pieces so far
abbrev pub invariant-loop-piece : goal.invariant-loop-piece
invariant-loop-piece l = l.furthest ≡ length (written_all (take l.piece-index l.pieces) [])
