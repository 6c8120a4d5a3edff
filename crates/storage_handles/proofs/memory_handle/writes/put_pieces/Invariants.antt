use Rattle.std.proofs.Common.{◌≡◌, ◌≤◌, take}
use Rattle.std.specs.Vec.{vec_capacity}
use Rattle.storage_handles.specs.Writes.{written_all}
use Rattle.storage_handles.proofs.memory_handle.writes.put_pieces.Given as goal

-- the pieces so far are written, and there is no less room
abbrev pub invariant-loop-piece : goal.invariant-loop-piece
invariant-loop-piece l = record {
  so_far : l.bytes.items ≡ written_all (take l.piece-index l.pieces) l.initial.bytes.items;
  room : vec_capacity l.initial.bytes ≤ vec_capacity l.bytes;
}
