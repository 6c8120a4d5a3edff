use Rattle.std.proofs.Common.{arith}
use Rattle.storage_handles.proofs.WriteLaws.{no_piece, piece_within}
use Rattle.storage_handles.proofs.memory_handle.writes.put_pieces.Goals as goal

pub put_piece-requires : goal.put_piece-requires
put_piece-requires c =
    omega (arith, c.requires, c.loop-piece.invariant.room, piece_within c.args.pieces.now c.args.bytes.now.items c.loop-piece.piece-index no_piece c.loop-piece-test.true)
