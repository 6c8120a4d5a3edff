use Rattle.std.proofs.Common.{◌∙◌, refl, sym, arith}
use Rattle.storage_handles.proofs.WriteLaws.{no_piece, length-written_more, piece_within}
use Rattle.storage_handles.proofs.memory_handle.writes.length_after.Goals as goal

pub loop-piece-preserved : goal.loop-piece-preserved
loop-piece-preserved c =
    c.max-length.ensures ∙ (rw c.loop-piece.invariant (sym (length-written_more c.args.pieces.now c.args.bytes.now c.loop-piece.piece-index no_piece c.loop-piece-test.true)))

pub returns-then-piece-size-clause-too_large : goal.returns-then-piece-size-clause-too_large
returns-then-piece-size-clause-too_large c =
    (refl, omega (arith, piece_within c.args.pieces.now c.args.bytes.now c.loop-piece.piece-index no_piece c.loop-piece-test.true))
