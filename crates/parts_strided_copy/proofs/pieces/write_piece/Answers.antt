use Rattle.std.proofs.Common.{arith}
use Rattle.parts_row_major.proofs.PieceLaws.{piece_kept}
use Rattle.parts_strided_copy.proofs.pieces.write_piece.Goals as goal

pub returns-clause-others : goal.returns-clause-others
returns-clause-others c = λ k ne.
    piece_kept c.args.size c.args.i c.args.bytes.now c.copy_from_slice.new.self c.requires.inside (omega arith) _ k (omega arith) ne
