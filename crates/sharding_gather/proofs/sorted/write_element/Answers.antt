use Rattle.std.proofs.Common.{arith}
use Rattle.parts_row_major.proofs.PieceLaws.{piece_kept}
use Rattle.sharding_gather.proofs.sorted.write_element.Goals as goal

pub returns-clause-others : goal.returns-clause-others
returns-clause-others c = λ k ne.
    piece_kept c.args.size c.args.i c.args.bytes.now c.copy_from_slice.new.self c.requires.inside (omega arith) _ k (omega arith) ne
