use Rattle.std.proofs.Common.{◌≡◌, ◌+◌, ◌-◌, ◌*◌, arith}
use Rattle.parts_row_major.proofs.PieceLaws.{run_pieces}
use Rattle.parts_strided_copy.proofs.pieces.run_at.Goals as goal

pub returns : goal.returns
returns c =
    let len : c.args.first * c.args.size + c.args.len * c.args.size - c.args.first * c.args.size ≡ c.args.len * c.args.size = omega arith in
    rw len (run_pieces c.args.size c.args.first c.args.len c.args.bytes.now)
